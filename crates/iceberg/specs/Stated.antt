-- A defaults table in the specification's terms: what it states of each field.
use Rattle.std.specs.Prelude.{ℕ, zero, suc, Bool, true, false, List}
use Rattle.layout.specs.Parser.{choose}
use Rattle.layout.specs.declared.columns.FieldId.{FieldId}
use Rattle.values.specs.Value.{Values, vnil, vcons, is_null_value}
use Rattle.defaults.specs.Table.{Given, initial, partition, failed, Entry}
use Rattle.defaults.specs.Lookup.{is_partition_of, is_initial_of, first_entry_of}
use Rattle.iceberg.specs.Specification.{PartitionValue, no_transform, not_present, null_present, partitioned, InitialDefault, undefined, defined, empty}
use Rattle.iceberg.specs.Specification.{Metadata}

-- whether a null in the partition tuple is present, as the text leaves open
abbrev pub of_null : Bool → PartitionValue
of_null true = null_present
of_null false = not_present

-- the value of the source k in a partition's values, counted from 0
unfoldable pub tuple_at : Bool → Values → ℕ → PartitionValue
tuple_at nulls vnil k = not_present
tuple_at nulls (vcons v vs) zero = choose (is_null_value v) (of_null nulls) (partitioned v)
tuple_at nulls (vcons v vs) (suc k) = tuple_at nulls vs k

-- values that failed to load are not present
unfoldable pub partition_of : Bool → ℕ → Given → PartitionValue
partition_of nulls k (initial l x) = no_transform
partition_of nulls k (partition l xs) = tuple_at nulls xs k
partition_of nulls k failed = not_present

abbrev pub empty_if : Bool → InitialDefault
empty_if true = empty
empty_if false = undefined

unfoldable pub initial_of : Given → InitialDefault
initial_of (initial l x) = choose (is_null_value x) undefined (defined x)
initial_of (partition l xs) = undefined
initial_of failed = undefined

-- The metadata of a table's entries at the source k. A table has no entries for `{}` and `[]`: which fields have them
-- for their initial default stands beside it.
unfoldable pub stated : Bool → List Entry → ℕ → (FieldId → Bool) → Metadata
stated nulls es k empties =
    record {
      partition = λ i. first_entry_of (is_partition_of i) (partition_of nulls k) es no_transform;
      initial_default = λ i. first_entry_of (is_initial_of i) initial_of es (empty_if (empties i));
    }
