-- Document 01, "Defaults": the value that the table gives for an id, as source 003's `get_default_value` finds it: a
-- partition entry wins; failed is 26; null or past the end is no default, and no initial one is tried; a null initial
-- value is none.
use Rattle.std.specs.Prelude.{ℕ, zero, suc, Bool, true, false, not, ◌&&◌, List, [], ◌∷◌, eqb}
use Rattle.layout.specs.Parser.{choose}
use Rattle.layout.specs.Tree.{LeafType}
use Rattle.layout.specs.declared.columns.FieldId.{FieldId}
use Rattle.values.specs.Value.{Value, Values, vnil, vcons, is_null_value}
use Rattle.defaults.specs.Table.{Given, initial, partition, failed, Entry, is_partition}

-- nothing, or a value that is not null, with its type; or a refusal's number
pub data Taken : Type 0 where
  refused : ℕ → Taken
  nothing : Taken
  taken : LeafType → Value → Taken

-- a null value is not taken
unfoldable pub unless_null : LeafType → Value → Taken
unless_null l v = choose (is_null_value v) nothing (taken l v)

-- the value of the source k, counted from 0; past the end there is none
unfoldable pub of_source : LeafType → Values → ℕ → Taken
of_source l vnil k = nothing
of_source l (vcons v vs) zero = unless_null l v
of_source l (vcons v vs) (suc k) = of_source l vs k

-- what an entry gives the source k: 26 where a partition's values could not be loaded
unfoldable pub given_to : ℕ → Given → Taken
given_to k (initial l v) = unless_null l v
given_to k (partition l vs) = of_source l vs k
given_to k failed = refused 26

abbrev pub is_partition_of : FieldId → Entry → Bool
is_partition_of i e = eqb e.id.0 i.0 && is_partition e.given

abbrev pub is_initial_of : FieldId → Entry → Bool
is_initial_of i e = eqb e.id.0 i.0 && not (is_partition e.given)

-- g of the first entry that f takes, or else r
unfoldable pub first_entry_of : {A : Type 0} → (Entry → Bool) → (Given → A) → List Entry → A → A
first_entry_of f g [] r = r
first_entry_of f g (e ∷ es) r = choose (f e) (g e.given) (first_entry_of f g es r)

-- `get_default_value`: a partition entry wins, and where it gives nothing no initial one is tried
unfoldable pub get_default_value : List Entry → ℕ → FieldId → Taken
get_default_value es k i = first_entry_of (is_partition_of i) (given_to k) es (first_entry_of (is_initial_of i) (given_to k) es nothing)
