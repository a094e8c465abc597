-- Document 01, "Defaults": the value that stands for a field with no counterpart, as source 000's
-- `build_iceberg_default_value` finds it.
use Rattle.std.specs.Prelude.{Bool, true, false, ◌||◌}
use Rattle.layout.specs.Parser.{choose}
use Rattle.layout.specs.Tree.{LeafType, Label, ColumnType, cleaf, cstruct, clist, carray, Columns, cnil, ccons, leaf}
use Rattle.layout.specs.declared.columns.FieldId.{FieldId}
use Rattle.forms.specs.Same.{equal_types}
use Rattle.values.specs.Value.{Value, vnull, vstruct, Values, vnil, vcons}
use Rattle.defaults.specs.Lookup.{Taken, refused, nothing, taken}
use Rattle.plan.specs.Result.{Result, gives, refuses, ◌>>=◌, demand}

-- What is asked for a default: by number a table at a source index (`get_default_value`). By name, and inside elements,
-- there is none.
abbrev pub Defaults : Type 0
Defaults = FieldId → Taken

abbrev pub no_defaults : Defaults
no_defaults i = nothing

-- ---- a field's default

pub data Default : Type 0 where
  none : Default
  some : Value → Default

abbrev pub or_null : Default → Value
or_null none = vnull
or_null (some v) = v

abbrev pub is_some : Default → Bool
is_some none = false
is_some (some v) = true

-- 26 is the table's; 28: a value taken as a default has a type unlike the field's
unfoldable pub leaf_default : LeafType → Taken → Result Default
leaf_default l (refused n) = refuses n
leaf_default l nothing = gives none
leaf_default l (taken m v) = demand (equal_types (leaf m) (leaf l)) 28 (gives (some v))

-- a struct's fields: their defaults, null where none, and whether one has any
pub record FieldDefaults : Type 0 where
  pub any : Bool
  pub values : Values

unfoldable pub with_field : Default → FieldDefaults → FieldDefaults
with_field x g = record { any = is_some x || g.any; values = vcons (or_null x) g.values }

-- "a struct's default has its fields' defaults, null where none; none if all are none"
unfoldable pub struct_default : FieldDefaults → Default
struct_default g = choose g.any (some (vstruct g.values)) none

-- `build_iceberg_default_value`: "lists and arrays have none"; only a leaf's id is looked up. The first 26 or 28, in
-- the order of the fields, stays.
unfoldable mutual
  pub build_iceberg_default_value : Defaults → FieldId → ColumnType → Result Default
  build_iceberg_default_value d i (cleaf l) = leaf_default l (d i)
  build_iceberg_default_value d i (cstruct cs) = defaults_of d cs >>= λ g. gives (struct_default g)
  build_iceberg_default_value d i (clist l t) = gives none
  build_iceberg_default_value d i (carray w l t) = gives none

  pub defaults_of : Defaults → Columns → Result FieldDefaults
  defaults_of d cnil = gives (record { any = false; values = vnil })
  defaults_of d (ccons l t cs) = build_iceberg_default_value d l.id t >>= λ x. defaults_of d cs >>= λ g. gives (with_field x g)

-- what stands for a column with no counterpart: its default, or else null
unfoldable pub missing_value : Defaults → Label → ColumnType → Result Value
missing_value d l t = build_iceberg_default_value d l.id t >>= λ x. gives (or_null x)
