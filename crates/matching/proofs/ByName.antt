-- By name a column with no counterpart is null: no default is found. Assumes nothing.
use Prim.Native.Nat.{ℕ}
use mathlib.Core.Path.{◌≡◌, refl}
use mathlib.Core.Bool.{Bool, false, not}
use Rattle.layout.specs.Parser.{choose}
use Rattle.layout.specs.Tree.{Label, ColumnType, cleaf, cstruct, clist, carray, Columns, cnil, ccons, dtype_of}
use Rattle.layout.specs.declared.columns.FieldId.{FieldId}
use Rattle.values.specs.Value.{vnull, vnil, vcons}
use Rattle.plan.specs.Result.{gives, ◌>>=◌, demand}
use Rattle.plan.specs.Selector.{constant}
use Rattle.matching.specs.Default.{no_defaults, none, leaf_default, FieldDefaults, with_field, struct_default, build_iceberg_default_value, defaults_of}
use Rattle.matching.specs.Default.{missing_value}
use Rattle.matching.specs.Build.{missing}
use Rattle.matching.proofs.Required.{fills_null}

-- a struct's fields have none
record NoneOf (cs : Columns) : Type 0 where
  fields : FieldDefaults
  is : defaults_of no_defaults cs ≡ gives fields
  none : fields.any ≡ false

mutual
  unfolding build_iceberg_default_value defaults_of leaf_default with_field struct_default choose ◌>>=◌

  default_none : (t : ColumnType) (i : FieldId) → build_iceberg_default_value no_defaults i t ≡ gives none
  default_none (cleaf l) i = refl
  default_none (cstruct cs) i = let N = defaults_none cs in rw (N.is, N.none)
  default_none (clist l t) i = refl
  default_none (carray w l t) i = refl

  defaults_none : (cs : Columns) → NoneOf cs
  defaults_none cnil = record { fields = record { any = false; values = vnil }; is = refl; none = refl }
  defaults_none (ccons l t cs) =
      let N = defaults_none cs in
      record { fields = record { any = N.fields.any; values = vcons vnull N.fields.values }; is = rw (default_none t l.id, N.is); none = N.none }

pub missing-null : (l : Label) (t : ColumnType) → missing_value no_defaults l t ≡ gives vnull
unfolding missing_value ◌>>=◌
missing-null l t = rw (default_none t l.id)

-- 54 where it is required
pub missing-constant : (insert : Bool) (n : ℕ) (l : Label) (t : ColumnType)
    → missing no_defaults insert n l t ≡ demand insert n (demand (not l.required) 54 (gives (constant l.name (dtype_of t) vnull)))
unfolding missing ◌>>=◌
missing-constant insert n l t = rw (missing-null l t, fills_null l t)
