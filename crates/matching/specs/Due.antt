-- Document 01, the last part of "Plans, check and run": the record due to a build, worked out from the build's
-- arguments and the record, never from the plan.
use Rattle.layout.specs.Parser.{choose}
use Rattle.layout.specs.Tree.{LeafType, null, leaf_of, ColumnType, cleaf, cstruct, clist, carray, Columns, cnil, ccons, leaf}
use Rattle.layout.specs.Find.{Lookup, absent, present, counterpart}
use Rattle.layout.specs.declared.matching.Matching.{Matching}
use Rattle.forms.specs.Same.{equal_types}
use Rattle.values.specs.Value.{Value, vnull, Values, vnil, vcons}
use Rattle.plan.specs.Result.{Result, gives, refuses}
use Rattle.plan.specs.Run.{value_at, cast_leaf, on_struct, on_list, on_array}
use Rattle.matching.specs.Default.{Defaults, no_defaults, missing_value}

-- ---- the incoming type's parts. A type of another kind, which an accepted build has only where it is null, has none:
-- its values are null.

abbrev pub leaf_in : ColumnType → LeafType
leaf_in (cleaf l) = l
leaf_in (cstruct cs) = null
leaf_in (clist l t) = null
leaf_in (carray w l t) = null

abbrev pub fields_in : ColumnType → Columns
fields_in (cleaf l) = cnil
fields_in (cstruct cs) = cs
fields_in (clist l t) = cnil
fields_in (carray w l t) = cnil

abbrev pub element_in : ColumnType → ColumnType
element_in (cleaf l) = cleaf null
element_in (cstruct cs) = cleaf null
element_in (clist l t) = t
element_in (carray w l t) = t

-- ---- the values

-- "a leaf changes as Run says for its pair, or not at all between equal types"; null stays null
unfoldable pub due_leaf : LeafType → LeafType → Value → Value
due_leaf incoming target x = choose (equal_types (leaf incoming) (leaf target)) x (cast_leaf (leaf_of target) x)

-- "its default if it has one, else null"
unfoldable pub or_else_null : Result Value → Value
or_else_null (gives x) = x
or_else_null (refuses n) = vnull

-- f of a counterpart's type and value; with no counterpart x
unfoldable pub from_counterpart : Lookup → Value → (ColumnType → Value → Value) → Values → Value
from_counterpart absent x f vs = x
from_counterpart (present k l t) x f vs = f t (value_at vs k.0)

-- `due v d u t x`: what the value x of the incoming type t becomes in the target type u. "By rule, null stays null; ..
-- a struct takes each target field in this same way and drops the rest; a list or array converts each element in
-- order."
unfoldable mutual
  pub due : Matching → Defaults → ColumnType → ColumnType → Value → Value
  due v d (cleaf u) t x = due_leaf (leaf_in t) u x
  due v d (cstruct gs) t x = on_struct (λ vs. dues v d gs (fields_in t) vs) x
  due v d (clist l u) t x = on_list (λ y. due v no_defaults u (element_in t) y) x
  due v d (carray w l u) t x = on_array (λ y. due v no_defaults u (element_in t) y) x

  -- "Each target column in order takes its counterpart's value, converted by rule; with no counterpart, by number its
  -- default if it has one, else null."
  pub dues : Matching → Defaults → Columns → Columns → Values → Values
  dues v d cnil fs vs = vnil
  dues v d (ccons l u gs) fs vs =
      vcons (from_counterpart (counterpart v l fs) (or_else_null (missing_value d l u)) (λ t x. due v d u t x) vs) (dues v d gs fs vs)
