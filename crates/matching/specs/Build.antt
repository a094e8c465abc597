-- Document 01, "Matching": both builders, in the shape of source 000: `build_column_selector` with `attach_transforms`
-- by name, and `attach_iceberg_transforms` by number; where they differ stands in the second part. 53 is document 02's
-- (L3), as are 54 and 55 (L5).
use Rattle.std.specs.Prelude.{ℕ, ◌+◌, Bool, true, false, ◌&&◌, ◌||◌, not, eqb}
use Rattle.layout.specs.Bytes.{same_bytes}
use Rattle.layout.specs.Parser.{choose}
use Rattle.layout.specs.Tree.{LeafType, leaf_of, Label, ColumnType, cleaf, cstruct, clist, carray, Columns, cnil, ccons, count_columns, leaf, dtype_of}
use Rattle.layout.specs.Find.{Lookup, absent, present, column_named, counterpart}
use Rattle.layout.specs.declared.columns.Position.{Position}
use Rattle.layout.specs.declared.matching.Matching.{Matching}
use Rattle.layout.specs.declared.matching.Matching.TheVariants.{ByName, ByNumber}
use Rattle.rules.specs.declared.policy.Policy.{Policy}
use Rattle.rules.specs.declared.policy.MissingColumnsPolicy.{MissingColumnsPolicy}
use Rattle.rules.specs.declared.policy.ExtraColumnsPolicy.{ExtraColumnsPolicy}
use Rattle.rules.specs.declared.outcome.CastOption.TheVariants.{NonStrict}
use Rattle.rules.specs.Outcomes.{Verdict, untouched, refused}
use Rattle.rules.specs.Classes.{is_null}
use Rattle.rules.specs.Pairs.{pair_rule}
use Rattle.values.specs.Value.{Value}
use Rattle.plan.specs.Result.{Result, gives, refuses, ◌>>=◌, demand, Answer, accepted, refused_at, placed, answered}
use Rattle.plan.specs.Nullness.{of_value}
use Rattle.plan.specs.Marks.{meets}
use Rattle.plan.specs.Selector.{Selector, position, constant, cast, rename, struct_mapping, list_mapping, array_mapping, Selectors, snil, scons, count_selectors}
use Rattle.matching.specs.Default.{Defaults, no_defaults, missing_value}

-- ---- the incoming type's parts, or else the plain mismatch, 24 (`let .. else`)

unfoldable pub leaf_part : ColumnType → Result LeafType
leaf_part (cleaf l) = gives l
leaf_part (cstruct cs) = refuses 24
leaf_part (clist l t) = refuses 24
leaf_part (carray w l t) = refuses 24

unfoldable pub struct_part : ColumnType → Result Columns
struct_part (cleaf l) = refuses 24
struct_part (cstruct cs) = gives cs
struct_part (clist l t) = refuses 24
struct_part (carray w l t) = refuses 24

-- a list's or array's element
pub record Element : Type 0 where
  pub label : Label
  pub type : ColumnType

unfoldable pub list_part : ColumnType → Result Element
list_part (cleaf l) = refuses 24
list_part (cstruct cs) = refuses 24
list_part (clist l t) = gives (record { label = l; type = t })
list_part (carray w l t) = refuses 24

-- "Array: 24 also for unequal widths"
unfoldable pub array_part : ℕ → ColumnType → Result Element
array_part w (cleaf l) = refuses 24
array_part w (cstruct cs) = refuses 24
array_part w (clist l t) = refuses 24
array_part w (carray x l t) = demand (eqb x w) 24 (gives (record { label = l; type = t }))

unfoldable pub is_null_type : ColumnType → Bool
is_null_type (cleaf l) = is_null (leaf_of l)
is_null_type (cstruct cs) = false
is_null_type (clist l t) = false
is_null_type (carray w l t) = false

-- ---- where the two ways of matching differ

-- `counterpart` (layout, specs/Find.antt): the column of the same name; by number, of the same id

abbrev pub is_by_name : Matching → Bool
is_by_name ByName = true
is_by_name ByNumber = false

-- By name "null incoming, other target (nested too): 15 `null_upcast` off, else NonStrict cast"; another type goes on
-- with r. By number null against a nested type is 24. A leaf target goes by the rule of its pair in both.
unfoldable pub unless_null_type : Matching → Policy → Position → ColumnType → ColumnType → Result Selector → Result Selector
unless_null_type v p k u t r = choose (is_by_name v && is_null_type t) (demand p.null_upcast 15 (gives (cast (position k) (dtype_of u) NonStrict))) r

-- By number "unequal names add a rename outside".
unfoldable pub renamed : Matching → Label → Label → Selector → Selector
renamed ByName target incoming s = s
renamed ByNumber target incoming s = choose (same_bytes incoming.name target.name) s (rename s target.name)

-- stands for `LIST_ELEMENT_DEFAULT_ID`
abbrev pub element_default_id : ℕ
element_default_id = 4294967295

-- By number "25 when ids differ and neither is 4,294,967,295".
unfoldable pub same_element : Matching → Label → Label → Bool
same_element ByName a b = true
same_element ByNumber a b = eqb a.id.0 b.id.0 || eqb a.id.0 element_default_id || eqb b.id.0 element_default_id

abbrev pub is_absent : Lookup → Bool
is_absent absent = true
is_absent (present k l t) = false

-- no name is repeated
unfoldable pub distinct_names : Columns → Bool
distinct_names cnil = true
distinct_names (ccons l t cs) = is_absent (column_named l.name cs) && distinct_names cs

-- 12; by number "a struct has no test 12"
unfoldable pub distinct : Matching → Columns → Bool
distinct ByName cs = distinct_names cs
distinct ByNumber cs = true

-- ---- 11, 13, 14 and 53

-- each of the incoming fields fs has a counterpart in the target's gs
unfoldable pub no_extra_of : Matching → Columns → Columns → Bool
no_extra_of v cnil gs = true
no_extra_of v (ccons l t fs) gs = not (is_absent (counterpart v l gs)) && no_extra_of v fs gs

abbrev pub ignores : ExtraColumnsPolicy → Bool
ignores ExtraColumnsPolicy.Ignore = true
ignores ExtraColumnsPolicy.Raise = false

abbrev pub inserts : MissingColumnsPolicy → Bool
inserts MissingColumnsPolicy.Insert = true
inserts MissingColumnsPolicy.Raise = false

-- 53 (document 02, L3). `extra_column_err`: "the first incoming column with no target counterpart refuses the build",
-- "its place being the incoming position"; the incoming columns are fs, the first's position being i, the target's gs
unfoldable pub extra_column_err : Matching → Columns → Columns → ℕ → Answer (Unit {0})
extra_column_err v cnil gs i = accepted tt
extra_column_err v (ccons l t fs) gs i = choose (is_absent (counterpart v l gs)) (refused_at 53 i) (extra_column_err v fs gs (i + 1))

-- "A policy value Raise for top columns"; "Ignore is as before"
unfoldable pub extra_columns : ExtraColumnsPolicy → Matching → Columns → Columns → Answer (Unit {0})
extra_columns ExtraColumnsPolicy.Ignore v fs gs = accepted tt
extra_columns ExtraColumnsPolicy.Raise v fs gs = extra_column_err v fs gs 0

-- ---- 54 and 55 (document 02, L5)

-- 55 "when an optional or null-type field meets a required one": not so where the column a, of the type t, meets b
unfoldable pub keeps_required : Label → ColumnType → Label → Bool
keeps_required a t b = not b.required || (a.required && not (is_null_type t))

-- 54 "when a missing required field, or a required field in the default put in for a missing one, would be null": not
-- so where the value x stands for the missing column l, of the type u; "below a null there is no value"
unfoldable pub fills_required : Label → ColumnType → Value → Bool
fills_required l u x = meets (of_value x) l.required u

-- a column with no counterpart: a constant under Insert, else the refusal n; 54 is "tested once that default is worked
-- out"
unfoldable pub missing : Defaults → Bool → ℕ → Label → ColumnType → Result Selector
missing d insert n l u = demand insert n (missing_value d l u >>= λ x. demand (fills_required l u x) 54 (gives (constant l.name (dtype_of u) x)))

-- ---- the selectors

-- a leaf, by the rule of its pair
unfoldable pub ruled : Verdict → Position → LeafType → Result Selector
ruled untouched k u = gives (position k)
ruled (refused n) k u = refuses n
ruled (Verdict.cast o) k u = gives (cast (position k) (leaf u) o)

-- the selector is the bare position i
unfoldable pub is_position : ℕ → Selector → Bool
is_position i (position k) = eqb k.0 i
is_position i (constant n t x) = false
is_position i (cast s t o) = false
is_position i (rename s n) = false
is_position i (struct_mapping s ss) = false
is_position i (list_mapping s e) = false
is_position i (array_mapping s e) = false

-- each selector is its own number's bare position, the first's being i
unfoldable pub in_place_of : ℕ → Selectors → Bool
in_place_of i snil = true
in_place_of i (scons s ss) = is_position i s && in_place_of (i + 1) ss

-- "A mapping is left out when it takes position i at each i with equal counts (list or array: bare position 0)":
-- `is_input_passthrough`
unfoldable pub struct_selector : Position → Columns → Selectors → Selector
struct_selector k fs ss = choose (eqb (count_columns fs) (count_selectors ss) && in_place_of 0 ss) (position k) (struct_mapping (position k) ss)

unfoldable pub list_selector : Position → Selector → Selector
list_selector k s = choose (is_position 0 s) (position k) (list_mapping (position k) s)

unfoldable pub array_selector : Position → Selector → Selector
array_selector k s = choose (is_position 0 s) (position k) (array_mapping (position k) s)

abbrev pub first : Position
first = record { 0 = 0 }

-- what was looked up, or else r
unfoldable pub sought : Lookup → Result Selector → (Position → Label → ColumnType → Result Selector) → Result Selector
sought absent r f = r
sought (present k l t) r f = f k l t

-- `attach_transforms v p d u k t`: the selector that takes position k, of the incoming type t, to the target type u. 55
-- is "tested before their types (elements: after 25)".
unfoldable mutual
  pub attach_transforms : Matching → Policy → Defaults → ColumnType → Position → ColumnType → Result Selector
  attach_transforms v p d (cleaf u) k t = leaf_part t >>= λ l. ruled (pair_rule p l u) k u
  attach_transforms v p d (cstruct gs) k t =
      unless_null_type v p k (cstruct gs) t
      (struct_part t >>= λ fs.
      demand (distinct v gs) 12
      (demand (distinct v fs) 12
      (demand (ignores p.extra_struct_fields || no_extra_of v fs gs) 13
      (attach_fields v p d gs fs >>= λ ss. gives (struct_selector k fs ss)))))
  attach_transforms v p d (clist l u) k t =
      unless_null_type v p k (clist l u) t
      (list_part t >>= λ e.
      demand (same_element v e.label l) 25
      (demand (keeps_required e.label e.type l) 55
      (attach_transforms v p no_defaults u first e.type >>= λ s. gives (list_selector k (renamed v l e.label s)))))
  attach_transforms v p d (carray w l u) k t =
      unless_null_type v p k (carray w l u) t
      (array_part w t >>= λ e.
      demand (same_element v e.label l) 25
      (demand (keeps_required e.label e.type l) 55
      (attach_transforms v p no_defaults u first e.type >>= λ s. gives (array_selector k (renamed v l e.label s)))))

  -- each target field in order, 14 where it is missing under Raise
  pub attach_fields : Matching → Policy → Defaults → Columns → Columns → Result Selectors
  attach_fields v p d cnil fs = gives snil
  attach_fields v p d (ccons l u gs) fs =
      sought (counterpart v l fs) (missing d (inserts p.missing_struct_fields) 14 l u)
      (λ k m t. demand (keeps_required m t l) 55 (attach_transforms v p d u k t >>= λ s. gives (renamed v l m s))) >>= λ s.
      attach_fields v p d gs fs >>= λ ss.
      gives (scons s ss)

-- `build_column_selector`: a target column, 11 where it is missing under Raise
unfoldable pub build_column_selector : Matching → Policy → Defaults → Label → ColumnType → Columns → Result Selector
build_column_selector v p d l u fs =
    sought (counterpart v l fs) (missing d (inserts p.missing_columns) 11 l u)
    (λ k m t. demand (keeps_required m t l) 55 (attach_transforms v p d u k t >>= λ s. gives (renamed v l m s)))

-- target columns in order; the place of a refusal is the column's position, i that of the first
unfoldable pub build_from : Matching → Policy → Defaults → Columns → Columns → ℕ → Answer Selectors
build_from v p d cnil fs i = accepted snil
build_from v p d (ccons l u gs) fs i =
    placed i (build_column_selector v p d l u fs) (λ s. answered (build_from v p d gs fs (i + 1)) (λ ss. accepted (scons s ss)))

-- the plan from the incoming columns to the target columns; 53 is tested "before the first target column"
unfoldable pub build : Matching → Policy → Defaults → Columns → Columns → Answer Selectors
build v p d incoming target = answered (extra_columns p.extra_columns v incoming target) (λ x. build_from v p d target incoming 0)
