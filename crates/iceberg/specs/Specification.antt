-- The Iceberg table specification, "Column projection", "Default values", "Nested ids" and "Type promotion", for one
-- row of a data file that is read with a table's schema: one rule for each case. The text is not at hand; the rules
-- rest on notes of it (docs/DIFFERENCES.md). Nothing here rests on the builder.
use Rattle.std.specs.Prelude.{ℕ, suc, ◌≡◌, Bool, true, ◌&&◌, ◌||◌, not, []}
use Rattle.layout.specs.Tree.{LeafType, leaf_of, null, date, datetime, Label, ColumnType, cleaf, cstruct, clist, carray, Columns, cnil, float, integer}
use Rattle.layout.specs.Tree.{ccons}
use Rattle.layout.specs.declared.leaf.Leaf.{Leaf}
use Rattle.layout.specs.declared.leaf.TimeUnit.TheVariants.{Microseconds, Nanoseconds}
use Rattle.layout.specs.declared.columns.FieldId.{FieldId}
use Rattle.forms.specs.Same.{equal_leaves}
use Rattle.rules.specs.Classes.{is_decimal}
use Rattle.rules.specs.Params.{widens, decimal_of}
use Rattle.values.specs.Value.{Value, vnull, vstruct, vlist, Values, vnil, vcons}
use Rattle.plan.specs.Nullness.{of_value}
use Rattle.plan.specs.Marks.{meets}
use Rattle.plan.specs.Run.{value_at}
use Rattle.numeric.specs.declared.integers.Integer.TheVariants.{Int32, Int64}
use Rattle.numeric.specs.declared.floats.Format.TheVariants.{Binary32, Binary64}

-- ---- what a table's metadata state of a field

-- "the value from the partition metadata, if an identity transform exists for the field and the partition value is
-- present in the data file's partition tuple". The text does not say whether a null there is present; who states the
-- metadata says which.
pub data PartitionValue : Type 0 where
  -- no identity transform has the field for its source
  no_transform : PartitionValue
  -- one has, and no value is present
  not_present : PartitionValue
  -- a null is present
  null_present : PartitionValue
  -- a value, not null, is present
  partitioned : Value → PartitionValue

-- A field's `initial-default`: none or null; a value, not null; `{}` or `[]`
pub data InitialDefault : Type 0 where
  undefined : InitialDefault
  defined : Value → InitialDefault
  empty : InitialDefault

pub record Metadata : Type 0 where
  pub partition : FieldId → PartitionValue
  pub initial_default : FieldId → InitialDefault

-- rule 1 does not apply
pub data Lacking : PartitionValue → Type 0 where
  no_transform_lem : Lacking no_transform
  not_present_lem : Lacking not_present

-- "every other case": a field of this type has no value from this initial default; `{}` is a struct's and `[]` a list's
-- alone
pub data Valueless : ColumnType → InitialDefault → Type 0 where
  nothing-defined : {u : ColumnType} → Valueless u undefined
  no_leafs : {l : LeafType} → Valueless (cleaf l) empty
  no_arrays : {w : ℕ} {l : Label} {t : ColumnType} → Valueless (carray w l t) empty

-- ---- "Columns of a data file are selected by field id; names and order may differ."

-- the column at position k has the id i, the label a and the type t
pub data HasId : Columns → FieldId → ℕ → Label → ColumnType → Type 0 where
  id-here : {a : Label} {i : FieldId} {t : ColumnType} {cs : Columns} → a.id ≡ i → HasId (ccons a t cs) i 0 a t
  id-there : {a l : Label} {i : FieldId} {t u : ColumnType} {cs : Columns} {k : ℕ} → HasId cs i k a t → HasId (ccons l u cs) i (suc k) a t

-- no column has the id i
pub data Lacks : Columns → FieldId → Type 0 where
  lacks_nil : {i : FieldId} → Lacks cnil i
  lacks_cons : {l : Label} {i : FieldId} {t : ColumnType} {cs : Columns} → (l.id ≡ i → ⊥) → Lacks cs i → Lacks (ccons l t cs) i

-- ---- "For a field id that the file lacks, in this order"

-- The second rule, a name mapping, is for files written without ids: every column here has one.

module _ (M : Metadata) where
  mutual
    -- `Initial i u y`: by the rules 3 and 4 the field i of the type u reads as y
    pub data Initial : FieldId → ColumnType → Value → Type 0 where
      -- 3. "the field's `initial-default`, if it has a defined one"
      by_default : {i : FieldId} {u : ColumnType} {y : Value} → M.initial_default i ≡ defined y → Initial i u y
      -- "the effective value of `{}` is made by setting each field to that field's own `initial-default`"
      by-empty-struct : {i : FieldId} {cs : Columns} {ys : Values} → M.initial_default i ≡ empty → InitialAll cs ys → Initial i (cstruct cs) (vstruct ys)
      -- "lists and maps may default to null or to empty"
      by-empty-list : {i : FieldId} {l : Label} {t : ColumnType} → M.initial_default i ≡ empty → Initial i (clist l t) (vlist vnil)
      -- 4. "null in every other case"
      by-null : {i : FieldId} {u : ColumnType} {x : InitialDefault} → M.initial_default i ≡ x → Valueless u x → Initial i u vnull

    pub data InitialAll : Columns → Values → Type 0 where
      initial-nil : InitialAll cnil vnil
      initial-cons : {l : Label} {t : ColumnType} {cs : Columns} {y : Value} {ys : Values} → Initial l.id t y → InitialAll cs ys
          → InitialAll (ccons l t cs) (vcons y ys)

  -- `Missing i u y`: the field i of the type u, which the file lacks, reads as y
  pub data Missing : FieldId → ColumnType → Value → Type 0 where
    -- 1. "the value from the partition metadata"
    by-partition : {i : FieldId} {u : ColumnType} {y : Value} → M.partition i ≡ partitioned y → Missing i u y
    by-null-partition : {i : FieldId} {u : ColumnType} → M.partition i ≡ null_present → Missing i u vnull
    -- 3 and 4
    by-initial : {i : FieldId} {u : ColumnType} {p : PartitionValue} {y : Value} → M.partition i ≡ p → Lacking p → Initial i u y → Missing i u y

-- ---- required fields

-- "reading a required field that is missing and has no default is an error": what is read for the missing field b has
-- no null in a required field, where `meets` looks for one (plan, specs/Marks.antt)
unfoldable pub present : Label → ColumnType → Value → Bool
present b u y = meets (of_value y) b.required u

-- "Widening from optional to required is not allowed, from required to optional is."
unfoldable pub may_become : Label → Label → Bool
may_become a b = not b.required || a.required

-- ---- a row

-- "decimal(P,S) to decimal(P',S) with P' above P"
abbrev pub decimal_promotes : Leaf → Leaf → Bool
decimal_promotes i t = is_decimal i && is_decimal t && widens (decimal_of i) (decimal_of t)

-- "int to long; float to double; decimal(P,S) to decimal(P',S) with P' above P; from version 3 also unknown to any
-- type, and date to timestamp or timestamp_ns. Nothing else"; and an unchanged type.
unfoldable pub promotes : LeafType → LeafType → Bool
promotes l m =
    equal_leaves l m
    || ((equal_leaves l (integer Int32) && equal_leaves m (integer Int64))
    || ((equal_leaves l (float Binary32) && equal_leaves m (float Binary64))
    || (decimal_promotes (leaf_of l) (leaf_of m)
    || (equal_leaves l null || (equal_leaves l date && (equal_leaves m (datetime Microseconds []) || equal_leaves m (datetime Nanoseconds [])))))))

-- `converted l m x`: what the value x of the file's leaf type l is in the table's leaf type m
module _ (converted : LeafType → LeafType → Value → Value) (M : Metadata) where
  mutual
    -- `Reads u t x y`: the value x of the file's type t reads as y in the table's type u
    pub data Reads : ColumnType → ColumnType → Value → Value → Type 0 where
      reads-leaf : {l m : LeafType} {x y : Value} → promotes l m ≡ true → converted l m x ≡ y → Reads (cleaf m) (cleaf l) x y
      -- a null reads as null, in whatever type
      reads-null : {u t : ColumnType} → Reads u t vnull vnull
      -- "projection inside a struct goes by the fields' ids in the same way"
      reads_struct : {gs fs : Columns} {xs ys : Values} → ReadsAll gs fs xs ys → Reads (cstruct gs) (cstruct fs) (vstruct xs) (vstruct ys)
      -- an element has an id of its own; nothing is said of elements whose ids differ
      reads-list : {a b : Label} {u t : ColumnType} {xs ys : Values} → a.id ≡ b.id → may_become a b ≡ true → ReadsEach u t xs ys
          → Reads (clist b u) (clist a t) (vlist xs) (vlist ys)

    -- `ReadsAll gs fs xs ys`: the values xs of the file's columns fs read as ys in the table's columns gs
    pub data ReadsAll : Columns → Columns → Values → Values → Type 0 where
      reads-nil : {fs : Columns} {xs : Values} → ReadsAll cnil fs xs vnil
      -- "Columns of a data file are selected by field id; names and order may differ."
      reads-selected : {a b : Label} {u t : ColumnType} {gs fs : Columns} {k : ℕ} {xs ys : Values} {y : Value} → HasId fs b.id k a t → may_become a b ≡ true
          → Reads u t (value_at xs k) y → ReadsAll gs fs xs ys → ReadsAll (ccons b u gs) fs xs (vcons y ys)
      reads-missing : {b : Label} {u : ColumnType} {gs fs : Columns} {xs ys : Values} {y : Value} → Lacks fs b.id → present b u y ≡ true
          → Missing M b.id u y → ReadsAll gs fs xs ys → ReadsAll (ccons b u gs) fs xs (vcons y ys)

    pub data ReadsEach : ColumnType → ColumnType → Values → Values → Type 0 where
      reads_none : {u t : ColumnType} → ReadsEach u t vnil vnil
      reads_more : {u t : ColumnType} {x y : Value} {xs ys : Values} → Reads u t x y → ReadsEach u t xs ys → ReadsEach u t (vcons x xs) (vcons y ys)
