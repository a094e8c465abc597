-- Document 02, L5: "56 when a record has null in a required field", over trees: the values that have none.
use Rattle.std.specs.Prelude.{ℕ, Bool, false}
use Rattle.layout.specs.Bytes.{Bytes}
use Rattle.layout.specs.Tree.{LeafType, Label, ColumnType, cleaf, cstruct, clist, carray, Columns, cnil, ccons}
use Rattle.layout.specs.declared.leaf.Leaf.{Leaf}
use Rattle.values.specs.Value.{Value, vnull, vnumber, vtext, voverflow, vstruct, vlist, varray, Values, vnil, vcons}

-- a layout's own marks
abbrev pub required_of : Label → Bool
required_of l = l.required

-- `mark` says which columns are required: those of a layout, or none
module _ (mark : Label → Bool) where
  -- `Filled r t v`: no null stands at a required place of v, a value of a column of the mark r and the type t. Below a
  -- null there is no place.
  mutual
    pub data Filled : Bool → ColumnType → Value → Type 0 where
      full-null : {t : ColumnType} → Filled false t vnull
      full-number : {r : Bool} {l : LeafType} {k : Leaf} {n : ℕ} → Filled r (cleaf l) (vnumber k n)
      full-text : {r : Bool} {l : LeafType} {b : Bytes} → Filled r (cleaf l) (vtext b)
      full-over : {r : Bool} {l : LeafType} → Filled r (cleaf l) voverflow
      full-struct : {r : Bool} {cs : Columns} {vs : Values} → FilledAll cs vs → Filled r (cstruct cs) (vstruct vs)
      full-list : {r : Bool} {l : Label} {t : ColumnType} {vs : Values} → FilledEach (mark l) t vs → Filled r (clist l t) (vlist vs)
      full-array : {r : Bool} {w : ℕ} {l : Label} {t : ColumnType} {vs : Values} → FilledEach (mark l) t vs → Filled r (carray w l t) (varray vs)

    -- one value a column
    pub data FilledAll : Columns → Values → Type 0 where
      full-nil : FilledAll cnil vnil
      full-cons : {l : Label} {t : ColumnType} {cs : Columns} {v : Value} {vs : Values}
          → Filled (mark l) t v → FilledAll cs vs → FilledAll (ccons l t cs) (vcons v vs)

    -- the elements of a list or an array, all of one mark
    pub data FilledEach : Bool → ColumnType → Values → Type 0 where
      full-none : {r : Bool} {t : ColumnType} → FilledEach r t vnil
      full-more : {r : Bool} {t : ColumnType} {v : Value} {vs : Values} → Filled r t v → FilledEach r t vs → FilledEach r t (vcons v vs)
