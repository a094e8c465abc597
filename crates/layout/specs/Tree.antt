-- Document 01, "Layouts", and document 02, L1 and L5: types and layouts as trees. antt has no nested recursion, so
-- lists of columns are data types of their own.
use Rattle.std.specs.Prelude.{ℕ, zero, suc, List, [], Bool}
use Rattle.layout.specs.Bytes.{Bytes}
use Rattle.layout.specs.declared.leaf.TimeUnit.{TimeUnit}
use Rattle.layout.specs.declared.leaf.Leaf.{Leaf}
use Rattle.layout.specs.declared.leaf.Decimal.{Decimal}
use Rattle.numeric.specs.declared.integers.Integer.{Integer}
use Rattle.numeric.specs.declared.floats.Format.{Format}
use Rattle.layout.specs.declared.columns.FieldId.{FieldId}
use Rattle.layout.specs.declared.edition.Edition.{Edition}

-- a leaf type: its kind, and of a date-time also the zone (empty: no zone)
pub data LeafType : Type 0 where
  null boolean : LeafType
  integer : Integer → LeafType
  float : Format → LeafType
  date : LeafType
  datetime : TimeUnit → Bytes → LeafType
  string binary categorical : LeafType
  decimal : Decimal → LeafType

-- the leaf type of a kind and a zone, which only a date-time has
abbrev pub leaf_type : Leaf → Bytes → LeafType
leaf_type Leaf.Null z = null
leaf_type Leaf.Boolean z = boolean
leaf_type (Leaf.Integer i) z = integer i
leaf_type (Leaf.Float f) z = float f
leaf_type Leaf.Date z = date
leaf_type (Leaf.Datetime u) z = datetime u z
leaf_type Leaf.String z = string
leaf_type Leaf.Binary z = binary
leaf_type Leaf.Categorical z = categorical
leaf_type (Leaf.Decimal d) z = decimal d

abbrev pub leaf_of : LeafType → Leaf
leaf_of null = Leaf.Null
leaf_of boolean = Leaf.Boolean
leaf_of (integer i) = Leaf.Integer i
leaf_of (float f) = Leaf.Float f
leaf_of date = Leaf.Date
leaf_of (datetime u z) = Leaf.Datetime u
leaf_of string = Leaf.String
leaf_of binary = Leaf.Binary
leaf_of categorical = Leaf.Categorical
leaf_of (decimal d) = Leaf.Decimal d

abbrev pub zone_of : LeafType → Bytes
zone_of null = []
zone_of boolean = []
zone_of (integer i) = []
zone_of (float f) = []
zone_of date = []
zone_of (datetime u z) = z
zone_of string = []
zone_of binary = []
zone_of categorical = []
zone_of (decimal d) = []

-- What stands before a column's type: its name, from version 2 on its id (0 in version 1), and in version 3 whether it
-- is required. L5: "Older columns count as optional".
pub record Label : Type 0 where
  pub name : Bytes
  pub id : FieldId
  pub required : Bool

-- A type as a layout has it. A list's or array's element is a column from version 2 on; in version 1 its label is
-- empty.
mutual
  pub data ColumnType : Type 0 where
    cleaf : LeafType → ColumnType
    cstruct : Columns → ColumnType
    clist : Label → ColumnType → ColumnType
    carray : ℕ → Label → ColumnType → ColumnType

  pub data Columns : Type 0 where
    cnil : Columns
    ccons : Label → ColumnType → Columns → Columns

pub record Layout : Type 0 where
  pub edition : Edition
  pub columns : Columns

unfoldable pub count_columns : Columns → ℕ
count_columns cnil = 0
count_columns (ccons l t cs) = suc (count_columns cs)

-- A type with ids, required marks and element names dropped, as `to_polars_dtype` drops them: what plans hold, and what
-- check and run compare.
mutual
  pub data DataType : Type 0 where
    leaf : LeafType → DataType
    struct : Fields → DataType
    list : DataType → DataType
    array : ℕ → DataType → DataType

  pub data Fields : Type 0 where
    fnil : Fields
    fcons : Bytes → DataType → Fields → Fields

unfoldable pub count_fields : Fields → ℕ
count_fields fnil = 0
count_fields (fcons n t fs) = suc (count_fields fs)

unfoldable mutual
  pub dtype_of : ColumnType → DataType
  dtype_of (cleaf l) = leaf l
  dtype_of (cstruct cs) = struct (fields_of cs)
  dtype_of (clist l t) = list (dtype_of t)
  dtype_of (carray w l t) = array w (dtype_of t)

  pub fields_of : Columns → Fields
  fields_of cnil = fnil
  fields_of (ccons l t cs) = fcons l.name (dtype_of t) (fields_of cs)
