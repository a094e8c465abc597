-- Document 01, "Reading a layout" and "Layouts", and document 02, L1 and L5: bytes to a tree, or the number of the
-- first refusal. Each parser refuses where the document has the test: 2 where the bytes end, 4 at a length over 63 or
-- at a depth over 16, 3 at an unknown code, unit or mark, 5 once a sibling that repeats is read.
use Rattle.std.specs.Prelude.{ℕ, zero, suc, ◌+◌, ◌*◌, List, [], ◌∷◌, ◌++◌, Bool, true, false, not, ◌||◌, ◌&&◌, length, take, get_or, leb, eqb}
use Rattle.layout.specs.Bytes.{Bytes, same_bytes}
use Rattle.layout.specs.Parser.{Res, refuse, ok, Parser, next, ◌>>=◌, ◌>>◌, pure, fail, test, if, choose, byte, chunk, u16, u32}
pub use Rattle.layout.specs.Limits.{longest, longest_name, deepest}
use Rattle.layout.specs.Tree.{LeafType, leaf_type, Label, ColumnType, cleaf, cstruct, clist, carray, Columns, cnil, ccons, Layout}
use Rattle.layout.specs.declared.leaf.TimeUnit.{TimeUnit}
use Rattle.layout.specs.declared.leaf.TimeUnit.TheVariants.{Nanoseconds, Microseconds, Milliseconds}
use Rattle.layout.specs.declared.leaf.Leaf.{Leaf}
use Rattle.layout.specs.declared.leaf.Decimal.{Decimal}
use Rattle.numeric.specs.declared.integers.Integer.{Integer}
use Rattle.numeric.specs.declared.integers.Integer.TheVariants.{Int8, Int16, Int32, Int64, UInt8, UInt16, UInt32, UInt64}
use Rattle.numeric.specs.declared.floats.Format.{Format}
use Rattle.numeric.specs.declared.floats.Format.TheVariants.{Binary16, Binary32, Binary64}
use Rattle.layout.specs.declared.types.PlainLeaf.{PlainLeaf}
use Rattle.layout.specs.declared.types.PlainLeaf.TheVariants.{Known, Unknown}
use Rattle.layout.specs.declared.edition.Edition.{Edition}
use Rattle.layout.specs.declared.edition.Edition.TheVariants.{One, Two, Three}
use Rattle.layout.specs.declared.columns.Siblings.{Siblings}
use Rattle.layout.specs.declared.columns.Siblings.TheVariants.{Names, Ids, Free}

-- a name or a zone: a length byte of at most 63, and as many bytes
unfoldable pub text : Parser Bytes
text = do
  n ← byte
  if (leb n longest_name) (chunk n) (fail 4)

-- a date-time's unit: 0 ns, 1 µs, 2 ms, counted up from the finest
abbrev pub unit_code : TimeUnit → ℕ
unit_code Nanoseconds = 0
unit_code Microseconds = 1
unit_code Milliseconds = 2

unfoldable pub unit : Parser TimeUnit
unit = do
  u ← byte
  if (eqb u 0) (pure Nanoseconds) (if (eqb u 1) (pure Microseconds) (if (eqb u 2) (pure Milliseconds) (fail 3)))

-- what a type begins with: a whole leaf, or what stands before columns or an element
pub data Head : Type 0 where
  a_leaf : LeafType → Head
  a_struct : ℕ → Head
  a_list : Head
  an_array : ℕ → Head

-- the leaves that are their code alone, each at the place of its code; 14 is a date-time, and 21, past the list, a
-- decimal
abbrev pub plain_leaves : List PlainLeaf
plain_leaves =
    Known Leaf.Null ∷ Known Leaf.Boolean
    ∷ Known (Leaf.Integer Int8) ∷ Known (Leaf.Integer Int16) ∷ Known (Leaf.Integer Int32) ∷ Known (Leaf.Integer Int64)
    ∷ Known (Leaf.Integer UInt8) ∷ Known (Leaf.Integer UInt16) ∷ Known (Leaf.Integer UInt32) ∷ Known (Leaf.Integer UInt64)
    ∷ Known (Leaf.Float Binary16) ∷ Known (Leaf.Float Binary32) ∷ Known (Leaf.Float Binary64)
    ∷ Known Leaf.Date ∷ Unknown
    ∷ Known Leaf.String ∷ Known Leaf.Binary ∷ Known Leaf.Categorical ∷ []

abbrev pub plain_leaf : ℕ → PlainLeaf
plain_leaf code = get_or plain_leaves code Unknown

-- the code of each leaf kind
abbrev pub integer_code : Integer → ℕ
integer_code Int8 = 2
integer_code Int16 = 3
integer_code Int32 = 4
integer_code Int64 = 5
integer_code UInt8 = 6
integer_code UInt16 = 7
integer_code UInt32 = 8
integer_code UInt64 = 9

abbrev pub float_code : Format → ℕ
float_code Binary16 = 10
float_code Binary32 = 11
float_code Binary64 = 12

abbrev pub code_of : Leaf → ℕ
code_of Leaf.Null = 0
code_of Leaf.Boolean = 1
code_of (Leaf.Integer i) = integer_code i
code_of (Leaf.Float f) = float_code f
code_of Leaf.Date = 13
code_of (Leaf.Datetime u) = 14
code_of Leaf.String = 15
code_of Leaf.Binary = 16
code_of Leaf.Categorical = 17
code_of (Leaf.Decimal d) = 21

unfoldable pub leaf_head : PlainLeaf → Parser Head
leaf_head (Known l) = pure (a_leaf (leaf_type l []))
leaf_head Unknown = fail 3

unfoldable pub datetime_head : Parser Head
datetime_head = do
  u ← unit
  z ← text
  pure (a_leaf (leaf_type (Leaf.Datetime u) z))

-- L1: "precision u8 from 1 to 18, scale u8 from 0 to the precision"
abbrev pub valid_decimal : ℕ → ℕ → Bool
valid_decimal precision scale = leb 1 precision && (leb precision 18 && leb scale precision)

-- "50 when a layout's precision or scale is outside these limits, tested after both bytes are read"
unfoldable pub decimal_params : Parser Decimal
decimal_params = do
  p ← byte
  s ← byte
  if (valid_decimal p s) (pure (record { precision = p; scale = s })) (fail 50)

unfoldable pub decimal_head : Parser Head
decimal_head = do
  d ← decimal_params
  pure (a_leaf (leaf_type (Leaf.Decimal d) []))

unfoldable pub struct_head : Parser Head
struct_head = do
  n ← u16
  pure (a_struct n)

unfoldable pub array_head : Parser Head
array_head = do
  w ← u32
  pure (an_array w)

-- by the type code
unfoldable pub kind_of : ℕ → Parser Head
kind_of c =
    if (eqb c 14) datetime_head
    (if (eqb c 18) struct_head
    (if (eqb c 19) (pure a_list)
    (if (eqb c 20) array_head
    (if (eqb c 21) decimal_head
    (leaf_head (plain_leaf c))))))

unfoldable pub kind : Parser Head
kind = do
  c ← byte
  kind_of c

unfoldable pub field_id : Edition → Parser ℕ
field_id One = pure 0
field_id Two = u32
field_id Three = u32

-- L5: "version 2 with a u8 after each id: 0 optional, 1 required, other values 3"
unfoldable pub required_mark : Parser Bool
required_mark = do
  m ← byte
  if (eqb m 0) (pure false) (if (eqb m 1) (pure true) (fail 3))

unfoldable pub field_mark : Edition → Parser Bool
field_mark One = pure false
field_mark Two = pure false
field_mark Three = required_mark

-- what follows a label's name
unfoldable pub label_rest : Edition → Bytes → Parser Label
label_rest v n = do
  i ← field_id v
  r ← field_mark v
  pure (record { name = n; id = record { 0 = i }; required = r })

unfoldable pub label : Edition → Parser Label
label v = do
  n ← text
  label_rest v n

-- an element has a label from version 2 on
unfoldable pub element_label : Edition → Parser Label
element_label One = pure (record { name = []; id = record { 0 = 0 }; required = false })
element_label Two = label Two
element_label Three = label Three

-- whether a label repeats another, under a rule
abbrev pub same_label : Siblings → Label → Label → Bool
same_label Names l m = same_bytes l.name m.name
same_label Ids l m = eqb l.id.0 m.id.0
same_label Free l m = false

unfoldable pub repeats_any : Siblings → Label → List Label → Bool
repeats_any r l [] = false
repeats_any r l (m ∷ ms) = same_label r l m || repeats_any r l ms

-- n columns after the earlier labels, whose types p reads; 5 is tested once a column is read
unfoldable pub columns : Edition → Siblings → Parser ColumnType → ℕ → List Label → Parser Columns
columns v r p zero earlier = pure cnil
columns v r p (suc n) earlier = do
  l ← label v
  t ← p
  test (not (repeats_any r l earlier)) 5
  cs ← columns v r p n (earlier ++ (l ∷ []))
  pure (ccons l t cs)

-- a list's element
unfoldable pub list_type : Edition → Parser ColumnType → Parser ColumnType
list_type v p = do
  l ← element_label v
  t ← p
  pure (clist l t)

unfoldable pub array_type : Edition → ℕ → Parser ColumnType → Parser ColumnType
array_type v w p = do
  l ← element_label v
  t ← p
  pure (carray w l t)

unfoldable pub struct_type : Edition → Siblings → ℕ → Parser ColumnType → Parser ColumnType
struct_type v r n p = do
  cs ← columns v r p n []
  pure (cstruct cs)

-- the rest of a type, whose inner types p reads
unfoldable pub body : Edition → Siblings → Parser ColumnType → Head → Parser ColumnType
body v r p (a_leaf l) = pure (cleaf l)
body v r p (a_struct n) = struct_type v r n p
body v r p a_list = list_type v p
body v r p (an_array w) = array_type v w p

-- a type of at most d levels, whose inner columns keep to the rule r; the depth is tested before the code is read
unfoldable pub type : Edition → Siblings → ℕ → Parser ColumnType
type v r zero = fail 4
type v r (suc d) = do
  k ← kind
  body v r (type v r d) k

-- 5: version 1 tests names, of top columns only; versions 2 and 3 test ids, at all levels
abbrev pub top_rule : Edition → Siblings
top_rule One = Names
top_rule Two = Ids
top_rule Three = Ids

abbrev pub inner_rule : Edition → Siblings
inner_rule One = Free
inner_rule Two = Ids
inner_rule Three = Ids

-- `LAY` and a version
abbrev pub mark : ℕ → Bytes
mark v = 0x4C ∷ 0x41 ∷ 0x59 ∷ v ∷ 0 ∷ []

-- 1 where the first five bytes are not a known mark and version
unfoldable pub edition : Parser Edition
edition s at =
    choose (same_bytes (take 5 s) (mark 1)) (ok One 5)
    (choose (same_bytes (take 5 s) (mark 2)) (ok Two 5)
    (choose (same_bytes (take 5 s) (mark 3)) (ok Three 5)
    (refuse 1)))

-- 4 where there are over 16,384 bytes
unfoldable pub sized : Parser (Unit {0})
sized s at = test (leb (length s) longest) 4 s at

-- 6 where bytes are left over
unfoldable pub ended : Parser (Unit {0})
ended s at = test (eqb at (length s)) 6 s at

-- the count, the columns and the end
unfoldable pub counted : Edition → Parser Layout
counted v = do
  n ← u16
  cs ← columns v (top_rule v) (type v (inner_rule v) deepest) n []
  ended
  pure (record { edition = v; columns = cs })

unfoldable pub layout_from : Parser Layout
layout_from = do
  sized
  v ← edition
  counted v

-- reading a layout
unfoldable pub layout : Bytes → Res Layout
layout s = layout_from s 0
