-- Document 01, "Reading a layout", as conditions on a type: names and zones of at most 63 bytes, numbers within their
-- fields, precision and scale within theirs (document 02, L1); and the columns that reading gives for such a type.
use Rattle.std.specs.Prelude.{◌≤◌, ◌<◌, [], length, ◌≡◌, true, false}
use Rattle.layout.specs.Bytes.{Bytes, AllBytes}
use Rattle.layout.specs.Limits.{longest_name}
use Rattle.layout.specs.Layout.{valid_decimal}
use Rattle.layout.specs.Tree.{LeafType, null, boolean, integer, float, date, datetime, string, binary, categorical, decimal, Label, ColumnType, cleaf, cstruct}
use Rattle.layout.specs.Tree.{clist, carray, Columns, cnil, ccons, DataType, leaf, struct, list, array, Fields, fnil, fcons, count_fields}

-- a name or a zone
abbrev pub ShortText : Bytes → Type 0
ShortText b = (length b ≤ longest_name) × AllBytes b

-- a date-time's zone, a decimal's precision and scale
abbrev pub ReadableLeaf : LeafType → Type 0
ReadableLeaf null = Unit {0}
ReadableLeaf boolean = Unit {0}
ReadableLeaf (integer i) = Unit {0}
ReadableLeaf (float f) = Unit {0}
ReadableLeaf date = Unit {0}
ReadableLeaf (datetime u z) = ShortText z
ReadableLeaf string = Unit {0}
ReadableLeaf binary = Unit {0}
ReadableLeaf categorical = Unit {0}
ReadableLeaf (decimal d) = valid_decimal d.precision d.scale ≡ true

abbrev mutual
  pub Readable : DataType → Type 0
  Readable (leaf l) = ReadableLeaf l
  Readable (struct fs) = (count_fields fs < 65536) × ReadableFields fs
  Readable (list t) = Readable t
  Readable (array w t) = (w < 4294967296) × Readable t

  pub ReadableFields : Fields → Type 0
  ReadableFields fnil = Unit {0}
  ReadableFields (fcons n t fs) = ShortText n × (Readable t × ReadableFields fs)

-- A type as version 1 reads it: ids are 0, nothing is required and an element has no name.
abbrev pub named : Bytes → Label
named n = record { name = n; id = record { 0 = 0 }; required = false }

unfoldable mutual
  pub labelled : DataType → ColumnType
  labelled (leaf l) = cleaf l
  labelled (struct fs) = cstruct (labelled_fields fs)
  labelled (list t) = clist (named []) (labelled t)
  labelled (array w t) = carray w (named []) (labelled t)

  pub labelled_fields : Fields → Columns
  labelled_fields fnil = cnil
  labelled_fields (fcons n t fs) = ccons (named n) (labelled t) (labelled_fields fs)
