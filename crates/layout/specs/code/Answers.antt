-- What each answer of the code stands for: what a parser of specs/ gives, with positions standing for the bytes there.
use Rattle.std.specs.Prelude.{ℕ, ◌+◌, ◌≤◌, List, Bool, length, take, drop}
use Rattle.layout.specs.Bytes.{Bytes}
use Rattle.layout.specs.Parser.{Res, refuse, ok}
use Rattle.layout.specs.Tree.{LeafType, leaf_type, Label, Layout, count_columns}
use Rattle.layout.specs.Layout.{Head, a_leaf, a_struct, a_list, an_array}
use Rattle.layout.specs.declared.bytes.Span.{Span}
use Rattle.layout.specs.declared.cursor.Cursor.{Cursor}
use Rattle.layout.specs.declared.cursor.Step.{Step}
use Rattle.layout.specs.declared.cursor.Moved.{Moved}
use Rattle.layout.specs.declared.cursor.Short.{Short}
use Rattle.layout.specs.declared.cursor.Long.{Long}
use Rattle.layout.specs.declared.cursor.Text.{Text}
use Rattle.layout.specs.declared.leaf.TimeUnit.{TimeUnit}
use Rattle.layout.specs.declared.leaf.Decimal.{Decimal}
use Rattle.layout.specs.declared.types.Unit.{Unit as UnitRead}
use Rattle.layout.specs.declared.types.DecimalRead.{DecimalRead}
use Rattle.layout.specs.declared.types.LeafType.{LeafType as LeafSpan}
use Rattle.layout.specs.declared.types.Head.{Head as HeadSpan}
use Rattle.layout.specs.declared.columns.Label.{Label as LabelSpan}
use Rattle.layout.specs.declared.columns.Labelled.{Labelled}
use Rattle.layout.specs.declared.columns.MarkRead.{MarkRead}
use Rattle.layout.specs.declared.edition.Edition.{Edition}
use Rattle.layout.specs.declared.edition.EditionRead.{EditionRead}
use Rattle.layout.specs.declared.read.LayoutRead.{LayoutRead}

abbrev pub step_res : Step → Res ℕ
step_res (Step.Byte b c) = ok b c.at
step_res (Step.Refused n) = refuse n

abbrev pub short_res : Short → Res ℕ
short_res (Short.Is x c) = ok x c.at
short_res (Short.Refused n) = refuse n

abbrev pub long_res : Long → Res ℕ
long_res (Long.Is x c) = ok x c.at
long_res (Long.Refused n) = refuse n

abbrev pub unit_res : UnitRead → Res TimeUnit
unit_res (UnitRead.Is u c) = ok u c.at
unit_res (UnitRead.Refused n) = refuse n

abbrev pub decimal_res : DecimalRead → Res Decimal
decimal_res (DecimalRead.Is d c) = ok d c.at
decimal_res (DecimalRead.Refused n) = refuse n

-- the bytes of a span
abbrev pub span_at : Bytes → Span → Bytes
span_at s p = take p.len (drop p.start s)

-- a span lies within the bytes
abbrev pub SpanIn : Bytes → Span → Type 0
SpanIn s p = p.start + p.len ≤ length s

abbrev pub text_res : Bytes → Text → Res Bytes
text_res s (Text.Is p c) = ok (span_at s p) c.at
text_res s (Text.Refused n) = refuse n

abbrev pub IsTextIn : Bytes → Text → Type 0
IsTextIn s (Text.Is p c) = SpanIn s p
IsTextIn s (Text.Refused n) = Unit {0}

abbrev pub leaf_at : Bytes → LeafSpan → LeafType
leaf_at s l = leaf_type l.leaf (span_at s l.zone)

abbrev pub head_res : Bytes → HeadSpan → Res Head
head_res s (HeadSpan.Leaf l c) = ok (a_leaf (leaf_at s l)) c.at
head_res s (HeadSpan.Struct n c) = ok (a_struct n) c.at
head_res s (HeadSpan.List c) = ok a_list c.at
head_res s (HeadSpan.Array w c) = ok (an_array w) c.at
head_res s (HeadSpan.Refused n) = refuse n

abbrev pub HeadIn : Bytes → HeadSpan → Type 0
HeadIn s (HeadSpan.Leaf l c) = SpanIn s l.zone
HeadIn s (HeadSpan.Struct n c) = Unit {0}
HeadIn s (HeadSpan.List c) = Unit {0}
HeadIn s (HeadSpan.Array w c) = Unit {0}
HeadIn s (HeadSpan.Refused n) = Unit {0}

abbrev pub mark_res : MarkRead → Res Bool
mark_res (MarkRead.Is r c) = ok r c.at
mark_res (MarkRead.Refused n) = refuse n

abbrev pub label_at : Bytes → LabelSpan → Label
label_at s l = record { name = span_at s l.name; id = l.id; required = l.required }

abbrev pub label_res : Bytes → Labelled → Res Label
label_res s (Labelled.Is l c) = ok (label_at s l) c.at
label_res s (Labelled.Refused n) = refuse n

abbrev pub LabelIn : Bytes → Labelled → Type 0
LabelIn s (Labelled.Is l c) = SpanIn s l.name
LabelIn s (Labelled.Refused n) = Unit {0}

-- where the tree is not in the answer: the result's position
unfoldable pub moved_of : {A : Type 0} → Res A → Moved
moved_of (refuse n) = Moved.Refused n
moved_of (ok a at) = Moved.To (record { at = at })

-- the mark and the version take five bytes
abbrev pub edition_res : EditionRead → Res Edition
edition_res (EditionRead.Is v) = ok v 5
edition_res (EditionRead.Refused n) = refuse n

-- the columns begin after the mark, the version and the count
unfoldable pub layout_of : Res Layout → LayoutRead
layout_of (refuse n) = LayoutRead.Refused n
layout_of (ok l at) = LayoutRead.Read l.edition (count_columns l.columns) (record { at = 7 })
