-- What the parts of a type at an offset stand for: what its head and its element's label read as.
use Rattle.std.specs.Prelude.{ℕ, ◌≡◌}
use Rattle.layout.specs.Bytes.{Bytes}
use Rattle.layout.specs.Layout.{kind, element_label}
use Rattle.layout.specs.code.Answers.{head_res, label_res, SpanIn}
use Rattle.layout.specs.code.Stands.{TypeAt}
use Rattle.layout.specs.declared.columns.Label.{Label as LabelSpan}
use Rattle.layout.specs.declared.columns.Labelled.{Labelled}
use Rattle.layout.specs.declared.cursor.Cursor.{Cursor}
use Rattle.layout.specs.declared.edition.Edition.{Edition}
use Rattle.layout.specs.declared.parts.TypeParts.{TypeParts}
use Rattle.layout.specs.declared.types.Head.{Head}
use Rattle.layout.specs.declared.types.LeafType.{LeafType as LeafSpan}

-- a leaf type, which ends at c
pub record LeafRead (s : Bytes) (at : ℕ) (l : LeafSpan) (c : Cursor) : Type 0 where
  pub head : head_res s (Head.Leaf l c) ≡ kind s at
  pub inside : SpanIn s l.zone

-- an element with the label l, whose type begins at c, behind the head h, which ends where the label begins
pub record ElementRead (v : Edition) (s : Bytes) (at : ℕ) (h : Cursor → Head) (l : LabelSpan) (c : Cursor) : Type 0 where
  pub start : Cursor
  pub head : head_res s (h start) ≡ kind s at
  pub label : label_res s (Labelled.Is l c) ≡ element_label v s start.at
  pub inside : SpanIn s l.name

-- what is refused is no type
abbrev pub PartsRead : Edition → Bytes → ℕ → TypeParts → Type 0
PartsRead v s at (TypeParts.Leaf l c) = LeafRead s at l c
PartsRead v s at (TypeParts.Struct n c) = head_res s (Head.Struct n c) ≡ kind s at
PartsRead v s at (TypeParts.List l c) = ElementRead v s at (λ b. Head.List b) l c
PartsRead v s at (TypeParts.Array w l c) = ElementRead v s at (λ b. Head.Array w b) l c
PartsRead v s at (TypeParts.Refused n) = (d : ℕ) → TypeAt v d s at → ⊥

pub record PartsIs (v : Edition) (s : Bytes) (at : ℕ) (r : TypeParts) : Type 0 where
  pub read : PartsRead v s at r
