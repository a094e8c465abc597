-- A label with a type behind it, that stands at an offset of bytes that were read before: a column, or a list's or
-- array's element.
use Rattle.std.specs.Prelude.{ℕ, ◌≡◌}
use Rattle.layout.specs.Bytes.{Bytes}
use Rattle.layout.specs.Parser.{Parser, ok}
use Rattle.layout.specs.Tree.{Label}
use Rattle.layout.specs.Layout.{label as label_of, element_label}
use Rattle.layout.specs.code.Stands.{TypeAt}
use Rattle.layout.specs.declared.edition.Edition.{Edition}

pub record LabelledAt (p : Parser Label) (v : Edition) (d : ℕ) (s : Bytes) (at : ℕ) : Type 0 where
  pub label : Label
  pub start : ℕ
  pub labelled : p s at ≡ ok label start
  pub inner : TypeAt v d s start

abbrev pub ElementAt : Edition → ℕ → Bytes → ℕ → Type 0
ElementAt v d s at = LabelledAt (element_label v) v d s at

abbrev pub ColumnAt : Edition → ℕ → Bytes → ℕ → Type 0
ColumnAt v d s at = LabelledAt (label_of v) v d s at
