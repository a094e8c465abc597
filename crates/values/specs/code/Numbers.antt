-- Numbers whose type is a code alone.
use Rattle.std.specs.Prelude.{ℕ}
use Rattle.layout.specs.Layout.{plain_leaf}
use Rattle.layout.specs.declared.types.PlainLeaf.{PlainLeaf}
use Rattle.values.specs.declared.content.Content.{Content}
use Rattle.values.specs.declared.content.Content.TheVariants.{Nothing, Flag, Number, Decimal, Text}
use Rattle.values.specs.Content.{content_of}

-- how many bytes a number has whose type is a code alone; 0 for any other code
abbrev pub number_in : Content → ℕ
number_in Nothing = 0
number_in Flag = 0
number_in (Number w) = w
number_in (Decimal p) = 0
number_in Text = 0

abbrev pub number_by_of : PlainLeaf → ℕ
number_by_of (PlainLeaf.Known k) = number_in (content_of k)
number_by_of PlainLeaf.Unknown = 0

abbrev pub number_bytes : ℕ → ℕ
number_bytes code = number_by_of (plain_leaf code)
