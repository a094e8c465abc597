-- What follows a type's code: how the code goes over a type.
use Rattle.std.specs.Prelude.{ℕ}
use Rattle.layout.specs.Parser.{Parser, next}
use Rattle.layout.specs.Tree.{ColumnType}
use Rattle.layout.specs.Layout.{kind_of, body, type}
use Rattle.layout.specs.declared.edition.Edition.{Edition}
use Rattle.layout.specs.declared.columns.Siblings.{Siblings}

-- the types inside have at most d levels, and their columns keep to the rule
unfoldable pub type_rest : Edition → Siblings → ℕ → ℕ → Parser ColumnType
type_rest v r d code s at = next (kind_of code s at) (λ k m. body v r (type v r d) k s m)
