-- Document 01, the end of "Plans, check and run": "Types are equal when their version 1 forms have the same bytes. A
-- column is untouched when its selector is its counterpart's bare position." Demand 3, its last sentence, is that by
-- name the two below say the same.
use Rattle.std.specs.Prelude.{◌≡◌}
use Rattle.layout.specs.Tree.{Label, ColumnType, Columns, dtype_of}
use Rattle.layout.specs.Find.{present, column_named}
use Rattle.layout.specs.declared.columns.Position.{Position}
use Rattle.forms.specs.Form.{form}
use Rattle.plan.specs.Selector.{Selector, position}

-- the column that has the label b and the selector s is untouched
pub record Untouched (incoming : Columns) (b : Label) (s : Selector) : Type 0 where
  pub place : Position
  pub label : Label
  pub type : ColumnType
  pub counterpart : column_named b.name incoming ≡ present place label type
  pub bare : s ≡ position place

-- the incoming column of the name of b has a type equal to u
pub record EqualType (incoming : Columns) (b : Label) (u : ColumnType) : Type 0 where
  pub place : Position
  pub label : Label
  pub type : ColumnType
  pub counterpart : column_named b.name incoming ≡ present place label type
  pub equal : form (dtype_of type) ≡ form (dtype_of u)
