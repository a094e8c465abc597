-- `layout::cursor::Cursor::label` meets its contract: version 1 by the rules `ways`, the others by `label_of`. Assumes
-- nothing.
use borrow.Author.Rules.{rules}
use Rattle.layout.proofs.Ways.{ways}
use Rattle.layout.specs.Layout.{label}
use Rattle.layout.proofs.cursor.Cursor.label.Goals as goal

pub returns-in-Is : goal.returns-in-Is
returns-in-Is c =
    unfold label in record { result_value = search (ways, rules) depth 12; label_in = search (ways, rules) depth 12 }

pub returns-in-Refused : goal.returns-in-Refused
returns-in-Refused c =
    unfold label in record { result_value = search (ways, rules) depth 12; label_in = search (ways, rules) depth 12 }
