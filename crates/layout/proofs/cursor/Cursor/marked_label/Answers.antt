-- `layout::cursor::Cursor::marked_label` meets its contract: each way through it is found by the rules `ways`. Assumes
-- nothing.
use borrow.Author.Rules.{rules}
use Rattle.layout.proofs.Ways.{ways}
use Rattle.layout.specs.Layout.{field_id, field_mark, label_rest}
use Rattle.layout.proofs.cursor.Cursor.marked_label.Goals as goal

pub returns-in-Is-required_mark : goal.returns-in-Is-required_mark
returns-in-Is-required_mark c =
    unfold label_rest field_id field_mark in record { result_value = search (ways, rules) depth 12; label_in = search (ways, rules) depth 12 }

pub returns-in-Refused-required_mark : goal.returns-in-Refused-required_mark
returns-in-Refused-required_mark c =
    unfold label_rest field_id field_mark in record { result_value = search (ways, rules) depth 12; label_in = search (ways, rules) depth 12 }

pub returns-in-Refused : goal.returns-in-Refused
returns-in-Refused c =
    unfold label_rest field_id field_mark in record { result_value = search (ways, rules) depth 12; label_in = search (ways, rules) depth 12 }
