-- `layout::cursor::Cursor::datetime_head` meets its contract: each way through it is found by the rules `ways`. Assumes
-- nothing.
use borrow.Author.Rules.{rules}
use Rattle.layout.proofs.Ways.{ways}
use Rattle.layout.specs.Layout.{datetime_head}
use Rattle.layout.proofs.cursor.Cursor.datetime_head.Goals as goal

pub returns-in-Is-text : goal.returns-in-Is-text
returns-in-Is-text c =
    unfold datetime_head in record { result_value = search (ways, rules) depth 12; head_in = search (ways, rules) depth 12 }

pub returns-in-Refused-text : goal.returns-in-Refused-text
returns-in-Refused-text c =
    unfold datetime_head in record { result_value = search (ways, rules) depth 12; head_in = search (ways, rules) depth 12 }

pub returns-in-Refused : goal.returns-in-Refused
returns-in-Refused c =
    unfold datetime_head in record { result_value = search (ways, rules) depth 12; head_in = search (ways, rules) depth 12 }
