-- `layout::cursor::Cursor::decimal_head` meets its contract: each way through it is found by the rules `ways`. Assumes
-- nothing.
use borrow.Author.Rules.{rules}
use Rattle.layout.proofs.Ways.{ways}
use Rattle.layout.specs.Layout.{decimal_head}
use Rattle.layout.proofs.cursor.Cursor.decimal_head.Goals as goal

pub returns-in-Is : goal.returns-in-Is
returns-in-Is c =
    unfold decimal_head in record { result_value = search (ways, rules) depth 12; head_in = search (ways, rules) depth 12 }

pub returns-in-Refused : goal.returns-in-Refused
returns-in-Refused c =
    unfold decimal_head in record { result_value = search (ways, rules) depth 12; head_in = search (ways, rules) depth 12 }
