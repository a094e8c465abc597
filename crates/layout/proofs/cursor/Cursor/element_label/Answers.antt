-- `layout::cursor::Cursor::element_label` meets its contract: each way through it is found by the rules `ways`. Assumes
-- nothing.
use borrow.Author.Rules.{rules}
use Rattle.layout.proofs.Ways.{ways}
use Rattle.layout.proofs.cursor.Cursor.element_label.Goals as goal

pub returns-in-One : goal.returns-in-One
returns-in-One c =
    record { result_value = search (ways, rules) depth 12; label_in = search (ways, rules) depth 12 }

pub returns-in-Two : goal.returns-in-Two
returns-in-Two c =
    record { result_value = search (ways, rules) depth 12; label_in = search (ways, rules) depth 12 }

pub returns-in-Three : goal.returns-in-Three
returns-in-Three c =
    record { result_value = search (ways, rules) depth 12; label_in = search (ways, rules) depth 12 }
