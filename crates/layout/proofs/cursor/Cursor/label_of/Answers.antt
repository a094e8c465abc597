-- `layout::cursor::Cursor::label_of` meets its contract: each way through it is found by the rules `ways`. Assumes
-- nothing.
use borrow.Author.Rules.{rules}
use Rattle.layout.proofs.Ways.{ways, text_in}
use Rattle.layout.specs.Layout.{label}
use Rattle.layout.proofs.cursor.Cursor.label_of.Goals as goal

pub marked_label-requires : goal.marked_label-requires
marked_label-requires c =
    search (text_in, rules)

pub returns-in-One : goal.returns-in-One
returns-in-One c =
    unfold label in record { result_value = search (ways, rules) depth 12; label_in = search (ways, rules) depth 12 }

pub returns-in-Is-long : goal.returns-in-Is-long
returns-in-Is-long c =
    unfold label in record { result_value = search (ways, rules) depth 12; label_in = search (ways, rules) depth 12 }

pub returns-in-Refused-long : goal.returns-in-Refused-long
returns-in-Refused-long c =
    unfold label in record { result_value = search (ways, rules) depth 12; label_in = search (ways, rules) depth 12 }

pub returns-in-Three : goal.returns-in-Three
returns-in-Three c =
    unfold label in record { result_value = search (ways, rules) depth 12; label_in = search (ways, rules) depth 12 }

pub returns-in-Refused : goal.returns-in-Refused
returns-in-Refused c =
    unfold label in record { result_value = search (ways, rules) depth 12; label_in = search (ways, rules) depth 12 }
