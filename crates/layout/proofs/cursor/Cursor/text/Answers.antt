-- `layout::cursor::Cursor::text` meets its contract: each way through it is found by the rules `ways`. Assumes nothing.
use borrow.Author.Rules.{rules}
use native.Mathlib.Omega.{arith}
use Rattle.layout.proofs.Ways.{ways}
use Rattle.layout.specs.Layout.{text}
use Rattle.layout.proofs.cursor.Cursor.text.Goals as goal

pub returns-then-b-gt-LONGEST_NAME : goal.returns-then-b-gt-LONGEST_NAME
returns-then-b-gt-LONGEST_NAME c =
    unfold text in record { result_value = search (ways, rules) depth 12; text_in = search (ways, rules) depth 12 }

pub returns-then-s-start : goal.returns-then-s-start
returns-then-s-start c =
    unfold text in record { result_value = search (ways, rules) depth 12; text_in = search (ways, rules) depth 12 }

pub returns-then-len-s : goal.returns-then-len-s
returns-then-len-s c =
    unfold text in record { result_value = search (ways, rules) depth 12; text_in = omega arith }

pub returns-else-len-s : goal.returns-else-len-s
returns-else-len-s c =
    unfold text in record { result_value = search (ways, rules) depth 12; text_in = search (ways, rules) depth 12 }

pub returns-in-Refused : goal.returns-in-Refused
returns-in-Refused c =
    unfold text in record { result_value = search (ways, rules) depth 12; text_in = search (ways, rules) depth 12 }
