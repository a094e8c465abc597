-- `layout::cursor::Cursor::required_mark` meets its contract: each way through it is found by the rules `ways`. Assumes
-- nothing.
use borrow.Author.Rules.{rules}
use Rattle.layout.proofs.Ways.{ways}
use Rattle.layout.specs.Layout.{required_mark}
use Rattle.layout.proofs.cursor.Cursor.required_mark.Goals as goal

pub returns-in-0 : goal.returns-in-0
returns-in-0 c =
    unfold required_mark in search (ways, rules) depth 12

pub returns-in-1 : goal.returns-in-1
returns-in-1 c =
    unfold required_mark in search (ways, rules) depth 12

pub returns-in_default : goal.returns-in_default
returns-in_default c =
    unfold required_mark in search (ways, rules) depth 12

pub returns-in-Refused : goal.returns-in-Refused
returns-in-Refused c =
    unfold required_mark in search (ways, rules) depth 12
