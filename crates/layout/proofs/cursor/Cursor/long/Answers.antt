-- `layout::cursor::Cursor::long` meets its contract: each way through it is found by the rules `ways`. Assumes nothing.
use borrow.Author.Rules.{rules}
use Rattle.layout.proofs.Ways.{ways}
use Rattle.layout.specs.Parser.{u32}
use Rattle.layout.proofs.cursor.Cursor.long.Goals as goal

pub returns-in-Is-short : goal.returns-in-Is-short
returns-in-Is-short c =
    unfold u32 in search (ways, rules) depth 12

pub returns-in-Refused-short : goal.returns-in-Refused-short
returns-in-Refused-short c =
    unfold u32 in search (ways, rules) depth 12

pub returns-in-Refused : goal.returns-in-Refused
returns-in-Refused c =
    unfold u32 in search (ways, rules) depth 12
