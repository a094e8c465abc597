-- `layout::cursor::Cursor::byte` meets its contract: each way through it is found by the rules `ways`. Assumes nothing.
use borrow.Author.Rules.{rules}
use Rattle.layout.proofs.Ways.{ways}
use Rattle.layout.specs.Parser.{byte}
use Rattle.layout.proofs.cursor.Cursor.byte.Goals as goal

pub returns-then-at-s : goal.returns-then-at-s
returns-then-at-s c =
    unfold byte in search (ways, rules) depth 12

pub returns-else-at-s : goal.returns-else-at-s
returns-else-at-s c =
    unfold byte in search (ways, rules) depth 12
