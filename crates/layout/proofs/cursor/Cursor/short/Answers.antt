-- `layout::cursor::Cursor::short` meets its contract: each way through it is found by the rules `ways`. Assumes
-- nothing.
use borrow.Author.Rules.{rules}
use Rattle.layout.proofs.Ways.{ways}
use Rattle.layout.specs.Parser.{u16}
use Rattle.layout.proofs.cursor.Cursor.short.Goals as goal

pub returns-in-Byte-byte : goal.returns-in-Byte-byte
returns-in-Byte-byte c =
    unfold u16 in search (ways, rules) depth 12

pub returns-in-Refused-byte : goal.returns-in-Refused-byte
returns-in-Refused-byte c =
    unfold u16 in search (ways, rules) depth 12

pub returns-in-Refused : goal.returns-in-Refused
returns-in-Refused c =
    unfold u16 in search (ways, rules) depth 12
