-- `layout::cursor::Cursor::decimal` meets its contract: each way through it is found by the rules `ways`. Assumes
-- nothing.
use borrow.Author.Rules.{rules}
use Rattle.layout.proofs.Ways.{ways}
use Rattle.layout.specs.Layout.{decimal_params}
use Rattle.layout.proofs.cursor.Cursor.decimal.Goals as goal

pub returns-then-valid_decimal : goal.returns-then-valid_decimal
returns-then-valid_decimal c =
    unfold decimal_params in search (ways, rules) depth 12

pub returns-else-valid_decimal : goal.returns-else-valid_decimal
returns-else-valid_decimal c =
    unfold decimal_params in search (ways, rules) depth 12

pub returns-in-Refused-byte : goal.returns-in-Refused-byte
returns-in-Refused-byte c =
    unfold decimal_params in search (ways, rules) depth 12

pub returns-in-Refused : goal.returns-in-Refused
returns-in-Refused c =
    unfold decimal_params in search (ways, rules) depth 12
