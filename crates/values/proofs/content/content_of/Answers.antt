-- `values::content::content_of` meets its contract: each arm is a case of `content_of`. Assumes nothing.
use Rattle.values.proofs.content.content_of.Goals as goal

pub returns-in-Integer : goal.returns-in-Integer
returns-in-Integer c =
    rw (c.in-Integer.is, c.integer_bytes.ensures)

pub returns-in-Float : goal.returns-in-Float
returns-in-Float c =
    rw (c.in-Float.is, c.float_bytes.ensures)

pub returns-in-Decimal : goal.returns-in-Decimal
returns-in-Decimal c =
    rw c.in-Decimal.is
