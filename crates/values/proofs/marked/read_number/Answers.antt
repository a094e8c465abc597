-- `values::marked::read_number` meets its contract: a code that is a number's has its bytes after the presence byte.
-- Assumes nothing.
use Rattle.values.proofs.Numbers.{number-to, number-none}
use Rattle.values.proofs.marked.read_number.Goals as goal

pub returns-in-To : goal.returns-in-To
returns-in-To c =
    λ mark v d P. number-to mark P _ _ c.byte.ensures c.in-Byte.is c.number_bytes-w.ensures c.if-w-eq0.false c.pass.ensures
    c.in-To.is

pub returns-in-Refused-pass : goal.returns-in-Refused-pass
returns-in-Refused-pass c =
    λ mark v d P. number-none mark P _ _ c.byte.ensures c.in-Byte.is c.number_bytes-w.ensures c.if-w-eq0.false c.pass.ensures
    c.in-Refused-pass.is
