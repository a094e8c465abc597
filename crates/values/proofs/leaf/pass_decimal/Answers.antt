use native.Mathlib.Omega.{arith}
use Rattle.values.proofs.Ways.{decimal-room, decimal_good, decimal_large, decimal-none}
use Rattle.values.proofs.leaf.pass_decimal.Goals as goal

pub number_at-requires : goal.number_at-requires
number_at-requires c =
    record { w_in_bounds = decimal-room 0 _ _ c.pass.ensures c.in-To.is; w_bound = omega arith }

pub returns-then-within_precision : goal.returns-then-within_precision
returns-then-within_precision c =
    decimal_good _ _ _ c.pass.ensures c.in-To.is c.number_at.ensures c.within_precision.ensures c.if-within_precision.true

pub returns-else-within_precision : goal.returns-else-within_precision
returns-else-within_precision c =
    decimal_large _ _ _ c.pass.ensures c.in-To.is c.number_at.ensures c.within_precision.ensures c.if-within_precision.false

pub returns-in-Refused : goal.returns-in-Refused
returns-in-Refused c =
    decimal-none _ _ _ c.pass.ensures c.in-Refused.is
