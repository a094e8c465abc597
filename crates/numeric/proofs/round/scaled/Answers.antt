-- `numeric::round::scaled` meets its contract. One power of two divides the other. Assumes nothing.
use mathlib.Core.Path.{sym, ◌∙◌}
use native.Mathlib.Omega.{arith}
use native.Mathlib.Nat.{le_of_lt}
use Rattle.numeric.proofs.Shifts.{shift_small, shift_is, closest-right}
use Rattle.numeric.proofs.round.scaled.Goals as goal

pub overflow_shl-result : goal.overflow_shl-result
overflow_shl-result c =
    omega (
      arith,
      shift_small c.args.m c.args.a c.args.s c.requires.0 c.requires.1
          c.if-s-a.true,
    )

pub returns-then-s-a : goal.returns-then-s-a
returns-then-s-a c =
    shift_is c.args.m c.args.a c.args.s c.requires.1
    c.if-s-a.true

pub returns-else-s-a : goal.returns-else-s-a
returns-else-s-a c =
    c.shift_nearest.ensures ∙ sym
    (closest-right c.args.m c.args.a c.args.s (le_of_lt c.if-s-a.false))
