-- `overflow::want::is_outside` meets its contract: a count from zero on, or below it. Assumes nothing.
use Rattle.overflow.proofs.Scaling.{count-up, count_down}
use native.Mathlib.Omega.{arith}
use Rattle.overflow.proofs.want.is_outside.Goals as goal

pub returns-then-n-lt-HALF : goal.returns-then-n-lt-HALF
returns-then-n-lt-HALF c =
    count-up c.args.d c.args.n c.if-n-lt-HALF.true

pub returns : goal.returns
returns c =
    count_down c.args.d c.args.n (omega (arith, c.if-n-lt-HALF.false))
    (omega (arith, c.ranges))
