use Prim.Native.Nat.{◌<◌}
use Rattle.plan.proofs.skips.known_skip.Given as goal

abbrev pub invariant-loop-left : goal.invariant-loop-left
invariant-loop-left l = l.i < 65536

abbrev pub decreases-loop-left : goal.decreases-loop-left
decreases-loop-left l = l.left
