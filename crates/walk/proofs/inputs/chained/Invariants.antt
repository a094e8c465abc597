use Prim.Native.Nat.{◌+◌, ◌-◌, ◌≤◌, ◌<◌}
use lib.ListN.{length}
use Rattle.walk.proofs.inputs.chained.Given as goal

abbrev pub invariant-loop-n : goal.invariant-loop-n
invariant-loop-n l = (l.n < 64) × (l.at + l.n ≤ length l.plan)

abbrev pub decreases-loop-n : goal.decreases-loop-n
decreases-loop-n l = 63 - l.n
