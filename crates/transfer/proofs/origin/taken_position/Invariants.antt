use Rattle.transfer.proofs.Origins.{Inward}
use lib.ListN.{length}
use Prim.Native.Nat.{◌-◌}
use Rattle.transfer.proofs.origin.taken_position.Given as goal

abbrev pub invariant-loop-k : goal.invariant-loop-k
invariant-loop-k l = Inward l.plan l.initial.d.at l.d.at

abbrev pub decreases-loop-k : goal.decreases-loop-k
decreases-loop-k l = length l.plan - l.d.at
