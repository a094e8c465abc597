use Rattle.values.proofs.Adding.{Adding}
use Rattle.values.proofs.leaf.number_at.Given as goal

abbrev pub invariant-loop-i : goal.invariant-loop-i
invariant-loop-i l = Adding l.s l.at l.w l.i l.x

abbrev pub decreases-loop-i : goal.decreases-loop-i
decreases-loop-i l = l.i
