use Rattle.walk.proofs.Ending.{Ending}
use Rattle.walk.proofs.inputs.input_ends.Given as goal

abbrev pub invariant-loop-i : goal.invariant-loop-i
invariant-loop-i l = Ending l.plan l.first l.i l.d.at l.ends

abbrev pub decreases-loop-i : goal.decreases-loop-i
decreases-loop-i l = l.i
