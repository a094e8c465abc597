use Rattle.checker.proofs.Headed.{Widening}
use Rattle.walk.specs.code.Walks.{rank}
use Rattle.checker.proofs.head.width.Given as goal

abbrev pub invariant-loop-z : goal.invariant-loop-z
invariant-loop-z l = Widening l.incoming l.v l.n l.plan l.initial.x l.x

abbrev pub decreases-loop-z : goal.decreases-loop-z
decreases-loop-z l = rank l.x
