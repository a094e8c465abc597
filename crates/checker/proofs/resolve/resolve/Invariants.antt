use Rattle.checker.proofs.Resolving.{Onward}
use Rattle.walk.specs.code.Walks.{rank}
use Rattle.checker.proofs.resolve.resolve.Given as goal

abbrev pub invariant-loop-c : goal.invariant-loop-c
invariant-loop-c l = Onward l.incoming l.v l.n l.plan l.initial.x l.x

abbrev pub decreases-loop-c : goal.decreases-loop-c
decreases-loop-c l = rank l.x
