use Rattle.checker.proofs.Naming.{Naming}
use Rattle.walk.specs.code.Walks.{rank}
use Rattle.walk.specs.code.Ends.{EndsAt}
use Rattle.checker.proofs.name.name_at.Given as goal

abbrev pub invariant-loop-name : goal.invariant-loop-name
invariant-loop-name l = Naming l.incoming l.v l.n l.plan l.initial.x l.x × EndsAt l.plan l.ends

abbrev pub decreases-loop-name : goal.decreases-loop-name
decreases-loop-name l = rank l.x
