use Rattle.nullness.proofs.Following.{Followings}
use Rattle.walk.specs.code.Walks.{rank}
use Rattle.nullness.proofs.follow.follow.Given as goal

abbrev pub invariant-loop-x : goal.invariant-loop-x
invariant-loop-x l = Followings l.incoming l.columns l.plan l.initial.x l.x

abbrev pub decreases-loop-x : goal.decreases-loop-x
decreases-loop-x l = rank l.x
