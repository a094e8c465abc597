use Rattle.walk.specs.code.State.{State}
use Rattle.walk.specs.code.Ends.{EndsAt}
use Rattle.walk.specs.code.Walks.{WalkAt, rank}
use Rattle.walk.proofs.Moving.{Walking}
use Rattle.walk.proofs.walk.Walk.locate.Given as goal

abbrev pub invariant-loop-w : goal.invariant-loop-w
invariant-loop-w l = ((x : State) → WalkAt l.plan l.initial.w x → Walking l.plan x l.initial.w l.w) × EndsAt l.plan l.ends

abbrev pub decreases-loop-w : goal.decreases-loop-w
decreases-loop-w l = rank l.w
