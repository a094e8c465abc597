use Rattle.output.proofs.Passing.{Passing}
use Rattle.walk.specs.code.Walks.{WalkAt, rank}
use Rattle.walk.specs.code.Ends.{EndsAt}
use Rattle.walk.specs.code.Moves.{Stopped}
use Rattle.walk.specs.code.State.{State}
use Rattle.output.proofs.casts.find_origin.Given as goal

abbrev pub invariant-loop-at : goal.invariant-loop-at
invariant-loop-at l = EndsAt l.plan l.ends × ((x : State) × WalkAt l.plan l.initial.at x × Stopped x) × ((x : State) → WalkAt l.plan l.initial.at x → Stopped x → Passing l.plan x l.initial.at l.casts l.at)

abbrev pub decreases-loop-at : goal.decreases-loop-at
decreases-loop-at l = rank l.at
