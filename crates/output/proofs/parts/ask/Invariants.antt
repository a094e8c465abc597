use Rattle.output.proofs.Asking.{Asking}
use Rattle.nodes.specs.code.Raw.{RowAt}
use Rattle.walk.specs.code.Walks.{WalkAt, rank}
use Rattle.walk.specs.code.State.{State}
use Rattle.output.proofs.parts.ask.Given as goal

abbrev pub invariant-loop-p : goal.invariant-loop-p
invariant-loop-p l = RowAt l.columns.edition l.lay l.columns.count l.columns.first.at l.rec 0 × ((x : State) × WalkAt l.plan l.at x)
    × ((X : RowAt l.columns.edition l.lay l.columns.count l.columns.first.at l.rec 0) (x : State)
    → WalkAt l.plan l.initial.at x → Asking X.values.values l.plan x l.initial.m l.initial.known l.at l.m l.known)

abbrev pub decreases-loop-p : goal.decreases-loop-p
decreases-loop-p l = rank l.at
