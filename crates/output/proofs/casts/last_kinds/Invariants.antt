use Rattle.output.proofs.Passing.{Ahead, Keeping}
use Rattle.walk.specs.code.Walks.{WalkAt, rank}
use Rattle.walk.specs.code.Ends.{EndsAt}
use Rattle.walk.specs.code.Moves.{Stopped}
use Rattle.walk.specs.code.State.{State}
use Rattle.layout.specs.declared.leaf.Leaf.{Leaf}
use mathlib.Core.List.{List}
use Rattle.output.proofs.casts.last_kinds.Given as goal

abbrev pub invariant-loop-left : goal.invariant-loop-left
invariant-loop-left l = EndsAt l.plan l.ends × ((y : State) × WalkAt l.plan l.at y × Stopped y)
    × ((x z : State) (ks : List Leaf) → WalkAt l.plan l.initial.at x → Stopped x → Ahead z ks l.i l.i x → Keeping l.plan z ks l.i l.left l.kinds l.at)

abbrev pub decreases-loop-left : goal.decreases-loop-left
decreases-loop-left l = rank l.at
