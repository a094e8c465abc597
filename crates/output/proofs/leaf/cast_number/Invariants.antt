use Rattle.output.specs.code.Chain.{Passed, Casting}
use Rattle.walk.specs.code.Walks.{WalkAt}
use Rattle.walk.specs.code.State.{State}
use Rattle.values.specs.Value.{vnumber}
use Rattle.layout.specs.declared.leaf.Leaf.{Leaf}
use lib.ListN.{length}
use mathlib.Core.List.{List}
use mathlib.Core.Path.{◌≡◌}
use Rattle.output.proofs.leaf.cast_number.Given as goal

abbrev pub invariant-loop-i : goal.invariant-loop-i
invariant-loop-i l = ((y : State) × WalkAt l.plan l.w y)
    × ((y z : State) (ks : List Leaf) → WalkAt l.plan l.w y → Passed y ks z → length ks ≡ l.initial.i → Casting ks (vnumber l.initial.k l.initial.x) l.i (vnumber l.k l.x))

abbrev pub decreases-loop-i : goal.decreases-loop-i
decreases-loop-i l = l.i
