use Rattle.transfer.proofs.Rows.{Going}
use Rattle.plan.specs.Run.{cast_leaf}
use Rattle.nodes.specs.code.Raw.{ElementsAt}
use lib.ListN.{length}
use Prim.Native.Nat.{◌-◌}
use mathlib.Core.Path.{◌≡◌}
use Rattle.transfer.proofs.casts.cast_elements.Given as goal

abbrev pub invariant-loop-i : goal.invariant-loop-i
invariant-loop-i l = (length l.out ≡ length l.initial.out) × ((X : ElementsAt l.v l.lay l.m l.t.at l.rec l.initial.c.at) → Going (cast_leaf l.to) X l.initial.out l.initial.k l.i l.c.at l.k l.out)

abbrev pub decreases-loop-i : goal.decreases-loop-i
decreases-loop-i l = l.m - l.i
