use Rattle.nullness.proofs.Marking.{Marking}
use Prim.Native.Nat.{◌-◌}
use Rattle.layout.specs.code.Stands.{TypeAt}
use Rattle.plan.specs.Marks.{given}
use Rattle.nullness.proofs.column.place_filled.Given as goal

abbrev pub invariant-loop-i : goal.invariant-loop-i
invariant-loop-i l = (P : TypeAt l.v 16 l.s l.initial.d.at) → Marking l.v l.s (given l.required P.tree) l.path l.len l.d.at l.marked l.i

abbrev pub decreases-loop-i : goal.decreases-loop-i
decreases-loop-i l = l.len - l.i
