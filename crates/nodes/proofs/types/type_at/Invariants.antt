use Rattle.nodes.proofs.Leading.{Leading}
use Prim.Native.Nat.{◌-◌}
use Rattle.nodes.proofs.types.type_at.Given as goal

abbrev pub invariant-loop-i : goal.invariant-loop-i
invariant-loop-i l = Leading l.v l.s l.initial.d.at l.path l.from l.len l.d.at l.i

abbrev pub decreases-loop-i : goal.decreases-loop-i
decreases-loop-i l = l.len - l.i
