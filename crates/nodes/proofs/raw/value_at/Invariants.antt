use Rattle.nodes.proofs.Path.{Going}
use Prim.Native.Nat.{◌-◌}
use Rattle.nodes.proofs.raw.value_at.Given as goal

abbrev pub invariant-loop-i : goal.invariant-loop-i
invariant-loop-i l = Going l.v l.lay l.initial.u.at l.rec l.initial.d.at l.path l.from l.len l.u.at l.d.at l.i

abbrev pub decreases-loop-i : goal.decreases-loop-i
decreases-loop-i l = l.len - l.i
