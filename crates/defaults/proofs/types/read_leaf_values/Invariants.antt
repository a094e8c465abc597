use Prim.Native.Nat.{◌-◌}
use Rattle.defaults.proofs.Ways.{Repeating}
use Rattle.defaults.proofs.types.read_leaf_values.Given as goal

abbrev pub invariant-loop-i : goal.invariant-loop-i
invariant-loop-i l = Repeating l.s l.l l.n l.initial.d.at l.i l.d.at

abbrev pub decreases-loop-i : goal.decreases-loop-i
decreases-loop-i l = l.n - l.i
