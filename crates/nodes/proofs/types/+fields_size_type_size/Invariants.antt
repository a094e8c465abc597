use Rattle.nodes.proofs.Sizes.{Sizing}
use Prim.Native.Nat.{◌+◌, ◌-◌, ◌*◌}
use Rattle.nodes.proofs.types.+fields_size_type_size.Given as goal

abbrev pub decreases-fields_size : goal.decreases-fields_size
decreases-fields_size l = 2 * l.depth + 1

abbrev pub decreases-type_size : goal.decreases-type_size
decreases-type_size l = 2 * l.depth

abbrev pub invariant-fields_size-loop-i : goal.invariant-fields_size-loop-i
invariant-fields_size-loop-i l = Sizing l.v l.depth l.s l.n l.c.at l.d.at l.size l.deep l.i

abbrev pub decreases-fields_size-loop-i : goal.decreases-fields_size-loop-i
decreases-fields_size-loop-i l = l.n - l.i
