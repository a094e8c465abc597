use Prim.Native.Nat.{◌+◌, ◌-◌, ◌*◌}
use Rattle.layout.proofs.Passing.{Passing}
use Rattle.layout.proofs.pass.+pass_columns_pass_element_pass_rest_pass_type.Given as goal

abbrev pub decreases-pass_columns : goal.decreases-pass_columns
decreases-pass_columns l = 3 * l.depth + 1

abbrev pub decreases-pass_element : goal.decreases-pass_element
decreases-pass_element l = 3 * l.depth + 1

abbrev pub decreases-pass_rest : goal.decreases-pass_rest
decreases-pass_rest l = 3 * l.depth + 2

abbrev pub decreases-pass_type : goal.decreases-pass_type
decreases-pass_type l = 3 * l.depth

abbrev pub invariant-pass_columns-loop-i : goal.invariant-pass_columns-loop-i
invariant-pass_columns-loop-i l = Passing l.v l.depth l.s l.n l.initial.next.at l.i l.next.at

abbrev pub decreases-pass_columns-loop-i : goal.decreases-pass_columns-loop-i
decreases-pass_columns-loop-i l = l.n - l.i
