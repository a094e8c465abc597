use Prim.Native.Nat.{◌+◌, ◌-◌, ◌*◌}
use Rattle.layout.proofs.Reading.{Reading}
use Rattle.layout.proofs.read.+read_columns_read_element_read_rest_read_type.Given as goal

abbrev pub decreases-read_columns : goal.decreases-read_columns
decreases-read_columns l = 3 * l.depth + 1

abbrev pub decreases-read_element : goal.decreases-read_element
decreases-read_element l = 3 * l.depth + 1

abbrev pub decreases-read_rest : goal.decreases-read_rest
decreases-read_rest l = 3 * l.depth + 2

abbrev pub decreases-read_type : goal.decreases-read_type
decreases-read_type l = 3 * l.depth

abbrev pub invariant-read_columns-loop-i : goal.invariant-read_columns-loop-i
invariant-read_columns-loop-i l = Reading l.v l.rule l.inner l.depth l.s l.n l.c.at l.initial.seen l.i l.d.at l.seen

abbrev pub decreases-read_columns-loop-i : goal.decreases-read_columns-loop-i
decreases-read_columns-loop-i l = l.n - l.i
