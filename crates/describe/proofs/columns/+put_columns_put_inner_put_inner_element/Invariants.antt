use Prim.Native.Nat.{◌<◌, ◌≤◌, ◌+◌, ◌-◌, ◌*◌}
use Rattle.describe.proofs.columns.+put_columns_put_inner_put_inner_element.Given as goal

abbrev pub decreases-put_columns : goal.decreases-put_columns
decreases-put_columns g l = 3 * l.depth + 2

abbrev pub decreases-put_inner : goal.decreases-put_inner
decreases-put_inner g l = 3 * l.depth

abbrev pub decreases-put_inner_element : goal.decreases-put_inner_element
decreases-put_inner_element g l = 3 * l.depth + 1

abbrev pub invariant-put_columns-loop-i : goal.invariant-put_columns-loop-i
invariant-put_columns-loop-i g l = (l.i ≤ l.n) × (l.n < 65536)

abbrev pub decreases-put_columns-loop-i : goal.decreases-put_columns-loop-i
decreases-put_columns-loop-i g l = l.n - l.i
