use Prim.Native.Nat.{◌<◌, ◌≤◌, ◌+◌, ◌-◌, ◌*◌}
use Rattle.describe.proofs.records.+put_content_put_elements_put_fields_put_list_put_value.Given as goal

abbrev pub decreases-put_content : goal.decreases-put_content
decreases-put_content g l = 5 * l.depth

abbrev pub decreases-put_elements : goal.decreases-put_elements
decreases-put_elements g l = 5 * l.depth + 2

abbrev pub decreases-put_fields : goal.decreases-put_fields
decreases-put_fields g l = 5 * l.depth + 2

abbrev pub decreases-put_list : goal.decreases-put_list
decreases-put_list g l = 5 * l.depth + 3

abbrev pub decreases-put_value : goal.decreases-put_value
decreases-put_value g l = 5 * l.depth + 1

abbrev pub invariant-put_elements-loop-i : goal.invariant-put_elements-loop-i
invariant-put_elements-loop-i g l = l.i ≤ l.n

abbrev pub decreases-put_elements-loop-i : goal.decreases-put_elements-loop-i
decreases-put_elements-loop-i g l = l.n - l.i

abbrev pub invariant-put_fields-loop-i : goal.invariant-put_fields-loop-i
invariant-put_fields-loop-i g l = (l.i ≤ l.n) × (l.n < 65536)

abbrev pub decreases-put_fields-loop-i : goal.decreases-put_fields-loop-i
decreases-put_fields-loop-i g l = l.n - l.i
