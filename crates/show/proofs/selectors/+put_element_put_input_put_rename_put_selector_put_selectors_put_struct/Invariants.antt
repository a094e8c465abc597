use Prim.Native.Nat.{◌<◌, ◌≤◌, ◌+◌, ◌-◌, ◌*◌}
use Rattle.show.proofs.selectors.+put_element_put_input_put_rename_put_selector_put_selectors_put_struct.Given as goal

abbrev pub decreases-put_element : goal.decreases-put_element
decreases-put_element g l = 4 * l.depth + 2

abbrev pub decreases-put_input : goal.decreases-put_input
decreases-put_input g l = 4 * l.depth + 1

abbrev pub decreases-put_rename : goal.decreases-put_rename
decreases-put_rename g l = 4 * l.depth + 1

abbrev pub decreases-put_selector : goal.decreases-put_selector
decreases-put_selector g l = 4 * l.depth

abbrev pub decreases-put_selectors : goal.decreases-put_selectors
decreases-put_selectors g l = 4 * l.depth + 1

abbrev pub decreases-put_struct : goal.decreases-put_struct
decreases-put_struct g l = 4 * l.depth + 2

abbrev pub invariant-put_selectors-loop-i : goal.invariant-put_selectors-loop-i
invariant-put_selectors-loop-i g l = (l.i ≤ l.count) × (l.count < 65536)

abbrev pub decreases-put_selectors-loop-i : goal.decreases-put_selectors-loop-i
decreases-put_selectors-loop-i g l = l.count - l.i
