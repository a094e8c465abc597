use Prim.Native.Nat.{◌+◌, ◌-◌, ◌*◌}
use lib.ListN.{length}
use mathlib.Core.Path.{◌≡◌}
use Rattle.nullness.specs.code.Nulls.{Grown}
use Rattle.nullness.proofs.Filling.{Elements}
use Rattle.nullness.proofs.Filling.{Row}
use Rattle.nullness.proofs.fill.+fill_content_fill_elements_fill_fields_fill_list_fill_value.Given as goal

abbrev pub decreases-fill_content : goal.decreases-fill_content
decreases-fill_content l = l.depth * 4 + 3

abbrev pub decreases-fill_elements : goal.decreases-fill_elements
decreases-fill_elements l = l.depth * 4 + 1

abbrev pub decreases-fill_fields : goal.decreases-fill_fields
decreases-fill_fields l = l.depth * 4 + 1

abbrev pub decreases-fill_list : goal.decreases-fill_list
decreases-fill_list l = l.depth * 4 + 2

abbrev pub decreases-fill_value : goal.decreases-fill_value
decreases-fill_value l = l.depth * 4 + 0

abbrev pub invariant-fill_elements-loop-i : goal.invariant-fill_elements-loop-i
invariant-fill_elements-loop-i l = Elements l.plan l.n l.t.at l.initial.d.at l.nulls l.i l.d.at × Grown l.initial.nulls l.nulls ×
    (length l.nulls ≡ length l.initial.nulls)

abbrev pub decreases-fill_elements-loop-i : goal.decreases-fill_elements-loop-i
decreases-fill_elements-loop-i l = l.n - l.i

abbrev pub invariant-fill_fields-loop-i : goal.invariant-fill_fields-loop-i
invariant-fill_fields-loop-i l = Row l.plan l.n l.initial.d.at l.initial.b.at l.nulls l.i l.d.at l.b.at × Grown l.initial.nulls l.nulls ×
    (length l.nulls ≡ length l.initial.nulls)

abbrev pub decreases-fill_fields-loop-i : goal.decreases-fill_fields-loop-i
decreases-fill_fields-loop-i l = l.n - l.i
