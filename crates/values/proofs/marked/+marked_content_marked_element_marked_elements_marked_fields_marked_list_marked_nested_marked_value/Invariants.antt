use Rattle.values.proofs.Walk.{Fielding, Repeating}
use Rattle.values.specs.code.Marks.{marks_of}
use Prim.Native.Nat.{◌+◌, ◌-◌, ◌*◌}
use Rattle.values.proofs.marked.+marked_content_marked_element_marked_elements_marked_fields_marked_list_marked_nested_marked_value.Given as goal

abbrev pub decreases-marked_content : goal.decreases-marked_content
decreases-marked_content l = 5 * l.cx.depth + 1

abbrev pub decreases-marked_element : goal.decreases-marked_element
decreases-marked_element l = 5 * l.cx.depth + 2

abbrev pub decreases-marked_elements : goal.decreases-marked_elements
decreases-marked_elements l = 5 * l.cx.depth + 3

abbrev pub decreases-marked_fields : goal.decreases-marked_fields
decreases-marked_fields l = 5 * l.cx.depth + 3

abbrev pub decreases-marked_list : goal.decreases-marked_list
decreases-marked_list l = 5 * l.cx.depth + 4

abbrev pub decreases-marked_nested : goal.decreases-marked_nested
decreases-marked_nested l = 5 * l.cx.depth

abbrev pub decreases-marked_value : goal.decreases-marked_value
decreases-marked_value l = 5 * l.cx.depth + 2

abbrev pub invariant-marked_elements-loop-i : goal.invariant-marked_elements-loop-i
invariant-marked_elements-loop-i l = Repeating (marks_of l.cx.marks) l.required l.cx.edition l.cx.depth l.lay l.t.at l.rec l.n l.initial.d.at
    l.i l.d.at

abbrev pub decreases-marked_elements-loop-i : goal.decreases-marked_elements-loop-i
decreases-marked_elements-loop-i l = l.n - l.i

abbrev pub invariant-marked_fields-loop-i : goal.invariant-marked_fields-loop-i
invariant-marked_fields-loop-i l = Fielding (marks_of l.cx.marks) l.cx.edition l.cx.depth l.lay l.n l.initial.d.at l.rec l.initial.b.at l.i l.d.at
    l.b.at

abbrev pub decreases-marked_fields-loop-i : goal.decreases-marked_fields-loop-i
decreases-marked_fields-loop-i l = l.n - l.i
