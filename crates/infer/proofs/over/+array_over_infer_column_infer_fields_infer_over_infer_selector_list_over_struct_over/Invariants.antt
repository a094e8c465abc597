use Rattle.infer.proofs.Gathering.{Gathering}
use Prim.Native.Nat.{◌+◌, ◌-◌, ◌*◌}
use Rattle.infer.proofs.over.+array_over_infer_column_infer_fields_infer_over_infer_selector_list_over_struct_over.Given as goal

abbrev pub decreases-array_over : goal.decreases-array_over
decreases-array_over l = 8 * l.depth + 4

abbrev pub decreases-infer_column : goal.decreases-infer_column
decreases-infer_column l = 8 * l.depth + 2

abbrev pub decreases-infer_fields : goal.decreases-infer_fields
decreases-infer_fields l = 8 * l.depth + 3

abbrev pub decreases-infer_over : goal.decreases-infer_over
decreases-infer_over l = 8 * l.depth

abbrev pub decreases-infer_selector : goal.decreases-infer_selector
decreases-infer_selector l = 8 * l.depth + 1

abbrev pub decreases-list_over : goal.decreases-list_over
decreases-list_over l = 8 * l.depth + 4

abbrev pub decreases-struct_over : goal.decreases-struct_over
decreases-struct_over l = 8 * l.depth + 4

abbrev pub invariant-infer_fields-loop-i : goal.invariant-infer_fields-loop-i
invariant-infer_fields-loop-i l = Gathering l.s l.source.edition l.source.scope l.index l.source.stride l.plan l.count l.depth l.initial.out l.k l.initial.d.at l.out l.d.at l.at l.i

abbrev pub decreases-infer_fields-loop-i : goal.decreases-infer_fields-loop-i
decreases-infer_fields-loop-i l = l.count - l.i
