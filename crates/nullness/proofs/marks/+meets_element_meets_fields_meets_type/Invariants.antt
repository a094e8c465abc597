use Rattle.nullness.proofs.Meeting.{Fieldings}
use Prim.Native.Nat.{◌+◌, ◌-◌, ◌*◌}
use Rattle.nullness.proofs.marks.+meets_element_meets_fields_meets_type.Given as goal

abbrev pub decreases-meets_element : goal.decreases-meets_element
decreases-meets_element l = l.place.depth * 3 + 1

abbrev pub decreases-meets_fields : goal.decreases-meets_fields
decreases-meets_fields l = l.fields.depth * 3 + 1

abbrev pub decreases-meets_type : goal.decreases-meets_type
decreases-meets_type l = l.t.place.depth * 3 + 0

abbrev pub invariant-meets_fields-loop-i : goal.invariant-meets_fields-loop-i
invariant-meets_fields-loop-i l = Fieldings l.lay l.columns l.plan l.path l.edition l.depth l.tgt l.count l.initial.d.at l.i l.d.at

abbrev pub decreases-meets_fields-loop-i : goal.decreases-meets_fields-loop-i
decreases-meets_fields-loop-i l = l.count - l.i
