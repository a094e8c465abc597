use Rattle.overflow.proofs.Paths.{Fieldings}
use Prim.Native.Nat.{◌+◌, ◌-◌, ◌*◌}
use Rattle.overflow.proofs.overflows.+over_element_over_fields_over_type.Given as goal

abbrev pub decreases-over_element : goal.decreases-over_element
decreases-over_element l = l.place.depth * 3 + 1

abbrev pub decreases-over_fields : goal.decreases-over_fields
decreases-over_fields l = l.fields.depth * 3 + 1

abbrev pub decreases-over_type : goal.decreases-over_type
decreases-over_type l = l.place.depth * 3 + 0

abbrev pub invariant-over_fields-loop-i : goal.invariant-over_fields-loop-i
invariant-over_fields-loop-i l = Fieldings l.lay l.columns l.rec l.plan l.path l.edition l.depth l.tgt l.count l.initial.d.at l.i l.d.at

abbrev pub decreases-over_fields-loop-i : goal.decreases-over_fields-loop-i
decreases-over_fields-loop-i l = l.count - l.i
