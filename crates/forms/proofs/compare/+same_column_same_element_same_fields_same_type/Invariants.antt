use Rattle.forms.proofs.Comparing.{Comparing}
use Prim.Native.Nat.{◌+◌, ◌-◌, ◌*◌}
use Rattle.forms.proofs.compare.+same_column_same_element_same_fields_same_type.Given as goal

abbrev pub decreases-same_column : goal.decreases-same_column
decreases-same_column l = 4 * l.da + 1

abbrev pub decreases-same_element : goal.decreases-same_element
decreases-same_element l = 4 * l.da + 1

abbrev pub decreases-same_fields : goal.decreases-same_fields
decreases-same_fields l = 4 * l.da + 2

abbrev pub decreases-same_type : goal.decreases-same_type
decreases-same_type l = 4 * l.da

abbrev pub invariant-same_fields-loop-i : goal.invariant-same_fields-loop-i
invariant-same_fields-loop-i l = Comparing l.va l.da l.a l.n l.initial.c.at l.vb l.db l.b l.initial.d.at l.i l.c.at l.d.at

abbrev pub decreases-same_fields-loop-i : goal.decreases-same_fields-loop-i
decreases-same_fields-loop-i l = l.n - l.i
