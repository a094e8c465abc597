use Rattle.checker.proofs.Alike.{Matching}
use Prim.Native.Nat.{◌+◌, ◌*◌, ◌-◌}
use Rattle.checker.proofs.same.+same_as_same_column_same_element_same_fields_same_mapped.Given as goal

abbrev pub decreases-same_as : goal.decreases-same_as
decreases-same_as l = 4 * l.place.depth + 1

abbrev pub decreases-same_column : goal.decreases-same_column
decreases-same_column l = 4 * l.place.depth + 2

abbrev pub decreases-same_element : goal.decreases-same_element
decreases-same_element l = 4 * l.place.depth + 2

abbrev pub decreases-same_fields : goal.decreases-same_fields
decreases-same_fields l = 4 * l.place.depth + 3

abbrev pub decreases-same_mapped : goal.decreases-same_mapped
decreases-same_mapped l = 4 * l.place.depth

abbrev pub invariant-same_fields-loop-k : goal.invariant-same_fields-loop-k
invariant-same_fields-loop-k l = Matching l.incoming l.v l.n l.plan l.w l.count l.target l.place.edition l.place.depth l.initial.at.at l.c.at l.at.at l.k

abbrev pub decreases-same_fields-loop-k : goal.decreases-same_fields-loop-k
decreases-same_fields-loop-k l = l.count - l.k
