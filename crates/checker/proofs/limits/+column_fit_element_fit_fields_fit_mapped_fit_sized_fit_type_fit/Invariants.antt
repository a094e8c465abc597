use Rattle.checker.proofs.Fitting.{Fitting}
use Prim.Native.Nat.{◌+◌, ◌*◌, ◌-◌}
use Rattle.checker.proofs.limits.+column_fit_element_fit_fields_fit_mapped_fit_sized_fit_type_fit.Given as goal

abbrev pub decreases-column_fit : goal.decreases-column_fit
decreases-column_fit l = 5 * l.levels + 4

abbrev pub decreases-element_fit : goal.decreases-element_fit
decreases-element_fit l = 5 * l.levels

abbrev pub decreases-fields_fit : goal.decreases-fields_fit
decreases-fields_fit l = 5 * l.levels + 5

abbrev pub decreases-mapped_fit : goal.decreases-mapped_fit
decreases-mapped_fit l = 5 * l.levels + 1

abbrev pub decreases-sized_fit : goal.decreases-sized_fit
decreases-sized_fit l = 5 * l.levels + 3

abbrev pub decreases-type_fit : goal.decreases-type_fit
decreases-type_fit l = 5 * l.levels + 2

abbrev pub invariant-fields_fit-loop-k : goal.invariant-fields_fit-loop-k
invariant-fields_fit-loop-k l = Fitting l.incoming l.v l.n l.plan l.w l.count l.levels l.room
    l.c.at l.size l.deep l.k

abbrev pub decreases-fields_fit-loop-k : goal.decreases-fields_fit-loop-k
decreases-fields_fit-loop-k l = l.count - l.k
