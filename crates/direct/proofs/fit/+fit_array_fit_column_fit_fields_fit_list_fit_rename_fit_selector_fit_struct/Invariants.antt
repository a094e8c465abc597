use Rattle.direct.proofs.Rows.{Fitting}
use Prim.Native.Nat.{◌+◌, ◌-◌, ◌*◌}
use Rattle.direct.proofs.fit.+fit_array_fit_column_fit_fields_fit_list_fit_rename_fit_selector_fit_struct.Given as goal

abbrev pub decreases-fit_array : goal.decreases-fit_array
decreases-fit_array l = 4 * l.levels + 3

abbrev pub decreases-fit_column : goal.decreases-fit_column
decreases-fit_column l = 4 * l.levels + 1

abbrev pub decreases-fit_fields : goal.decreases-fit_fields
decreases-fit_fields l = 4 * l.levels + 2

abbrev pub decreases-fit_list : goal.decreases-fit_list
decreases-fit_list l = 4 * l.levels + 3

abbrev pub decreases-fit_rename : goal.decreases-fit_rename
decreases-fit_rename l = 4 * l.levels + 3

abbrev pub decreases-fit_selector : goal.decreases-fit_selector
decreases-fit_selector l = 4 * l.levels

abbrev pub decreases-fit_struct : goal.decreases-fit_struct
decreases-fit_struct l = 4 * l.levels + 3

abbrev pub invariant-fit_fields-loop-i : goal.invariant-fit_fields-loop-i
invariant-fit_fields-loop-i l = Fitting l.incoming l.source.edition l.source.scope l.index l.source.stride l.plan l.n l.initial.d.at l.target l.vt l.initial.b.at l.i l.d.at l.b.at

abbrev pub decreases-fit_fields-loop-i : goal.decreases-fit_fields-loop-i
decreases-fit_fields-loop-i l = l.n - l.i
