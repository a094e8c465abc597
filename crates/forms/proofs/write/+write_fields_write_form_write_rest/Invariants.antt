use Rattle.forms.proofs.Writing.{Writing}
use Prim.Native.Nat.{◌+◌, ◌-◌, ◌*◌}
use Rattle.forms.proofs.write.+write_fields_write_form_write_rest.Given as goal

abbrev pub decreases-write_fields : goal.decreases-write_fields
decreases-write_fields l = 3 * l.depth + 2

abbrev pub decreases-write_form : goal.decreases-write_form
decreases-write_form l = 3 * l.depth + 1

abbrev pub decreases-write_rest : goal.decreases-write_rest
decreases-write_rest l = 3 * l.depth

abbrev pub invariant-write_fields-loop-i : goal.invariant-write_fields-loop-i
invariant-write_fields-loop-i l = Writing l.v l.depth l.s l.n l.c.at l.initial.out l.k l.out l.d.at l.to l.i

abbrev pub decreases-write_fields-loop-i : goal.decreases-write_fields-loop-i
decreases-write_fields-loop-i l = l.n - l.i
