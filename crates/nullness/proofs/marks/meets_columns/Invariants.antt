use Rattle.nullness.proofs.Meeting.{Columnings}
use Prim.Native.Nat.{◌-◌}
use Rattle.nullness.proofs.marks.meets_columns.Given as goal

abbrev pub invariant-loop-i : goal.invariant-loop-i
invariant-loop-i l = Columnings l.lay l.columns l.plan l.initial.s.at l.tgt l.edition l.count l.initial.d.at l.s.at l.d.at l.i

abbrev pub decreases-loop-i : goal.decreases-loop-i
decreases-loop-i l = l.count - l.i
