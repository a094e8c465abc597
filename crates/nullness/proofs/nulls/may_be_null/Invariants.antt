use Rattle.nullness.proofs.Looking.{Looking}
use Prim.Native.Nat.{◌-◌}
use Rattle.nullness.proofs.nulls.may_be_null.Given as goal

abbrev pub invariant-loop-i : goal.invariant-loop-i
invariant-loop-i l = Looking l.plan l.initial.c.at l.path l.from l.len l.c.at l.i

abbrev pub decreases-loop-i : goal.decreases-loop-i
decreases-loop-i l = l.len - l.i
