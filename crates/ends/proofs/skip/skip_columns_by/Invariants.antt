use Rattle.ends.proofs.Skipping.{Skipping}
use Prim.Native.Nat.{◌-◌}
use Rattle.ends.proofs.skip.skip_columns_by.Given as goal

abbrev pub invariant-loop-i : goal.invariant-loop-i
invariant-loop-i l = Skipping l.v l.depth l.s l.n l.c.at l.i l.d.at

abbrev pub decreases-loop-i : goal.decreases-loop-i
decreases-loop-i l = l.n - l.i
