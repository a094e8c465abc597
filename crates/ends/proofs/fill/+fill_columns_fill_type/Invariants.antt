use Rattle.ends.proofs.Skipping.{Skipping}
use Rattle.ends.specs.code.Ends.{Ends}
use lib.ListN.{length}
use mathlib.Core.Path.{◌≡◌}
use Prim.Native.Nat.{◌+◌, ◌-◌, ◌*◌}
use Rattle.ends.proofs.fill.+fill_columns_fill_type.Given as goal

abbrev pub decreases-fill_columns : goal.decreases-fill_columns
decreases-fill_columns l = 2 * l.depth + 1

abbrev pub decreases-fill_type : goal.decreases-fill_type
decreases-fill_type l = 2 * l.depth

abbrev pub invariant-fill_columns-loop-i : goal.invariant-fill_columns-loop-i
invariant-fill_columns-loop-i l = Skipping l.v l.depth l.s l.n l.c.at l.i l.d.at × Ends l.v l.s l.ends × (length l.ends ≡ length l.initial.ends)

abbrev pub decreases-fill_columns-loop-i : goal.decreases-fill_columns-loop-i
decreases-fill_columns-loop-i l = l.n - l.i
