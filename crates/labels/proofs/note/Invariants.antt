use Prim.Native.Nat.{◌-◌}
use mathlib.Core.Path.{◌≡◌}
use lib.ListN.{length}
use Rattle.labels.proofs.Filling.{Noting}
use Rattle.labels.proofs.note.Given as goal

abbrev pub invariant-loop-i : goal.invariant-loop-i
invariant-loop-i l = (length l.table ≡ length l.initial.table) × Noting l.columns.edition l.columns.depth l.s l.columns.count l.initial.c.at l.i l.c.at l.table

abbrev pub decreases-loop-i : goal.decreases-loop-i
decreases-loop-i l = l.columns.count - l.i
