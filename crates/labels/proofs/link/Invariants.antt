use mathlib.Core.Path.{◌≡◌}
use lib.ListN.{length}
use Rattle.labels.proofs.Filling.{Linking}
use Rattle.labels.proofs.link.Given as goal

abbrev pub invariant-loop-i : goal.invariant-loop-i
invariant-loop-i l = (length l.table ≡ length l.initial.table) × Linking l.columns.edition l.columns.matching l.columns.depth l.s l.heads l.columns.count l.i l.initial.table l.table

abbrev pub decreases-loop-i : goal.decreases-loop-i
decreases-loop-i l = l.i
