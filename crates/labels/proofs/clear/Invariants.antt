use Prim.Native.Nat.{◌-◌}
use mathlib.Core.Path.{◌≡◌}
use lib.ListN.{length}
use Rattle.labels.specs.code.LabelTable.{Cleared}
use Rattle.labels.proofs.clear.Given as goal

abbrev pub invariant-loop-k : goal.invariant-loop-k
invariant-loop-k l = (length l.table ≡ length l.initial.table) × Cleared l.ending l.from l.k l.table

abbrev pub decreases-loop-k : goal.decreases-loop-k
decreases-loop-k l = length l.initial.table - l.k
