use mathlib.Core.Path.{◌≡◌}
use lib.ListN.{length}
use Prim.Native.Nat.{◌%◌, ◌<◌, ◌≤◌, ◌+◌, ◌-◌}
use Rattle.ends.proofs.table.pair_length.Given as goal

abbrev pub invariant-loop-j : goal.invariant-loop-j
invariant-loop-j l = (l.j % 2 ≡ 1) × (2 < l.j) × (l.j ≤ length l.ends + 3)

abbrev pub decreases-loop-j : goal.decreases-loop-j
decreases-loop-j l = length l.ends + 3 - l.j
