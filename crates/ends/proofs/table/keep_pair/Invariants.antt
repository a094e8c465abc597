use Prim.Native.Nat.{◌%◌, ◌<◌, ◌≤◌, ◌-◌}
use mathlib.Core.Path.{◌≡◌}
use Rattle.ends.proofs.table.keep_pair.Given as goal

abbrev pub invariant-loop-j : goal.invariant-loop-j
invariant-loop-j l = (l.ends ≡ l.initial.ends) × (l.j % 2 ≡ 1) × (2 < l.j) × (l.j ≤ 4099)

abbrev pub decreases-loop-j : goal.decreases-loop-j
decreases-loop-j l = 4099 - l.j
