use Prim.Native.Nat.{◌<◌, ◌≤◌, ◌-◌}
use Rattle.describe.proofs.tables.put_each.Given as goal

abbrev pub invariant-loop-i : goal.invariant-loop-i
invariant-loop-i g l = (l.i ≤ l.n) × (l.n < 65536)

abbrev pub decreases-loop-i : goal.decreases-loop-i
decreases-loop-i g l = l.n - l.i
