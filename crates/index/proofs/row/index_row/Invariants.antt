use Prim.Native.Nat.{◌-◌}
use mathlib.Core.Path.{◌≡◌}
use lib.ListN.{length}
use Rattle.index.proofs.Rows.{Filling}
use Rattle.index.proofs.row.index_row.Given as goal

abbrev pub invariant-loop-v : goal.invariant-loop-v
invariant-loop-v l = Filling l.v l.lay l.n l.initial.t.at l.rec l.initial.c.at l.stride l.t.at l.c.at l.i l.j l.types l.values × (length l.types ≡ length l.initial.types) × (length l.values ≡ length l.initial.values)

abbrev pub decreases-loop-v : goal.decreases-loop-v
decreases-loop-v l = length l.initial.types - l.j
