use Prim.Native.Nat.{◌-◌}
use mathlib.Core.Path.{◌≡◌}
use lib.ListN.{length}
use Rattle.index.proofs.Passing.{Filling}
use Rattle.index.proofs.columns.index_columns.Given as goal

abbrev pub invariant-loop-j : goal.invariant-loop-j
invariant-loop-j l = Filling l.v l.s l.n l.initial.c.at l.stride l.c.at l.i l.j l.starts × (length l.starts ≡ length l.initial.starts)

abbrev pub decreases-loop-j : goal.decreases-loop-j
decreases-loop-j l = length l.initial.starts - l.j
