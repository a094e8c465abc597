use Prim.Native.Nat.{◌-◌}
use Rattle.layout.specs.code.Finding.{wanted_by}
use Rattle.layout.proofs.Finding.{Seeking}
use Rattle.layout.proofs.find.find_column.Given as goal

abbrev pub invariant-loop-i : goal.invariant-loop-i
invariant-loop-i l = Seeking l.v l.depth l.s (λ i'. wanted_by l.wanted l.name) l.n l.initial.d.at l.i l.d.at

abbrev pub decreases-loop-i : goal.decreases-loop-i
decreases-loop-i l = l.n - l.i
