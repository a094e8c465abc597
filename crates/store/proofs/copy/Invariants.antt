use mathlib.Core.Path.{◌≡◌}
use Prim.Native.Nat.{◌+◌}
use lib.ListN.{length}
use lib.Seq.{slice}
use Rattle.store.specs.code.Overlay.{overlay}
use Rattle.store.proofs.copy.Given as goal

-- what is stored and what is still to be stored are together what fits the buffer
abbrev pub invariant-loop-i : goal.invariant-loop-i
invariant-loop-i l = (length l.out ≡ length l.initial.out)
    × (overlay l.out (l.k + l.i) (slice (l.a + l.i) (l.a + l.n) l.s) ≡ overlay l.initial.out l.k (slice l.a (l.a + l.n) l.s))
