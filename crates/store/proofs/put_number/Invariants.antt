use mathlib.Core.Path.{◌≡◌}
use Prim.Native.Nat.{◌+◌, ◌-◌}
use Rattle.store.specs.code.Overlay.{overlay}
use Rattle.store.specs.LittleEndian.{little_bytes}
use Rattle.store.proofs.put_number.Given as goal

-- what is stored and what is still to be stored are together what was asked for
abbrev pub invariant-loop-i : goal.invariant-loop-i
invariant-loop-i l = overlay l.out (l.k + l.i) (little_bytes (l.width - l.i) l.rest) ≡ overlay l.initial.out l.k (little_bytes l.width l.n)
