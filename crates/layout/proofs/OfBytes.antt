-- Laws of lists of bytes: `same_bytes` decides equality, and a part of bytes has bytes. Assumes nothing.
use Prim.Native.Nat.{ℕ, ◌+◌, ◌≤◌, ◌<◌}
use mathlib.Core.Path.{◌≡◌, refl, ap₂}
use mathlib.Core.List.{[], ◌∷◌}
use mathlib.Core.Bool.{Bool, true, false, ◌&&◌}
use native.Mathlib.Omega.{arith}
use native.Mathlib.Decide.{dec_lt}
use lib.ListN.{length, get_or, take, drop, length-take, get_or-eq_default}
use lib.Seq.{get_or-take, get_or-drop}
use lib.Dec.{eqb}
use borrow.Author.Tests.{eq-eqb, eqb-true}
use Rattle.layout.specs.Bytes.{Bytes, same_bytes, AllBytes}
use Rattle.layout.proofs.Ways.{clash}

pub same_bytes-refl : (b : Bytes) → same_bytes b b ≡ true
unfolding same_bytes
same_bytes-refl [] = refl
same_bytes-refl (x ∷ b) = rw (eq-eqb x x refl) (same_bytes-refl b)

-- two tests, as one
pub both : (a b : Bool) → (a && b) ≡ true → (a ≡ true) × (b ≡ true)
both true b e = (refl, e)
both false b e = clash (cc)

pub same_bytes_eq : (b c : Bytes) → same_bytes b c ≡ true → b ≡ c
unfolding same_bytes
same_bytes_eq [] [] e = refl
same_bytes_eq [] (y ∷ c) e = clash (cc)
same_bytes_eq (x ∷ b) [] e = clash (cc)
same_bytes_eq (x ∷ b) (y ∷ c) e = let (p, q) = both (eqb x y) (same_bytes b c) e in ap₂ ◌∷◌ (eqb-true x y p) (same_bytes_eq b c q)

pub bytes-part : (s : Bytes) (at n : ℕ) → AllBytes s → AllBytes (take n (drop at s))
bytes-part s at n o i = go (dec_lt i n)
  where
    go : Dec (i < n) → get_or (take n (drop at s)) i 0 < 256
    go (yes h) = rw (get_or-take n (drop at s) i 0 h, get_or-drop at s i 0) (o (at + i))
    go (no h) =
        let l : length (take n (drop at s)) ≤ i = simp length-take (omega arith) in
        rw (get_or-eq_default (take n (drop at s)) 0 l) (omega arith)
