-- A mark longer than the file. Assumes nothing.
use Prim.Native.Nat.{◌<◌}
use mathlib.Core.Path.{◌≡◌, refl, sym}
use mathlib.Core.List.{[], ◌∷◌}
use mathlib.Core.Bool.{false, and-false}
use native.Mathlib.Omega.{arith}
use lib.ListN.{length, take, length-take}
use lib.Dec.{eqb}
use Rattle.layout.specs.Bytes.{Bytes, same_bytes}

shorter : (a b : Bytes) → length a < length b → same_bytes a b ≡ false
unfolding same_bytes
shorter [] [] h = absurd (omega arith)
shorter [] (y ∷ ys) h = refl
shorter (x ∷ xs) [] h = refl
shorter (x ∷ xs) (y ∷ ys) h = rw (shorter xs ys (omega arith)) (and-false (eqb x y))

pub not_begun : (s m : Bytes) → length s < length m → false ≡ same_bytes (take (length m) s) m
not_begun s m h =
    let k : length (take (length m) s) < length m = simp length-take (omega arith) in
    sym (shorter (take (length m) s) m k)
