-- Parts of a list of bytes that stand one behind the other. Assumes nothing.
use Prim.Native.Nat.{ℕ, suc, ◌+◌, ◌-◌, ◌≤◌, ◌<◌}
use mathlib.Core.Path.{◌≡◌, sym, ap, ◌∙◌}
use mathlib.Core.List.{[], ◌∷◌, ◌++◌}
use native.Mathlib.Omega.{arith}
use native.Mathlib.Numerals.{add-one}
use lib.ListN.{length, get_or, take, drop, take-append-drop}
use lib.Seq.{slice, slice-cons, slice_empty, length-slice, take-take, drop-append-le, length-take-le}
use Rattle.layout.specs.Bytes.{Bytes}

-- bs stands in s from `at` up to e
pub record Stands (s : Bytes) (at e : ℕ) (bs : Bytes) : Type 0 where
  pub from : at ≤ e
  pub to : e ≤ length s
  pub is : slice at e s ≡ bs

module _ {s : Bytes} where
  pub stands-length : {at e : ℕ} {bs : Bytes} → Stands s at e bs → at + length bs ≡ e
  stands-length {at} {e} {bs} h =
      let q : length bs ≡ e - at = sym (ap length h.is) ∙ length-slice at e s h.to in
      let l = h.from in omega arith

  pub stands_eq : {at e e' : ℕ} {bs bs' : Bytes} → e ≡ e' → bs ≡ bs' → Stands s at e bs → Stands s at e' bs'
  stands_eq p q h = rw (← p, ← q) h

  pub stands-none : {at : ℕ} → at ≤ length s → Stands s at at []
  stands-none {at} l = record { from = omega arith; to = l; is = slice_empty at s }

  pub stands_one : (at : ℕ) → at < length s → Stands s at (at + 1) (get_or s at 0 ∷ [])
  stands_one at h =
      record {
        from = omega arith;
        to = omega arith;
        is = slice-cons at (at + 1) s 0 (omega arith) (omega arith) ∙ ap (λ (r : Bytes). get_or s at 0 ∷ r)
            (rw add-one (slice_empty (suc at) s));
      }

  -- one part after another
  pub stands-append : {at m e : ℕ} {xs ys : Bytes} → Stands s at m xs → Stands s m e ys → Stands s at e (xs ++ ys)
  stands-append {at} {m} {e} {xs} {ys} h g =
      let a = h.from in let b = g.from in let l = g.to in
      let t : take m s ≡ take m (take e s) = sym (take-take m e s b) in
      let q : slice at e s ≡ slice at m s ++ slice m e s =
      ap (λ (r : Bytes). drop at r) (sym (take-append-drop m (take e s)))
      ∙ drop-append-le at (take m (take e s)) (drop m (take e s)) (omega (arith, ap length (sym t) ∙ length-take-le m s (omega arith)))
      ∙ ap (λ (r : Bytes). drop at r ++ slice m e s) (sym t) in
      record { from = omega arith; to = g.to; is = rw (q, h.is, g.is) }
