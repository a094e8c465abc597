-- What the arithmetic of src/want.rt returns, over plain numbers. Assumes nothing.
use Prim.Native.Nat.{ℕ, suc, ◌-◌, ◌*◌, ◌/◌, ◌^◌, ◌≤◌, ◌<◌, min}
use mathlib.Core.Path.{◌≡◌, sym, ap, ◌∙◌}
use native.Mathlib.Omega.{arith}
use native.Mathlib.Nat.{div-lt_iff_lt-mul, le-div_iff_mul-le}
use lib.Dec.{leb}
use Rattle.numeric.specs.Integers.{signed}
use Rattle.numeric.proofs.TwosComplement.{signed_low, signed_high}
use Rattle.overflow.specs.code.Want.{outside}
use Rattle.overflow.specs.declared.want.Bounds.{Bounds}

module _ (a f : ℕ) (h : 0 < f) where
  pub scaled-past : 2 ^ 63 / f < a → 2 ^ 63 ≡ min (a * f) (2 ^ 63)
  scaled-past l = let k : 2 ^ 63 < a * f = (div-lt_iff_lt-mul h).0 l in omega arith

  pub scaled_fits : a ≤ 2 ^ 63 / f → a * f ≤ 2 ^ 63
  scaled_fits l = (le-div_iff_mul-le h).0 l

  pub scaled-within : a ≤ 2 ^ 63 / f → a * f ≡ min (a * f) (2 ^ 63)
  scaled-within l = let k = scaled_fits l in omega arith

module _ (d : Bounds) (n : ℕ) where
  pub count-up : n < 2 ^ 63 → leb d.above n ≡ outside d (signed 64 n)
  count-up h = sym (ap (outside d) (signed_low 64 n h))

  pub count_down : 2 ^ 63 ≤ n → n < 2 ^ 64 → leb d.below (2 ^ 64 - 1 - n) ≡ outside d (signed 64 n)
  count_down h k =
      let e : 2 ^ 64 - 1 - n ≡ 2 ^ 64 - suc n = omega arith in
      ap (leb d.below) e ∙ sym (ap (outside d) (signed_high 64 n (omega arith) h k))
