-- Where `rounded` gives infinity: at and past the midpoint above the largest finite number. Assumes nothing.
use mathlib.Core.Path.{◌≡◌, sym, ap, ◌∙◌, subst}
use mathlib.Core.Logic.{◌⊎◌, inl, inr}
use Prim.Native.Nat.{ℕ, ◌+◌, ◌-◌, ◌*◌, ◌%◌, ◌^◌, ◌≤◌, ◌<◌}
use native.Mathlib.Nat.{mul-pos, le_refl, eq-or-lt_of_le, mul-le-mul_right, mul-lt-mul_of_pos_right, add-mul, mul_assoc, mul_comm}
use native.Mathlib.Omega.{arith}
use lib.Pow.{pow_pos}
use Rattle.numeric.specs.Rounding.{hidden, scale, infinity, magnitude, distance, IsRounded, rounded, PastMidpoint}
use Rattle.numeric.proofs.Nearest.{number_lt, number_le, hidden-even, rounded-is, rounded-only}

module _ (p emax num den : ℕ) (P : 2 ≤ p) (D : 0 < den) where
  top_pos : 0 < infinity p emax
  top_pos = let g : 0 < 2 * emax + 1 = omega arith in mul-pos g (pow_pos (p - 1))

  top-even : infinity p emax % 2 ≡ 0
  top-even =
      let e : infinity p emax ≡ 2 * ((2 * emax + 1) * 2 ^ (p - 2)) = ap (λ (x : ℕ). (2 * emax + 1) * x) (hidden-even p P) ∙ sym
      (mul_assoc (2 * emax + 1) (2 ^ (p - 2)) 2) ∙ mul_comm ((2 * emax + 1) * 2 ^ (p - 2)) 2 in
      omega arith

  sum : (magnitude p (infinity p emax - 1) + magnitude p (infinity p emax)) * den ≡ magnitude p (infinity p emax - 1) * den + magnitude p
      (infinity p emax) * den
  sum = add-mul (magnitude p (infinity p emax - 1)) (magnitude p (infinity p emax)) den

  step : magnitude p (infinity p emax - 1) * den < magnitude p (infinity p emax) * den
  unfolding magnitude
  step = mul-lt-mul_of_pos_right (number_lt (hidden p) (infinity p emax - 1) (infinity p emax) (pow_pos (p - 1)) (omega (arith, top_pos))) D

  pub past_infinite : PastMidpoint p emax num den → rounded p emax num den ≡ infinity p emax
  unfolding magnitude
  past_infinite l =
      rounded-only p emax num den (rounded p emax num den) (infinity p emax) D (rounded-is p emax num den P D)
      (record { within = le_refl (infinity p emax); nearest = λ b m. near b (eq-or-lt_of_le m); even = λ b m ne e. top-even })
    where
      near : (b : ℕ) → (b ≡ infinity p emax) ⊎ (b < infinity p emax)
          → distance (num * 2 ^ scale p emax) (magnitude p (infinity p emax) * den) ≤ distance (num * 2 ^ scale p emax) (magnitude p b * den)
      near b (inl e) = let s : magnitude p b * den ≡ magnitude p (infinity p emax) * den = ap (λ (x : ℕ). magnitude p x * den) e in omega arith
      near b (inr k) =
          let t : b ≤ infinity p emax - 1 = omega arith in
          let s : magnitude p b * den ≤ magnitude p (infinity p emax - 1) * den = mul-le-mul_right den
          (number_le (hidden p) b (infinity p emax - 1) (pow_pos (p - 1)) t) in
          omega (arith, sum, step, l)

  pub infinite_past : rounded p emax num den ≡ infinity p emax → PastMidpoint p emax num den
  infinite_past e =
      let R : IsRounded p emax num den (infinity p emax) = subst (λ (x : ℕ). IsRounded p emax num den x) e (rounded-is p emax num den P D) in
      let t : infinity p emax - 1 ≤ infinity p emax = omega arith in
      let n : distance (num * 2 ^ scale p emax) (magnitude p (infinity p emax) * den) ≤ distance (num * 2 ^ scale p emax)
      (magnitude p (infinity p emax - 1) * den) = R.nearest (infinity p emax - 1) t in
      omega (arith, sum, step)
