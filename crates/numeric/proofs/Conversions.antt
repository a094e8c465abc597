-- What the code of `floats` computes, by cases. Assumes nothing.
use mathlib.Core.Path.{◌≡◌, refl, sym, ap, ◌∙◌, subst}
use mathlib.Core.Bool.{Bool, true, false, cond}
use Prim.Native.Nat.{ℕ, suc, ◌+◌, ◌-◌, ◌*◌, ◌/◌, ◌%◌, ◌^◌, ◌≤◌, ◌<◌}
use mathlib.Core.Logic.{◌⊎◌, inl, inr}
use native.Mathlib.Nat.{le_of_eq, le_of_lt, le_refl, lt_of_le_of_lt, eq-or-lt_of_le, mod-mod, mul-le-mul, mul-one, one-mul, add-mul}
use native.Mathlib.Nat.{min-le_right}
use native.Mathlib.Omega.{arith}
use borrow.Author.Tests.{ltb-true, lt-ltb, le-ltb, eq-eqb, ne_eqb}
use lib.Dec.{T, ltb, eqb, lit≤}
use lib.Arith.{digits_div, digits_mod}
use lib.IntN.{ℤ, pos, negsuc, nat_abs}
use lib.Signed.{non_neg, lt_z}
use lib.Pow.{pow_pos, pow_mono}
use Rattle.numeric.specs.declared.floats.Format.{Format}
use Rattle.numeric.specs.declared.floats.Format.TheVariants.{Binary16, Binary32, Binary64}
use Rattle.numeric.specs.Rounding.{hidden, scale, infinity, fields, magnitude, rounded}
use Rattle.numeric.specs.Floats.{precision_of, emax_of, sign_bit, sign_of, unsigned_of, nan, from_integer, finite, converted}
use Rattle.numeric.specs.code.Fitting.{Fitting}
use Rattle.numeric.proofs.Shifts.{rounded-zero}
use Rattle.numeric.proofs.TwosComplement.{sign_one, number_lt}
use Rattle.std.proofs.lemmas.Int.{to_z-of_z}

pub fitting : (f : Format) → Fitting (precision_of f) (emax_of f)
fitting Binary16 = record { two = lit≤ tt; digits = lit≤ tt; reach = lit≤ tt }
fitting Binary32 = record { two = lit≤ tt; digits = lit≤ tt; reach = lit≤ tt }
fitting Binary64 = record { two = lit≤ tt; digits = lit≤ tt; reach = lit≤ tt }

-- ---- all patterns fit 64 bits

pub sign_le : (p emax : ℕ) → Fitting p emax → sign_bit p emax ≤ 2 ^ 63
sign_le p emax F = let d : p - 1 ≤ 52 = omega arith in let e : 2 * emax + 2 ≤ 2048 = omega arith in mul-le-mul {n₂ = 2048} e (pow_mono d)

pub infinity_sign : (p emax : ℕ) → infinity p emax + hidden p ≡ sign_bit p emax
infinity_sign p emax =
    ap (λ (x : ℕ). infinity p emax + x) (sym (one-mul (hidden p))) ∙ sym (add-mul (2 * emax + 1) 1 (hidden p))
    ∙ ap (λ (x : ℕ). x * hidden p) (let t : 2 * emax + 1 + 1 ≡ 2 * emax + 2 = omega arith in t)

pub infinity_lt : (p emax : ℕ) → infinity p emax < sign_bit p emax
infinity_lt p emax = omega (arith, infinity_sign p emax, pow_pos (p - 1))

pub rounded_le : (p emax num den : ℕ) → rounded p emax num den ≤ infinity p emax
unfolding rounded
rounded_le p emax num den = min-le_right _ (infinity p emax)

-- a result with its sign
pub sign_fits : (p emax x r : ℕ) → Fitting p emax → r ≤ infinity p emax → x % 2 * sign_bit p emax + r < 2 ^ 64
sign_fits p emax x r F R = omega (arith, sign_one x (sign_bit p emax), sign_le p emax F, infinity_lt p emax)

pub nan_fits : (p emax : ℕ) → Fitting p emax → nan p emax < 2 ^ 64
nan_fits p emax F =
    let d : p - 2 ≤ p - 1 = omega arith in
    let m : 2 ^ (p - 2) ≤ 2 ^ (p - 1) = pow_mono d in
    omega (arith, sign_le p emax F, infinity_sign p emax)

-- ---- a finite magnitude, taken apart

module _ (p emax q gmax m : ℕ) where
  pub subnormal_is : m / hidden p ≡ 0 → rounded q gmax (m % hidden p * 2 ^ 0) (2 ^ scale p emax) ≡ finite p emax q gmax m
  unfolding magnitude
  subnormal_is z = ap (λ (x : ℕ). rounded q gmax x (2 ^ scale p emax)) (mul-one (m % hidden p) ∙ ap (λ (x : ℕ). fields (hidden p) x (m % hidden p)) (sym z))

  pub normal_is : (m / hidden p ≡ 0 → ⊥) → rounded q gmax ((hidden p + m % hidden p) * 2 ^ (m / hidden p - 1)) (2 ^ scale p emax) ≡ finite p emax q gmax m
  unfolding magnitude
  normal_is nz =
      ap (λ (x : ℕ). rounded q gmax x (2 ^ scale p emax))
      (ap (λ (x : ℕ). fields (hidden p) x (m % hidden p)) (let t : suc (m / hidden p - 1) ≡ m / hidden p = omega arith in t))

-- ---- a result has as many bits as its format: 2 * sign_bit is 2 ^ 16, 2 ^ 32 and 2 ^ 64

pub integer_lt : (p emax : ℕ) (z : ℤ) → from_integer p emax z < 2 * sign_bit p emax
unfolding from_integer
integer_lt p emax (pos n) = omega (arith, rounded_le p emax n 1, infinity_lt p emax)
integer_lt p emax (negsuc n) = omega (arith, rounded_le p emax (suc n) 1, infinity_lt p emax)

pub converted_lt : (p emax q gmax b : ℕ) → 2 ≤ q → converted p emax q gmax b < 2 * sign_bit q gmax
unfolding converted
converted_lt p emax q gmax b Q = go (ltb m (infinity p emax)) (eqb m (infinity p emax))
  where
    m : ℕ
    m = b % sign_bit p emax

    sign : ℕ
    sign = b / sign_bit p emax % 2 * sign_bit q gmax

    sign-le-one : sign ≤ 1 * sign_bit q gmax
    sign-le-one = sign_one (b / sign_bit p emax) (sign_bit q gmax)

    nan-lt : nan q gmax < 2 * sign_bit q gmax
    nan-lt = let d : q - 2 ≤ q - 1 = omega arith in let g : 2 ^ (q - 2) ≤ 2 ^ (q - 1) = pow_mono d in omega (arith, infinity_sign q gmax, pow_pos (q - 1))

    go : (s t : Bool) → cond s (sign + finite p emax q gmax m) (cond t (sign + infinity q gmax) (nan q gmax)) < 2 * sign_bit q gmax
    go true t = omega (arith, sign-le-one, infinity_lt q gmax, rounded_le q gmax (magnitude p m) (2 ^ scale p emax))
    go false true = omega (arith, sign-le-one, infinity_lt q gmax)
    go false false = nan-lt

-- ---- a pattern put together has its parts

pub parts_sign : (q gmax x r : ℕ) → r ≤ infinity q gmax → sign_of q gmax (x % 2 * sign_bit q gmax + r) ≡ x % 2
parts_sign q gmax x r l = ap (λ (y : ℕ). y % 2) (digits_div (x % 2) (lt_of_le_of_lt l (infinity_lt q gmax))) ∙ mod-mod x 2

pub parts_below : (q gmax x r : ℕ) → r ≤ infinity q gmax → unsigned_of q gmax (x % 2 * sign_bit q gmax + r) ≡ r
parts_below q gmax x r l = digits_mod (x % 2) (lt_of_le_of_lt l (infinity_lt q gmax))

-- ---- `converted` by what a pattern is

module _ (p emax q gmax b : ℕ) where
  pub converted-finite : unsigned_of p emax b < infinity p emax → converted p emax q gmax b ≡ sign_of p emax b * sign_bit q gmax + finite p emax q gmax
      (unsigned_of p emax b)
  unfolding converted
  converted-finite l = rw (lt-ltb (unsigned_of p emax b) (infinity p emax) l)

  pub converted_infinite : unsigned_of p emax b ≡ infinity p emax → converted p emax q gmax b ≡ sign_of p emax b * sign_bit q gmax + infinity q gmax
  unfolding converted
  converted_infinite e =
      rw (le-ltb (unsigned_of p emax b) (infinity p emax) (le_of_eq (sym e)), eq-eqb (unsigned_of p emax b) (infinity p emax) e)

  pub converted-nan : infinity p emax < unsigned_of p emax b → converted p emax q gmax b ≡ nan q gmax
  unfolding converted
  converted-nan l =
      rw (
        le-ltb (unsigned_of p emax b) (infinity p emax) (le_of_lt l),
        ne_eqb (unsigned_of p emax b) (infinity p emax) (λ e. omega (arith, l, e)),
      )

  pub finite-below : unsigned_of p emax b < infinity p emax → unsigned_of q gmax (converted p emax q gmax b) ≡ finite p emax q gmax (unsigned_of p emax b)
  finite-below l =
      ap (unsigned_of q gmax) (converted-finite l) ∙ parts_below q gmax (b / sign_bit p emax) (finite p emax q gmax (unsigned_of p emax b)) (rounded_le q gmax _ _)

  pub infinite_below : unsigned_of p emax b ≡ infinity p emax → unsigned_of q gmax (converted p emax q gmax b) ≡ infinity q gmax
  infinite_below e = ap (unsigned_of q gmax) (converted_infinite e) ∙ parts_below q gmax (b / sign_bit p emax) (infinity q gmax) (le_refl (infinity q gmax))

  pub number_sign : unsigned_of p emax b ≤ infinity p emax → sign_of q gmax (converted p emax q gmax b) ≡ sign_of p emax b
  number_sign l = go (eq-or-lt_of_le l)
    where
      go : (unsigned_of p emax b ≡ infinity p emax) ⊎ (unsigned_of p emax b < infinity p emax) → sign_of q gmax (converted p emax q gmax b) ≡ sign_of p emax b
      go (inl e) = ap (sign_of q gmax) (converted_infinite e) ∙ parts_sign q gmax (b / sign_bit p emax) (infinity q gmax) (le_refl (infinity q gmax))
      go (inr k) = ap (sign_of q gmax) (converted-finite k) ∙ parts_sign q gmax (b / sign_bit p emax) (finite p emax q gmax (unsigned_of p emax b))
          (rounded_le q gmax _ _)

-- ---- `from_integer`: its sign, and what lies below

pub integer-parts : (p emax : ℕ) (z : ℤ) → from_integer p emax z ≡ cond (non_neg z) 0 1 % 2 * sign_bit p emax + rounded p emax (nat_abs z) 1
unfolding from_integer
integer-parts p emax (pos n) = let t : rounded p emax n 1 ≡ 0 * sign_bit p emax + rounded p emax n 1 = omega arith in t
integer-parts p emax (negsuc n) = let t : sign_bit p emax + rounded p emax (suc n) 1 ≡ 1 * sign_bit p emax + rounded p emax (suc n) 1 = omega arith in t

pub integer-below : (p emax : ℕ) (z : ℤ) → unsigned_of p emax (from_integer p emax z) ≡ rounded p emax (nat_abs z) 1
integer-below p emax z = ap (unsigned_of p emax) (integer-parts p emax z) ∙ parts_below p emax (cond (non_neg z) 0 1) (rounded p emax (nat_abs z) 1)
    (rounded_le p emax _ _)

pub integer_sign : (p emax : ℕ) (z : ℤ) → sign_of p emax (from_integer p emax z) ≡ cond (non_neg z) 0 1
integer_sign p emax z =
    ap (sign_of p emax) (integer-parts p emax z) ∙ parts_sign p emax (cond (non_neg z) 0 1) (rounded p emax (nat_abs z) 1) (rounded_le p emax _ _) ∙ go z
  where
    go : (z : ℤ) → cond (non_neg z) 0 1 % 2 ≡ cond (non_neg z) 0 1
    go (pos n) = refl
    go (negsuc n) = refl

pub integer_negative : (p emax : ℕ) (z : ℤ) → lt_z z (pos 0) ≡ true → sign_bit p emax + rounded p emax (nat_abs z * 2 ^ 0) 1 ≡ from_integer p emax z
unfolding from_integer
integer_negative p emax (pos n) l = absurd (omega (arith, ltb-true n 0 l))
integer_negative p emax (negsuc n) l = rw mul-one

pub integer_positive : (p emax : ℕ) (z : ℤ) → lt_z z (pos 0) ≡ false → rounded p emax (nat_abs z * 2 ^ 0) 1 ≡ from_integer p emax z
unfolding from_integer
integer_positive p emax (pos n) l = rw mul-one
integer_positive p emax (negsuc n) l = absurd (subst (λ (t : Bool). T t) l tt)

-- 0 is positive
pub rounded-none : (p emax : ℕ) (z : ℤ) → 2 ≤ p → z ≡ pos 0 → from_integer p emax z ≡ 0
unfolding from_integer
rounded-none p emax z P e = ap (from_integer p emax) e ∙ rounded-zero p emax 0 1 P (pow_pos 0) refl

-- what `floats::from_integer` needs
pub ruleset of_integer = (to_z-of_z, number_lt, rounded_le, sign_le, infinity_lt, integer_negative, integer_positive)
