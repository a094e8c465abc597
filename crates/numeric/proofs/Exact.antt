-- Where `rounded` changes nothing: a number of at most p digits, of any exponent, is a format's own. So a float goes to
-- a wider format whole. Assumes nothing.
use mathlib.Core.Path.{◌≡◌, refl, sym, ap, ◌∙◌, subst}
use mathlib.Core.Logic.{◌⊎◌, inl, inr}
use Prim.Native.Nat.{ℕ, zero, suc, ◌+◌, ◌-◌, ◌*◌, ◌/◌, ◌%◌, ◌^◌, ◌≤◌, ◌<◌}
use native.Mathlib.Nat.{le_refl, le_trans, le_of_eq, le_of_lt, lt_irrefl, lt_of_lt_of_le, lt_of_le_of_lt, eq-or-lt_of_le, mul_assoc, mul_comm, mul-one, suc-mul}
use native.Mathlib.Nat.{mul-lt-mul_of_pos_right, mul-div_cancel, div-one, mod-lt, pow-suc}
use native.Mathlib.Omega.{arith}
use lib.Pow.{pow_pos, pow-add, pow_mono}
use lib.Ieee.{size}
use lib.Ieee.Digits.{size-le}
use Rattle.numeric.specs.Rounding.{hidden, scale, infinity, fields, magnitude}
use Rattle.numeric.specs.Floats.{finite}
use Rattle.numeric.proofs.Nearest.{lt_or_ge, number_at, number_lt, number_le, hidden_twice, rounded_exact}
use Rattle.numeric.proofs.Shifts.{size-only, size-shift}

-- the pattern of a number v: its digits below the p leading ones are dropped
abbrev pub encode : ℕ → ℕ → ℕ
encode p v = (size v - p) * hidden p + v / 2 ^ (size v - p)

module _ (p : ℕ) (P : 2 ≤ p) where
  encode-small : (q : ℕ) → q < 2 ^ p → encode p q ≡ q
  encode-small q l =
      ap (λ (x : ℕ). x * hidden p + q / 2 ^ x) (let s : size q ≤ p = size-le q p l in let t : size q - p ≡ 0 = omega arith in t)
      ∙ ap (λ (x : ℕ). 0 * hidden p + x) (div-one q) ∙ (let t : 0 * hidden p + q ≡ q = omega arith in t)

  encode-full : (q k : ℕ) → hidden p ≤ q → q < 2 ^ p → encode p (q * 2 ^ k) ≡ k * hidden p + q
  encode-full q k g l =
      ap (λ (x : ℕ). x * hidden p + q * 2 ^ k / 2 ^ x) digits ∙ ap (λ (x : ℕ). k * hidden p + x) (mul-div_cancel q (pow_pos k))
    where
      some : 0 < q
      some = lt_of_lt_of_le (pow_pos (p - 1)) g

      at : size q ≡ p
      at = size-only q p l (let t : 2 ^ p ≡ hidden p + hidden p = hidden_twice p P in omega arith)

      digits : size (q * 2 ^ k) - p ≡ k
      digits = let s : size (q * 2 ^ k) ≡ size q + k - 0 = ap size (sym (div-one (q * 2 ^ k))) ∙ size-shift q k 0 some in omega (arith, at)

  -- a pattern in parts, as `number_at` has it
  pub encode_at : (q k : ℕ) → q ≤ hidden p + hidden p → (k ≡ 0) ⊎ (hidden p ≤ q) → encode p (q * 2 ^ k) ≡ k * hidden p + q
  encode_at q k l w = go (eq-or-lt_of_le l) w
    where
      h : ℕ
      h = hidden p

      go : (q ≡ h + h) ⊎ (q < h + h) → (k ≡ 0) ⊎ (h ≤ q) → encode p (q * 2 ^ k) ≡ k * h + q
      go (inl e) w =
          ap (encode p) (ap (λ (x : ℕ). x * 2 ^ k) (e ∙ (let t : h + h ≡ h * 2 = omega arith in t)) ∙ mul_assoc h 2 (2 ^ k) ∙ ap (λ (x : ℕ). h * x)
          (mul_comm 2 (2 ^ k) ∙ sym (pow-suc 2 k)))
          ∙ encode-full h (suc k) (le_refl h) (let t : 2 ^ p ≡ h + h = hidden_twice p P in let z : 0 < h = pow_pos (p - 1) in omega arith)
          ∙ (let s : suc k * h ≡ k * h + h = suc-mul k h in let t : suc k * h + h ≡ k * h + q = omega (arith, e) in t)
      go (inr m) (inl z) =
          ap (λ (x : ℕ). encode p (q * 2 ^ x)) z ∙ ap (encode p) (mul-one q) ∙ encode-small q (subst (λ (x : ℕ). q < x) (sym (hidden_twice p P)) m)
          ∙ sym (ap (λ (x : ℕ). x * h + q) z ∙ (let t : 0 * h + q ≡ q = omega arith in t))
      go (inr m) (inr g) = encode-full q k g (subst (λ (x : ℕ). q < x) (sym (hidden_twice p P)) m)

  -- A number of p digits at most has a pattern: twice the significand at one less an exponent, until the significand is
  -- full or the exponent 0.
  pub representable : (e x : ℕ) → x < 2 ^ p → (b : ℕ) × (magnitude p b ≡ x * 2 ^ e)
  unfolding magnitude
  representable zero x l =
      (0 * hidden p + x, number_at (hidden p) 0 x (pow_pos (p - 1)) (le_of_lt (subst (λ (y : ℕ). x < y) (hidden_twice p P) l)) (inl refl))
  representable (suc e) x l = go (lt_or_ge x (hidden p)) (representable e (x * 2))
    where
      go : (x < hidden p) ⊎ (hidden p ≤ x) → (x * 2 < 2 ^ p → (b : ℕ) × (magnitude p b ≡ x * 2 * 2 ^ e)) → (b : ℕ) × (magnitude p b ≡ x * 2 ^ suc e)
      go (inr g) r =
          (suc e * hidden p + x, number_at (hidden p) (suc e) x (pow_pos (p - 1)) (le_of_lt (subst (λ (y : ℕ). x < y) (hidden_twice p P) l)) (inr g))
      go (inl g) r =
          let s = r (let t : 2 ^ p ≡ hidden p + hidden p = hidden_twice p P in omega arith) in
          (s.0, s.1 ∙ mul_assoc x 2 (2 ^ e) ∙ ap (λ (y : ℕ). x * y) (mul_comm 2 (2 ^ e) ∙ sym (pow-suc 2 e)))

-- ---- infinity's pattern, read as a number

pub infinity-number : (p emax : ℕ) → magnitude p (infinity p emax) ≡ 2 ^ (p - 1 + 2 * emax)
unfolding magnitude
infinity-number p emax =
    ap (magnitude p) (let s : (2 * emax + 1) * hidden p ≡ suc (2 * emax) * hidden p = ap (λ (x : ℕ). x * hidden p)
    (let t : 2 * emax + 1 ≡ suc (2 * emax) = omega arith in t) in s ∙ suc-mul (2 * emax) (hidden p))
    ∙ number_at (hidden p) (2 * emax) (hidden p) (pow_pos (p - 1)) (let t : hidden p ≤ hidden p + hidden p = omega arith in t) (inr (le_refl (hidden p)))
    ∙ sym (pow-add 2 (p - 1) (2 * emax))

-- a smaller number has a smaller pattern
pub pattern_le : (p a b : ℕ) → magnitude p a ≤ magnitude p b → a ≤ b
unfolding magnitude
pattern_le p a b l = go (lt_or_ge b a)
  where
    go : (b < a) ⊎ (a ≤ b) → a ≤ b
    go (inr k) = k
    go (inl k) = absurd (lt_irrefl (magnitude p b) (lt_of_lt_of_le (number_lt (hidden p) b a (pow_pos (p - 1)) k) l))

pub pattern_lt : (p a b : ℕ) → magnitude p a < magnitude p b → a < b
unfolding magnitude
pattern_lt p a b l = go (lt_or_ge a b)
  where
    go : (a < b) ⊎ (b ≤ a) → a < b
    go (inl k) = k
    go (inr k) = absurd (lt_irrefl (magnitude p a) (lt_of_lt_of_le l (number_le (hidden p) b a (pow_pos (p - 1)) k)))

-- ---- a format's number in a wider format

-- a pattern's number is a significand of p digits at most, and a power
parts : (p m : ℕ) → 2 ≤ p → (x : ℕ) × (e : ℕ) × (x < 2 ^ p) × (magnitude p m ≡ x * 2 ^ e)
unfolding magnitude
parts p m P = go (m / hidden p) (m % hidden p) (mod-lt m (pow_pos (p - 1)))
  where
    go : (f t : ℕ) → t < hidden p → (x : ℕ) × (e : ℕ) × (x < 2 ^ p) × (fields (hidden p) f t ≡ x * 2 ^ e)
    go zero t l = (t, 0, (let d : 2 ^ p ≡ hidden p + hidden p = hidden_twice p P in omega arith), sym (mul-one t))
    go (suc e) t l = (hidden p + t, e, (let d : 2 ^ p ≡ hidden p + hidden p = hidden_twice p P in omega arith), refl)

module _ (p emax q gmax m : ℕ) (P : 2 ≤ p) (L : p ≤ q) (E : emax ≤ gmax) (l : m < infinity p emax) where
  Q : 2 ≤ q
  Q = le_trans P L

  abbrev d : ℕ
  d = scale q gmax - scale p emax

  back : scale q gmax ≡ d + scale p emax
  back = omega (arith, P, L, E)

  -- the pattern in the wider format, and its number
  wide : (b : ℕ) × (magnitude q b ≡ (parts p m P).0 * 2 ^ ((parts p m P).1 + d))
  wide = representable q Q ((parts p m P).1 + d) (parts p m P).0 (lt_of_lt_of_le (parts p m P).2 (pow_mono L))

  value : magnitude q wide.0 ≡ magnitude p m * 2 ^ d
  value =
      wide.1 ∙ ap (λ (y : ℕ). (parts p m P).0 * y) (pow-add 2 (parts p m P).1 d) ∙ sym (mul_assoc (parts p m P).0 (2 ^ (parts p m P).1) (2 ^ d))
      ∙ ap (λ (y : ℕ). y * 2 ^ d) (sym (parts p m P).3)

  is : magnitude q wide.0 * 2 ^ scale p emax ≡ magnitude p m * 2 ^ scale q gmax
  is =
      ap (λ (y : ℕ). y * 2 ^ scale p emax) value ∙ mul_assoc (magnitude p m) (2 ^ d) (2 ^ scale p emax)
      ∙ ap (λ (y : ℕ). magnitude p m * y) (sym (pow-add 2 d (scale p emax)) ∙ ap (λ (y : ℕ). 2 ^ y) (sym back))

  room : p - 1 + 2 * emax + d ≤ q - 1 + 2 * gmax
  room = omega (arith, P, L, E, back)

  within : wide.0 < infinity q gmax
  unfolding magnitude
  within =
      pattern_lt q wide.0 (infinity q gmax)
      (lt_of_le_of_lt (le_of_eq value)
      (lt_of_lt_of_le (mul-lt-mul_of_pos_right (number_lt (hidden p) m (infinity p emax) (pow_pos (p - 1)) l) (pow_pos d))
      (le_trans (le_of_eq (ap (λ (y : ℕ). y * 2 ^ d) (infinity-number p emax) ∙ sym (pow-add 2 (p - 1 + 2 * emax) d)))
      (le_trans (pow_mono room) (le_of_eq (sym (infinity-number q gmax)))))))

  wide_is : finite p emax q gmax m ≡ wide.0
  wide_is = rounded_exact q gmax (magnitude p m) (2 ^ scale p emax) wide.0 Q (pow_pos (scale p emax)) (le_of_lt within) is

  pub widened_exactly : magnitude q (finite p emax q gmax m) * 2 ^ scale p emax ≡ magnitude p m * 2 ^ scale q gmax
  widened_exactly = ap (λ (y : ℕ). magnitude q y * 2 ^ scale p emax) wide_is ∙ is

  -- a finite number stays finite
  pub widened-finite : finite p emax q gmax m < infinity q gmax
  widened-finite = subst (λ (y : ℕ). y < infinity q gmax) (sym wide_is) within

  -- and comes back
  pub widened_back : finite q gmax p emax (finite p emax q gmax m) ≡ m
  widened_back =
      rounded_exact p emax (magnitude q (finite p emax q gmax m)) (2 ^ scale q gmax) m P (pow_pos (scale q gmax)) (le_of_lt l) (sym widened_exactly)
