-- What the code of `decimal` computes, over words of any weight w. Assumes nothing.
use mathlib.Core.Path.{◌≡◌, sym, ap, ◌∙◌, subst}
use Prim.Native.Nat.{ℕ, suc, ◌+◌, ◌-◌, ◌*◌, ◌/◌, ◌%◌, ◌^◌, ◌≤◌, ◌<◌}
use native.Mathlib.Nat.{mul-one, mul_assoc, mul-lt-mul_of_pos_right, lt_of_lt_of_le}
use native.Mathlib.Omega.{arith}
use lib.Pow.{pow_pos, pow_mono, pow-add, shl_lt}
use Rattle.numeric.specs.Rounding.{hidden, fields, magnitude}
use Rattle.text.specs.code.Decimal.{word, one, count, Words}

-- ---- a magnitude, taken apart

pub subnormal : (m : ℕ) → m / hidden 53 ≡ 0 → m % hidden 53 * 2 ^ 0 ≡ magnitude 53 m
unfolding magnitude
subnormal m z = mul-one (m % hidden 53) ∙ ap (λ (x : ℕ). fields (hidden 53) x (m % hidden 53)) (sym z)

pub normal : (m : ℕ) → (m / hidden 53 ≡ 0 → ⊥) → (hidden 53 + m % hidden 53) * 2 ^ (m / hidden 53 - 1) ≡ magnitude 53 m
unfolding magnitude
normal m nz = ap (λ (x : ℕ). fields (hidden 53) x (m % hidden 53)) (let t : suc (m / hidden 53 - 1) ≡ m / hidden 53 = omega arith in t)

-- half of an even significand, at one more in the exponent
pub halved : (m e y : ℕ) → m % 2 ≡ 0 → m * 2 ^ e ≡ y → m / 2 * 2 ^ (e + 1) ≡ y
halved m e y z h =
    let p : 2 ^ (e + 1) ≡ 2 ^ e * 2 = pow-add 2 e 1 in
    let d : m / 2 * 2 ≡ m = omega arith in
    omega (arith, ap (λ (x : ℕ). m / 2 * x) p, ap (λ (x : ℕ). x * 2 ^ e) d)

-- ---- words

pub power_pos : (x j : ℕ) → x ≡ 2 ^ j → 0 < x
power_pos x j e = subst (λ (y : ℕ). 0 < y) (sym e) (pow_pos j)

pub power_split : (j k : ℕ) → j ≤ k → 2 ^ (k - j) * 2 ^ j ≡ 2 ^ k
power_split j k l = sym (pow-add 2 (k - j) j) ∙ ap (λ (x : ℕ). 2 ^ x) (let t : k - j + j ≡ k = omega arith in t)

-- m * v, where m is q * u + r and u * v is a word
pub spread : (m u v w q r : ℕ) → q * u + r ≡ m → u * v ≡ w → q * w + r * v ≡ m * v
spread m u v w q r p e = omega (arith, ap (λ (x : ℕ). x * v) p, ap (λ (x : ℕ). q * x) e)

pub under_lt : (r u v w : ℕ) → r < u → 0 < v → u * v ≡ w → r * v < w
under_lt r u v w l z e = subst (λ (x : ℕ). r * v < x) e (mul-lt-mul_of_pos_right l z)

pub raised : (m k j : ℕ) → j ≤ k → m * 2 ^ (k - j) * 2 ^ j ≡ m * 2 ^ k
raised m k j l = mul_assoc m (2 ^ (k - j)) (2 ^ j) ∙ ap (λ (x : ℕ). m * x) (power_split j k l)

-- a whole part and a fraction of two words: the lower two, the upper two and the highest
pub lower : (q r y : ℕ) → q * word + r ≡ y → 0 * one + (q * word + r) ≡ y
lower q r y p = omega arith

pub upper : (w q r y : ℕ) → q * w + r ≡ y → q * (w * w) + (r * w + 0) ≡ y * w
upper w q r y p = omega (arith, ap (λ (x : ℕ). x * w) p)

pub top : (m k v : ℕ) → v ≡ 2 ^ (k - 120) → 120 ≤ k → m * v * (word * word) + (0 * word + 0) ≡ m * 2 ^ k
top m k v e l =
    let z : m * v * (word * word) + (0 * word + 0) ≡ m * v * (word * word) = omega arith in
    z ∙ ap (λ (x : ℕ). m * x * 2 ^ 120) e ∙ raised m k 120 l

pub whole_lt : (m k v : ℕ) → v ≡ 2 ^ (k - 120) → m < 2 ^ 53 → k < 132 → m * v < 2 ^ 64
whole_lt m k v e l h =
    let s : 53 + (k - 120) ≤ 64 = omega arith in
    subst (λ (x : ℕ). m * x < 2 ^ 64) (sym e) (lt_of_lt_of_le (shl_lt 53 (k - 120) l) (pow_mono s))

-- ten times a fraction: its words are a * w + b and c * w + d
pub step : (w h l a b c d : ℕ) → a * w + b ≡ 10 * l → c * w + d ≡ 10 * h + a → c * (w * w) + (d * w + b) ≡ 10 * (h * w + l)
step w h l a b c d p q = omega (arith, ap (λ (x : ℕ). x * w) q)

-- ---- the zeros that a fraction begins with

count_lt : (a b : ℕ) → Words a b → count a b < one
unfolding one count
count_lt a b W = omega (arith, W.above, W.below)

count-pos : (a b : ℕ) → 0 < a + b → 0 < count a b
unfolding count
count-pos a b h = omega arith

-- after the digit 0 of the fraction (a, b) comes the fraction (x, y), which is ten times as large
module _ (a b d x y : ℕ) (z : d ≡ 0) (e : d * one + count x y ≡ 10 * count a b) (p : 0 < a + b) where
  tenfold : count x y ≡ 10 * count a b
  tenfold = omega (arith, ap (λ (t : ℕ). t * one) z)

  pub closer : Words x y → one - count x y < one - count a b
  closer W = omega (arith, tenfold, count_lt x y W, count-pos a b p)

  pub still_some : 0 < x + y
  unfolding count
  still_some = omega (arith, tenfold, count-pos a b p)
