-- Integers as patterns: the number of a pattern by cases, that `signed` and `pattern` undo each other, and that a kind
-- whose range holds another's keeps its numbers. Assumes nothing.
use mathlib.Core.Path.{◌≡◌, refl, sym, ap, ◌∙◌, subst}
use mathlib.Core.Bool.{Bool, true, false, cond}
use Prim.Native.Nat.{ℕ, zero, suc, ◌+◌, ◌-◌, ◌*◌, ◌/◌, ◌%◌, ◌^◌, ◌≤◌, ◌<◌, zero-le}
use native.Mathlib.Nat.{le_trans, mul-le-mul_right, mod-lt, mod-eq_of_lt, zero-mod, div-eq_of_lt, pow-suc, mul-mod_left, suc-mul, add-mul, one-mul, div-lt_iff_lt-mul}
use native.Mathlib.Decide.{dec_lt}
use native.Mathlib.Omega.{arith}
use borrow.Author.Tests.{eq-eqb, ne_eqb, lt-ltb, le-ltb}
use lib.Arith.{digits_div, digits_mod}
use lib.Dec.{T, leb→le, le→leb, lit≤}
use lib.IntN.{ℤ, pos, negsuc, nat_abs}
use lib.Pow.{pow_pos, pow_mono, pow-add, mod-pow-add, shl-shr}
use lib.Signed.{mag, le_z, ◌≤ℤ◌, shr_z}
use mir.Syntax.{w64, w128}
use mir.Val.{to_z, of_z}
use Rattle.std.proofs.lemmas.Nat.{div-add-mod'}
use Rattle.std.proofs.lemmas.Int.{to_z-of_z}
use Rattle.numeric.specs.declared.integers.Integer.{Integer}
use Rattle.numeric.specs.declared.integers.Integer.TheVariants.{Int8, Int16, Int32, Int64, UInt8, UInt16, UInt32, UInt64}
use Rattle.numeric.specs.Integers.{bits_of, is_signed, lowest, highest, signed, unsigned, number_of, pattern, widened}

pub double : (w : ℕ) → 0 < w → 2 ^ w ≡ 2 ^ (w - 1) * 2
double w W = ap (λ (x : ℕ). 2 ^ x) (let t : w ≡ suc (w - 1) = omega arith in t) ∙ pow-suc 2 (w - 1)

-- b's lowest w bits: the top one, and the rest
pub split_low : (w b : ℕ) → 0 < w → b % 2 ^ w ≡ b / 2 ^ (w - 1) % 2 * 2 ^ (w - 1) + b % 2 ^ (w - 1)
split_low w b W = ap (λ (x : ℕ). b % 2 ^ x) (let t : w ≡ 1 + (w - 1) = omega arith in t) ∙ mod-pow-add b 1 (w - 1)

-- ---- the number of a pattern

-- the top bit is 0
pub signed-clear : (w b : ℕ) → b / 2 ^ (w - 1) % 2 ≡ 0 → signed w b ≡ pos (b % 2 ^ (w - 1))
unfolding signed
signed-clear w b e = ap (λ (t : Bool). cond t (pos (b % 2 ^ (w - 1))) (negsuc (2 ^ (w - 1) - suc (b % 2 ^ (w - 1))))) (eq-eqb (b / 2 ^ (w - 1) % 2) 0 e)

-- the top bit is 1
pub signed-set : (w b : ℕ) → (b / 2 ^ (w - 1) % 2 ≡ 0 → ⊥) → signed w b ≡ negsuc (2 ^ (w - 1) - suc (b % 2 ^ (w - 1)))
unfolding signed
signed-set w b e = ap (λ (t : Bool). cond t (pos (b % 2 ^ (w - 1))) (negsuc (2 ^ (w - 1) - suc (b % 2 ^ (w - 1))))) (ne_eqb (b / 2 ^ (w - 1) % 2) 0 e)

-- of a pattern with no bits above: the lower half counts from 0, the upper half down from -1 at the last
pub signed_low : (w b : ℕ) → b < 2 ^ (w - 1) → signed w b ≡ pos b
signed_low w b l = signed-clear w b (ap (λ (x : ℕ). x % 2) (div-eq_of_lt l)) ∙ ap pos (mod-eq_of_lt l)

pub signed_high : (w b : ℕ) → 0 < w → 2 ^ (w - 1) ≤ b → b < 2 ^ w → signed w b ≡ negsuc (2 ^ w - suc b)
signed_high w b W h l =
    signed-set w b (λ e. (let n : ⊥ = omega (arith, one, e) in n))
    ∙ ap negsuc (let t : 2 ^ (w - 1) - suc (b % 2 ^ (w - 1)) ≡ 2 ^ w - suc b = omega (arith, rest, D, h) in t)
  where
    D : 2 ^ w ≡ 2 ^ (w - 1) * 2
    D = double w W

    small : b - 2 ^ (w - 1) < 2 ^ (w - 1)
    small = omega (arith, D, h, l, pow_pos (w - 1))

    parts : b ≡ 1 * 2 ^ (w - 1) + (b - 2 ^ (w - 1))
    parts = omega (arith, h)

    one : b / 2 ^ (w - 1) ≡ 1
    one = ap (λ (x : ℕ). x / 2 ^ (w - 1)) parts ∙ digits_div 1 small

    rest : b % 2 ^ (w - 1) ≡ b - 2 ^ (w - 1)
    rest = ap (λ (x : ℕ). x % 2 ^ (w - 1)) parts ∙ digits_mod 1 small

-- the two cases, for a split
pub data Top (w b : ℕ) : Type 0 where
  clear : b / 2 ^ (w - 1) % 2 ≡ 0 → signed w b ≡ pos (b % 2 ^ (w - 1)) → Top w b
  set : b / 2 ^ (w - 1) % 2 ≡ 1 → signed w b ≡ negsuc (2 ^ (w - 1) - suc (b % 2 ^ (w - 1))) → Top w b

pub top : (w b : ℕ) → Top w b
top w b = go (b / 2 ^ (w - 1) % 2) refl
  where
    go : (x : ℕ) → b / 2 ^ (w - 1) % 2 ≡ x → Top w b
    go zero e = clear e (signed-clear w b e)
    go (suc x) e = set (let m : b / 2 ^ (w - 1) % 2 < 2 = mod-lt (b / 2 ^ (w - 1)) (pow_pos 1) in omega arith)
        (signed-set w b (λ z. (let n : ⊥ = omega arith in n)))

-- ---- there and back

pub pattern-pos : (w n : ℕ) → n < 2 ^ w → pattern w (pos n) ≡ n
unfolding pattern
pattern-pos w n l = mod-eq_of_lt l

pub pattern_neg : (w n : ℕ) → n < 2 ^ w → pattern w (negsuc n) ≡ 2 ^ w - suc n
unfolding pattern
pattern_neg w n l = ap (λ (x : ℕ). 2 ^ w - suc x) (mod-eq_of_lt l)

-- a pattern of w bits
pub pattern_lt : (w : ℕ) (z : ℤ) → pattern w z < 2 ^ w
unfolding pattern
pattern_lt w (pos n) = mod-lt n (pow_pos w)
pattern_lt w (negsuc n) = omega (arith, mod-lt n (pow_pos w))

-- a number of w bits has a pattern, whose number it is
pub signed-pattern : (w : ℕ) (z : ℤ) → 0 < w → mag z < 2 ^ (w - 1) → signed w (pattern w z) ≡ z
signed-pattern w (pos n) W l =
    ap (signed w) (pattern-pos w n (omega (arith, double w W))) ∙ signed_low w n l
signed-pattern w (negsuc n) W l =
    ap (signed w) (pattern_neg w n (omega (arith, double w W)))
    ∙ signed_high w (2 ^ w - suc n) W (omega (arith, double w W)) (omega (arith, double w W))
    ∙ ap negsuc (let t : 2 ^ w - suc (2 ^ w - suc n) ≡ n = omega (arith, double w W) in t)

-- the pattern of a pattern's number is the pattern
pub pattern-signed : (w b : ℕ) → 0 < w → pattern w (signed w b) ≡ b % 2 ^ w
pattern-signed w b W = go (top w b)
  where
    h : ℕ
    h = 2 ^ (w - 1)

    rest : b % h < h
    rest = mod-lt b (pow_pos (w - 1))

    go : Top w b → pattern w (signed w b) ≡ b % 2 ^ w
    go (clear e s) =
        ap (pattern w) s ∙ pattern-pos w (b % h) (omega (arith, rest, double w W))
        ∙ sym (split_low w b W ∙ ap (λ (x : ℕ). x * h + b % h) e ∙ (let t : 0 * h + b % h ≡ b % h = omega arith in t))
    go (set e s) =
        ap (pattern w) s ∙ pattern_neg w (h - suc (b % h)) (omega (arith, rest, double w W))
        ∙ (let t : 2 ^ w - suc (h - suc (b % h)) ≡ 1 * h + b % h = omega (arith, rest, double w W) in t)
        ∙ sym (split_low w b W ∙ ap (λ (x : ℕ). x * h + b % h) e)

pub signed-mag : (w b : ℕ) → mag (signed w b) < 2 ^ (w - 1)
signed-mag w b = go (top w b)
  where
    rest : b % 2 ^ (w - 1) < 2 ^ (w - 1)
    rest = mod-lt b (pow_pos (w - 1))

    go : Top w b → mag (signed w b) < 2 ^ (w - 1)
    go (clear e s) = subst (λ (z : ℤ). mag z < 2 ^ (w - 1)) (sym s) rest
    go (set e s) = subst (λ (z : ℤ). mag z < 2 ^ (w - 1)) (sym s) (omega (arith, rest))

-- ---- the kinds

pub bits_pos : (i : Integer) → 0 < bits_of i
bits_pos Int8 = lit≤ tt
bits_pos Int16 = lit≤ tt
bits_pos Int32 = lit≤ tt
bits_pos Int64 = lit≤ tt
bits_pos UInt8 = lit≤ tt
bits_pos UInt16 = lit≤ tt
bits_pos UInt32 = lit≤ tt
bits_pos UInt64 = lit≤ tt

pub bits_le : (i : Integer) → bits_of i ≤ 64
bits_le Int8 = lit≤ tt
bits_le Int16 = lit≤ tt
bits_le Int32 = lit≤ tt
bits_le Int64 = lit≤ tt
bits_le UInt8 = lit≤ tt
bits_le UInt16 = lit≤ tt
bits_le UInt32 = lit≤ tt
bits_le UInt64 = lit≤ tt

-- a kind's lowest and highest number, number of a pattern, by its sign s and its bits w
abbrev lowest_at : Bool → ℕ → ℤ
lowest_at s w = cond s (negsuc (2 ^ (w - 1) - 1)) (pos 0)

abbrev highest_at : Bool → ℕ → ℤ
highest_at s w = cond s (pos (2 ^ (w - 1) - 1)) (pos (2 ^ w - 1))

abbrev number_at : Bool → ℕ → ℕ → ℤ
number_at s w b = cond s (signed w b) (unsigned w b)

le_from : {a b : ℤ} → T (le_z a b) → a ≤ℤ b
le_from t = record { le = t }

≤ℤ-trans : (a b c : ℤ) → a ≤ℤ b → b ≤ℤ c → a ≤ℤ c
≤ℤ-trans (pos a) (pos b) (pos c) h k = le_from (le→leb a c (le_trans (leb→le a b h.le) (leb→le b c k.le)))
≤ℤ-trans (pos a) (pos b) (negsuc c) h k = absurd k.le
≤ℤ-trans (pos a) (negsuc b) c h k = absurd h.le
≤ℤ-trans (negsuc a) b (pos c) h k = le_from tt
≤ℤ-trans (negsuc a) (pos b) (negsuc c) h k = absurd k.le
≤ℤ-trans (negsuc a) (negsuc b) (negsuc c) h k = le_from (le→leb c a (le_trans (leb→le c b k.le) (leb→le b a h.le)))

-- the range from -h to h - 1, by the magnitude
pub low-mag : (z : ℤ) (h : ℕ) → mag z < h → negsuc (h - 1) ≤ℤ z
low-mag (pos n) h l = le_from tt
low-mag (negsuc n) h l = le_from (le→leb n (h - 1) (omega arith))

pub high_mag : (z : ℤ) (h : ℕ) → mag z < h → z ≤ℤ pos (h - 1)
high_mag (pos n) h l = le_from (le→leb n (h - 1) (omega arith))
high_mag (negsuc n) h l = le_from tt

pub mag_of : (z : ℤ) (h : ℕ) → 0 < h → negsuc (h - 1) ≤ℤ z → z ≤ℤ pos (h - 1) → mag z < h
mag_of (pos n) h H a b = let t : n ≤ h - 1 = leb→le n (h - 1) b.le in omega arith
mag_of (negsuc n) h H a b = let t : n ≤ h - 1 = leb→le n (h - 1) a.le in omega arith

lowest_le : (s : Bool) (w b : ℕ) → lowest_at s w ≤ℤ number_at s w b
unfolding unsigned
lowest_le true w b = low-mag (signed w b) (2 ^ (w - 1)) (signed-mag w b)
lowest_le false w b = le_from (le→leb 0 (b % 2 ^ w) zero-le)

le_highest : (s : Bool) (w b : ℕ) → number_at s w b ≤ℤ highest_at s w
unfolding unsigned
le_highest true w b = high_mag (signed w b) (2 ^ (w - 1)) (signed-mag w b)
le_highest false w b = le_from (le→leb (b % 2 ^ w) (2 ^ w - 1) (omega (arith, mod-lt b (pow_pos w))))

kept_at : (s : Bool) (w : ℕ) (z : ℤ) → 0 < w → lowest_at s w ≤ℤ z → z ≤ℤ highest_at s w → number_at s w (pattern w z) ≡ z
unfolding unsigned
kept_at true w z W a b = signed-pattern w z W (mag_of z (2 ^ (w - 1)) (pow_pos (w - 1)) a b)
kept_at false w (negsuc n) W a b = absurd a.le
kept_at false w (pos n) W a b =
    let t : n ≤ 2 ^ w - 1 = leb→le n (2 ^ w - 1) b.le in
    let l : n < 2 ^ w = omega (arith, pow_pos w) in
    ap (λ (x : ℕ). pos (x % 2 ^ w)) (pattern-pos w n l) ∙ ap pos (mod-eq_of_lt l)

-- a pattern's number is in its kind's range
pub number-range : (i : Integer) (b : ℕ) → (lowest i ≤ℤ number_of i b) × (number_of i b ≤ℤ highest i)
unfolding number_of
number-range i b = (lowest_le (is_signed i) (bits_of i) b, le_highest (is_signed i) (bits_of i) b)

-- a number of the range has a pattern, whose number it is
pub number-kept : (i : Integer) (z : ℤ) → lowest i ≤ℤ z → z ≤ℤ highest i → number_of i (pattern (bits_of i) z) ≡ z
unfolding number_of
number-kept i z a b = kept_at (is_signed i) (bits_of i) z (bits_pos i) a b

-- "Integers keep their value": to a kind whose range holds the incoming one
pub widened-kept : (from to : Integer) (b : ℕ) → lowest to ≤ℤ lowest from → highest from ≤ℤ highest to → number_of to (widened from to b) ≡ number_of from b
unfolding widened
widened-kept from to b l h =
    number-kept to (number_of from b) (≤ℤ-trans (lowest to) (lowest from) (number_of from b) l (number-range from b).0)
    (≤ℤ-trans (number_of from b) (highest from) (highest to) (number-range from b).1 h)

pub number-zero : (i : Integer) → number_of i 0 ≡ pos 0
unfolding number_of unsigned
number-zero i = go (is_signed i)
  where
    go : (s : Bool) → number_at s (bits_of i) 0 ≡ pos 0
    go true = signed_low (bits_of i) 0 (pow_pos (bits_of i - 1))
    go false = ap pos (zero-mod (2 ^ bits_of i))

pub abs_le : (z : ℤ) → nat_abs z ≤ mag z + 1
abs_le (pos n) = omega arith
abs_le (negsuc n) = omega arith

-- a number's magnitude is below 2 ^ 64
pub number_lt : (i : Integer) (b : ℕ) → nat_abs (number_of i b) < 2 ^ 64
unfolding number_of unsigned
number_lt i b = go (is_signed i)
  where
    go : (s : Bool) → nat_abs (number_at s (bits_of i) b) < 2 ^ 64
    go true =
        let l : bits_of i - 1 ≤ 63 = omega (arith, bits_le i) in
        omega (arith, pow_mono l, signed-mag (bits_of i) b, abs_le (signed (bits_of i) b))
    go false = omega (arith, pow_mono (bits_le i), mod-lt b (pow_pos (bits_of i)))

-- a bit's part of a pattern
pub sign_one : (x side : ℕ) → x % 2 * side ≤ 1 * side
sign_one x side = mul-le-mul_right side (let m : x % 2 < 2 = mod-lt x (pow_pos 1) in omega arith)

-- ---- what the code computes by words of 64 bits

-- a word read as signed
pub word_signed : (b : ℕ) → b < 2 ^ 64 → to_z w64 b ≡ signed 64 b
word_signed b l = go (dec_lt b (2 ^ 63))
  where
    go : Dec (b < 2 ^ 63) → to_z w64 b ≡ signed 64 b
    go (yes h) = rw (lt-ltb b (2 ^ 63) h) (sym (signed_low 64 b h))
    go (no h) = rw (le-ltb b (2 ^ 63) (omega arith)) (sym (signed_high 64 b (lit≤ tt) (omega arith) l))

less_times : (a b k : ℕ) → b ≤ a → (a - b) * k + b * k ≡ a * k
less_times a b k l = sym (add-mul (a - b) b k) ∙ ap (λ (x : ℕ). x * k) (let t : a - b + b ≡ a = omega arith in t)

-- u bits above the w of a pattern are shifted out
low-shift : (w u b : ℕ) → b * 2 ^ u % 2 ^ (w + u) ≡ b % 2 ^ w * 2 ^ u
low-shift w u b =
    mod-pow-add (b * 2 ^ u) w u
    ∙ (let q : b * 2 ^ u / 2 ^ u ≡ b = shl-shr b u in
    let r : b * 2 ^ u % 2 ^ u ≡ 0 = mul-mod_left b (2 ^ u) in
    rw (q, r) (omega arith))

module _ (w u b : ℕ) (E : w + u ≡ 64) where
  top-bits : b * 2 ^ u % 2 ^ 64 ≡ b % 2 ^ w * 2 ^ u
  top-bits = ap (λ (x : ℕ). b * 2 ^ u % 2 ^ x) (sym E) ∙ low-shift w u b

  pub shift_unsigned : b * 2 ^ u % 2 ^ 64 / 2 ^ u ≡ b % 2 ^ w
  shift_unsigned = ap (λ (x : ℕ). x / 2 ^ u) top-bits ∙ shl-shr (b % 2 ^ w) u

  pub shift_signed : 0 < w → shr_z (to_z w64 (b * 2 ^ u % 2 ^ 64)) (2 ^ u) ≡ signed w b
  shift_signed W = rw top-bits (go (top w b))
    where
      half : 2 ^ (w - 1) * 2 ^ u ≡ 2 ^ 63
      half = sym (pow-add 2 (w - 1) u) ∙ ap (λ (x : ℕ). 2 ^ x) (let t : w - 1 + u ≡ 63 = omega (arith, E) in t)

      rest : b % 2 ^ (w - 1) < 2 ^ (w - 1)
      rest = mod-lt b (pow_pos (w - 1))

      U : 0 < 2 ^ u
      U = pow_pos u

      -- the bits below the top one, shifted
      below : b % 2 ^ (w - 1) * 2 ^ u + 2 ^ u ≤ 2 ^ 63
      below =
          let m : suc (b % 2 ^ (w - 1)) * 2 ^ u ≤ 2 ^ (w - 1) * 2 ^ u = mul-le-mul_right (2 ^ u) rest in
          omega (arith, half, suc-mul (b % 2 ^ (w - 1)) (2 ^ u))

      go : Top w b → shr_z (to_z w64 (b % 2 ^ w * 2 ^ u)) (2 ^ u) ≡ signed w b
      go (clear e s) =
          let x : b % 2 ^ w ≡ b % 2 ^ (w - 1) = split_low w b W ∙ (rw e (omega arith)) in
          rw (x, lt-ltb (b % 2 ^ (w - 1) * 2 ^ u) (2 ^ 63) (omega (arith, below, U)), shl-shr (b % 2 ^ (w - 1)) u, s)
      go (set e s) =
          let x : b % 2 ^ w * 2 ^ u ≡ 2 ^ 63 + b % 2 ^ (w - 1) * 2 ^ u =
          ap (λ (y : ℕ). y * 2 ^ u) (split_low w b W ∙ (rw e)) ∙ add-mul (1 * 2 ^ (w - 1)) (b % 2 ^ (w - 1)) (2 ^ u)
          ∙ (let t : 1 * 2 ^ (w - 1) * 2 ^ u ≡ 2 ^ 63 = rw one-mul half in rw t) in
          let y : 2 ^ 64 - suc (2 ^ 63 + b % 2 ^ (w - 1) * 2 ^ u) ≡ (2 ^ (w - 1) - suc (b % 2 ^ (w - 1))) * 2 ^ u + (2 ^ u - 1) =
          omega (arith, half, below, U, less_times (2 ^ (w - 1)) (suc (b % 2 ^ (w - 1))) (2 ^ u) rest, suc-mul (b % 2 ^ (w - 1)) (2 ^ u)) in
          rw (x, le-ltb (2 ^ 63 + b % 2 ^ (w - 1) * 2 ^ u) (2 ^ 63) (omega arith), y, s)
          (ap negsuc (digits_div (2 ^ (w - 1) - suc (b % 2 ^ (w - 1))) (omega (arith, U))))

-- a number of 128 bits as bits, of which the lowest w are kept
pub word_pattern : (w : ℕ) (z : ℤ) → w ≤ 64 → mag z < 2 ^ 127 → of_z w128 z % 2 ^ w ≡ pattern w z
unfolding pattern
word_pattern w (pos n) W l = refl
word_pattern w (negsuc n) W l =
    let P : 0 < 2 ^ w = pow_pos w in
    let whole : 2 ^ (128 - w) * 2 ^ w ≡ 2 ^ 128 = sym (pow-add 2 (128 - w) w) ∙ ap (λ (x : ℕ). 2 ^ x) (let t : 128 - w + w ≡ 128 = omega arith in t) in
    let parts : n / 2 ^ w * 2 ^ w + n % 2 ^ w ≡ n = div-add-mod' n (2 ^ w) in
    let r : n % 2 ^ w < 2 ^ w = mod-lt n P in
    let q : n / 2 ^ w < 2 ^ (128 - w) = (div-lt_iff_lt-mul P).1 (omega arith) in
    let y : 2 ^ 128 - suc n ≡ (2 ^ (128 - w) - suc (n / 2 ^ w)) * 2 ^ w + (2 ^ w - suc (n % 2 ^ w)) =
    omega (arith, less_times (2 ^ (128 - w)) (suc (n / 2 ^ w)) (2 ^ w) q, suc-mul (n / 2 ^ w) (2 ^ w)) in
    rw y (digits_mod (2 ^ (128 - w) - suc (n / 2 ^ w)) (omega arith))

-- what `integers::number` needs
pub ruleset shifted = (to_z-of_z, shift_signed, shift_unsigned, bits_pos, bits_le)
