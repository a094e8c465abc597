-- At binary32 and binary64 the definitions agree with the logic's own account of IEEE 754, `lib.Ieee`: rounding
-- (`round-bits`), integers (`integer-bits`), the number of a pattern (`value-bits`), the NaN (`nan-bits`), and a float
-- in another format (`converted-bits`, `ieee_float`). Assumes nothing.
use mathlib.Core.Path.{◌≡◌, refl, sym, ap, ap₂, ◌∙◌, subst}
use mathlib.Core.Logic.{◌⊎◌, inl, inr}
use mathlib.Core.Bool.{Bool, true, false, not, cond}
use Prim.Native.Nat.{ℕ, zero, suc, ◌+◌, ◌-◌, ◌*◌, ◌/◌, ◌%◌, ◌^◌, ◌≤◌, ◌<◌, min, compare}
use native.Mathlib.Nat.{le_trans, le_of_eq, le_of_lt, lt_of_lt_of_le, add_assoc, mul_comm, mul_assoc, mul-one, mul-pos, mul_right_comm, mul-div_cancel}
use native.Mathlib.Nat.{mul-mod_left, mod-lt, div-eq_of_lt, div-eq_of_lt-le, div-lt_iff_lt-mul, le_antisymm, zero-lt-suc, min-eq_left, min-eq_right}
use native.Mathlib.Nat.{div-div-eq-div-mul}
use native.Mathlib.Omega.{arith}
use borrow.Author.Tests.{lt-ltb, le-leb, lt-leb, eq-eqb, ne_eqb}
use lib.Arith.{mod-mul, digits_mod}
use lib.Dec.{T, leb, ltb, eqb, ltb→lt, nltb→le}
use lib.IntN.{ℤ, pos, negsuc}
use lib.Pow.{pow_pos}
use lib.Ieee.{Float, nan, inf, fin, Format, binary32, binary64, prec, emax, low, up, down, size, units, odd, round, of_int, of_fields, of_bits, to_bits, is_nan, hid}
use lib.Ieee.{ones, top}
use lib.Ieee.Bits.{nan_bits_is, nan_bits_above}
use lib.Ieee.Nearest.{closest, nearest-ge, closest_same, div_same}
use lib.Ieee.Fits.{two, round_is, nearest-le, down_pos}
use lib.Ieee.Exact.{HasValue, odd_sign}
use Rattle.numeric.specs.Rounding.{hidden, scale, infinity, fields, magnitude, rounded}
use Rattle.numeric.specs.declared.floats.Format as D
use Rattle.numeric.specs.declared.floats.Format.TheVariants.{Binary32, Binary64}
use Rattle.numeric.specs.declared.integers.Integer.{Integer}
use Rattle.numeric.specs.Integers.{number_of}
use Rattle.numeric.specs.Floats as F
use Rattle.numeric.specs.Floats.{sign_bit, sign_of, unsigned_of, from_integer, finite, converted, integer_to_float, float_to_float}
use Rattle.numeric.proofs.Nearest.{lt_or_ge, number_at, whole_lt, whole_ge, hidden_twice}
use Rattle.numeric.proofs.Exact.{encode, encode_at, infinity-number, pattern_le, pattern_lt}
use Rattle.numeric.proofs.Conversions.{converted-finite, converted_infinite, converted-nan}

-- the sign's part of a pattern
abbrev sign : Format → Bool → ℕ
sign f s = cond s (top f) 0

-- a finite value's pattern
to_bits_of : (f : Format) (x : Float) (s : Bool) (v : ℕ) → HasValue x s v (2 ^ low f) → to_bits f x ≡ sign f s + encode (prec f) v
unfolding to_bits
to_bits_of f nan s v h = absurd h
to_bits_of f (inf t) s v h = absurd h
to_bits_of f (fin t m e) s v h =
    let n : m * up e * 2 ^ low f / down e ≡ v = ap (λ (x : ℕ). x / down e) h.1 ∙ mul-div_cancel v (down_pos e) in
    ap₂ (λ (b : Bool) (x : ℕ). sign f b + (size x - prec f) * hid f + x / 2 ^ (size x - prec f)) h.0 n
    ∙ add_assoc (sign f s) ((size v - prec f) * hid f) (v / 2 ^ (size v - prec f))

module _ (f : Format) (s : Bool) (q k : ℕ) (l : q ≤ hidden (prec f) + hidden (prec f)) (w : (k ≡ 0) ⊎ (hidden (prec f) ≤ q)) where
  is : magnitude (prec f) (k * hidden (prec f) + q) ≡ q * 2 ^ k
  unfolding magnitude
  is = number_at (hidden (prec f)) k q (pow_pos (prec f - 1)) l w

  limit : magnitude (prec f) (infinity (prec f) (emax f)) ≡ 2 ^ (low f + suc (emax f))
  limit = infinity-number (prec f) (emax f) ∙ ap (λ (x : ℕ). 2 ^ x) (let a : 2 ≤ prec f = two f in let t : prec f - 1 + 2 * emax f ≡ emax f + prec f - 2
      + suc (emax f) = omega arith in t)

  units-bits : to_bits f (units f s q k) ≡ sign f s + min (k * hidden (prec f) + q) (infinity (prec f) (emax f))
  unfolding units to_bits
  units-bits = go (ltb (q * 2 ^ k) (2 ^ (low f + suc (emax f)))) (ltb→lt (q * 2 ^ k) (2 ^ (low f + suc (emax f))))
      (nltb→le (q * 2 ^ k) (2 ^ (low f + suc (emax f))))
    where
      go : (b : Bool) → (T b → q * 2 ^ k < 2 ^ (low f + suc (emax f))) → (T (not b) → 2 ^ (low f + suc (emax f)) ≤ q * 2 ^ k)
          → to_bits f (cond b (odd (suc (prec f)) s q k (low f)) (inf s)) ≡ sign f s + min (k * hidden (prec f) + q) (infinity (prec f) (emax f))
      go true h g =
          to_bits_of f (odd (suc (prec f)) s q k (low f)) s (q * 2 ^ k) (odd_sign (suc (prec f)) s q k (low f))
          ∙ ap (λ (x : ℕ). sign f s + x) (encode_at (prec f) (two f) q k l w ∙ sym (min-eq_left (le_of_lt below)))
        where
          below : k * hidden (prec f) + q < infinity (prec f) (emax f)
          below = pattern_lt (prec f) (k * hidden (prec f) + q) (infinity (prec f) (emax f))
              (subst (λ (x : ℕ). x < magnitude (prec f) (infinity (prec f) (emax f))) (sym is) (lt_of_lt_of_le (h tt) (le_of_eq (sym limit))))
      go false h g = ap (λ (x : ℕ). sign f s + x) (sym (min-eq_right above))
        where
          above : infinity (prec f) (emax f) ≤ k * hidden (prec f) + q
          above = pattern_le (prec f) (infinity (prec f) (emax f)) (k * hidden (prec f) + q) (le_trans (le_of_eq limit) (le_trans (g tt) (le_of_eq (sym is))))

pub round-bits : (f : Format) (s : Bool) (num den : ℕ) → to_bits f (round f s num den) ≡ sign f s + rounded (prec f) (emax f) num den
unfolding rounded
round-bits f s num den =
    let n = num * 2 ^ low f in
    let k = size (n / den) - prec f in
    let e : n / den / 2 ^ k ≡ n / (den * 2 ^ k) = div-div-eq-div-mul n den (2 ^ k) in
    let c = compare (n % (den * 2 ^ k) * 2) (den * 2 ^ k) in
    ap (to_bits f) (round_is f s num den)
    ∙ units-bits f s (closest n (den * 2 ^ k)) k
    (le_trans (nearest-le (n / (den * 2 ^ k)) c) (subst (λ (x : ℕ). x < hidden (prec f) + hidden (prec f)) e
    (subst (λ (x : ℕ). n / den / 2 ^ k < x) (hidden_twice (prec f) (two f)) (whole_lt (prec f) n den))))
    (up_to (whole_ge (prec f) n den (let a : 2 ≤ prec f = two f in omega arith)) e (nearest-ge (n / (den * 2 ^ k)) c))
  where
    up_to : {k h x y q : ℕ} → (k ≡ 0) ⊎ (h ≤ x) → x ≡ y → y ≤ q → (k ≡ 0) ⊎ (h ≤ q)
    up_to (inl z) e l = inl z
    up_to (inr g) e l = inr (le_trans g (le_trans (le_of_eq e) l))

pub integer-bits : (f : Format) (z : ℤ) → to_bits f (of_int f z) ≡ from_integer (prec f) (emax f) z
unfolding of_int from_integer
integer-bits f (pos n) = round-bits f false n 1 ∙ (let t : 0 + rounded (prec f) (emax f) n 1 ≡ rounded (prec f) (emax f) n 1 = omega arith in t)
integer-bits f (negsuc n) =
    round-bits f true (suc n) 1
    ∙ ap (λ (x : ℕ). x + rounded (prec f) (emax f) (suc n) 1) (mul_comm (hid f) (suc (ones f)) ∙ ap (λ (x : ℕ). x * hid f)
    (let t : suc (2 * emax f + 1) ≡ 2 * emax f + 2 = omega arith in t))

-- ---- a pattern's number

-- the sign's bit, in its two spellings
top-is : (f : Format) → top f ≡ sign_bit (prec f) (emax f)
top-is f = mul_comm (hid f) (suc (ones f)) ∙ ap (λ (x : ℕ). x * hid f) (let t : suc (2 * emax f + 1) ≡ 2 * emax f + 2 = omega arith in t)

-- the digits are those of what lies below the sign
digits-below : (f : Format) (b : ℕ) → b % top f % hid f ≡ b % hid f
digits-below f b =
    ap (λ (x : ℕ). b % x % hid f) (mul_comm (hid f) (suc (ones f)))
    ∙ ap (λ (x : ℕ). x % hid f) (mod-mul b (zero-lt-suc (ones f)) (pow_pos (prec f - 1)))
    ∙ digits_mod (b / hid f % suc (ones f)) (mod-lt b (pow_pos (prec f - 1)))

below-is : (f : Format) (b : ℕ) → b % top f ≡ unsigned_of (prec f) (emax f) b
below-is f b = ap (λ (x : ℕ). b % x) (top-is f)

-- with the sign s, the exponent's field x and the digits t
fields_value : (f : Format) (s : Bool) (x t : ℕ) → x < ones f → HasValue (of_fields f s x t) s (fields (hid f) x t) (2 ^ low f)
unfolding of_fields
fields_value f s zero t l = subst (λ (v : ℕ). HasValue (odd (prec f) s t 0 (low f)) s v (2 ^ low f)) (mul-one t) (odd_sign (prec f) s t 0 (low f))
fields_value f s (suc x) t l =
    subst (λ (c : Bool). HasValue (cond c (cond (eqb t 0) (inf s) nan) (odd (prec f) s (hid f + t) x (low f))) s ((hid f + t) * 2 ^ x) (2 ^ low f))
    (sym (ne_eqb (suc x) (ones f) (λ (e : suc x ≡ ones f). (let n : ⊥ = omega arith in n)))) (odd_sign (prec f) s (hid f + t) x (low f))

fields_infinite : (f : Format) (s : Bool) (x t : ℕ) → x ≡ ones f → t ≡ 0 → of_fields f s x t ≡ inf s
unfolding of_fields
fields_infinite f s zero t e z = let n : ⊥ = omega arith in absurd n
fields_infinite f s (suc x) t e z =
    ap (λ (c : Bool). cond c (cond (eqb t 0) (inf s) nan) (odd (prec f) s (hid f + t) x (low f))) (eq-eqb (suc x) (ones f) e)
    ∙ ap (λ (c : Bool). cond c (inf s) nan) (eq-eqb t 0 z)

pub value-bits : (f : Format) (b : ℕ) → unsigned_of (prec f) (emax f) b < infinity (prec f) (emax f)
    → HasValue (of_bits f b) (leb (top f) b) (magnitude (prec f) (unsigned_of (prec f) (emax f) b)) (2 ^ low f)
unfolding of_bits magnitude
value-bits f b l =
    subst (λ (m : ℕ). HasValue (of_bits f b) (leb (top f) b) (fields (hid f) (m / hid f) (m % hid f)) (2 ^ low f)) (below-is f b)
    (subst (λ (t : ℕ). HasValue (of_bits f b) (leb (top f) b) (fields (hid f) (b % top f / hid f) t) (2 ^ low f)) (sym (digits-below f b))
    (fields_value f (leb (top f) b) (b % top f / hid f) (b % hid f)
    ((div-lt_iff_lt-mul (pow_pos (prec f - 1))).1 (subst (λ (m : ℕ). m < infinity (prec f) (emax f)) (sym (below-is f b)) l))))

infinite_bits : (f : Format) (b : ℕ) → unsigned_of (prec f) (emax f) b ≡ infinity (prec f) (emax f) → of_bits f b ≡ inf (leb (top f) b)
unfolding of_bits
infinite_bits f b e =
    fields_infinite f (leb (top f) b) (b % top f / hid f) (b % hid f) (ap (λ (m : ℕ). m / hid f) at ∙ mul-div_cancel (ones f) (pow_pos (prec f - 1)))
    (sym (digits-below f b) ∙ ap (λ (m : ℕ). m % hid f) at ∙ mul-mod_left (ones f) (hid f))
  where
    at : b % top f ≡ ones f * hid f
    at = below-is f b ∙ e

is_nan_lem : (x : Float) → is_nan x ≡ true → x ≡ nan
unfolding is_nan
is_nan_lem nan e = refl
is_nan_lem (inf s) e = absurd (subst (λ (t : Bool). T (not t)) e tt)
is_nan_lem (fin s m x) e = absurd (subst (λ (t : Bool). T (not t)) e tt)

nan-read : (f : Format) (b : ℕ) → infinity (prec f) (emax f) < unsigned_of (prec f) (emax f) b → of_bits f b ≡ nan
nan-read f b l =
    is_nan_lem (of_bits f b)
    (sym (nan_bits_is f b) ∙ nan_bits_above f b
    ∙ lt-ltb (ones f * hid f) (b % top f) (subst (λ (m : ℕ). ones f * hid f < m) (sym (below-is f b)) l))

-- ---- the NaN

pub nan-bits : (f : Format) → to_bits f nan ≡ F.nan (prec f) (emax f)
unfolding to_bits
nan-bits binary32 = refl
nan-bits binary64 = refl

-- ---- a float in another format: what `round` makes of its number

-- equal fractions are rounded to one pattern
pub rounded-same : (p emax a b c d : ℕ) → 0 < b → 0 < d → a * d ≡ c * b → rounded p emax a b ≡ rounded p emax c d
unfolding rounded
rounded-same p emax a b c d B D e =
    ap (λ (x : ℕ). min (k * hidden p + x) (infinity p emax)) (closest_same n (b * 2 ^ k) o (d * 2 ^ k) (mul-pos B (pow_pos k)) (mul-pos D (pow_pos k))
    (sym (mul_assoc n d (2 ^ k)) ∙ ap (λ (x : ℕ). x * 2 ^ k) units ∙ mul_assoc o b (2 ^ k)))
    ∙ ap (λ (x : ℕ). min ((size x - p) * hidden p + closest o (d * 2 ^ (size x - p))) (infinity p emax)) (div_same n b o d B D units)
  where
    n : ℕ
    n = a * 2 ^ scale p emax

    o : ℕ
    o = c * 2 ^ scale p emax

    k : ℕ
    k = size (n / b) - p

    units : n * d ≡ o * b
    units = mul_right_comm a (2 ^ scale p emax) d ∙ ap (λ (x : ℕ). x * 2 ^ scale p emax) e ∙ mul_right_comm c b (2 ^ scale p emax)

abbrev pub recast : Format → Float → Float
recast g nan = nan
recast g (inf s) = inf s
recast g (fin s m e) = round g s (m * up e) (down e)

recast_value : (g : Format) (x : Float) (s : Bool) (v d : ℕ) → 0 < d → HasValue x s v d → to_bits g (recast g x) ≡ sign g s + rounded (prec g) (emax g) v d
recast_value g nan s v d D h = absurd h
recast_value g (inf t) s v d D h = absurd h
recast_value g (fin t m e) s v d D h =
    round-bits g t (m * up e) (down e)
    ∙ ap₂ (λ (c : Bool) (x : ℕ). sign g c + x) h.0 (rounded-same (prec g) (emax g) (m * up e) (down e) v d (down_pos e) D h.1)

-- the sign's part
sign_bits : (f g : Format) (b : ℕ) → b < 2 * top f → sign g (leb (top f) b) ≡ sign_of (prec f) (emax f) b * sign_bit (prec g) (emax g)
sign_bits f g b l =
    go (lt_or_ge b (top f)) ∙ ap₂ (λ (x y : ℕ). b / x % 2 * y) (top-is f) (top-is g)
  where
    go : (b < top f) ⊎ (top f ≤ b) → sign g (leb (top f) b) ≡ b / top f % 2 * top g
    go (inl k) =
        ap (sign g) (lt-leb (top f) b k) ∙ sym (ap (λ (x : ℕ). x % 2 * top g) (div-eq_of_lt k) ∙ (let t : 0 * top g ≡ 0 = omega arith in t))
    go (inr k) =
        ap (sign g) (le-leb (top f) b k)
        ∙ sym (ap (λ (x : ℕ). x % 2 * top g) (div-eq_of_lt-le (top f) (let t : 1 * top f ≤ b = omega arith in t) (let t : b < 2 * top f = l in t)) ∙
        (let t : 1 * top g ≡ top g = omega arith in t))

pub converted-bits : (f g : Format) (b : ℕ) → b < 2 * top f → to_bits g (recast g (of_bits f b)) ≡ converted (prec f) (emax f) (prec g) (emax g) b
unfolding to_bits
converted-bits f g b l = go (lt_or_ge m (infinity (prec f) (emax f))) (lt_or_ge (infinity (prec f) (emax f)) m)
  where
    m : ℕ
    m = unsigned_of (prec f) (emax f) b

    go : (m < infinity (prec f) (emax f)) ⊎ (infinity (prec f) (emax f) ≤ m) → (infinity (prec f) (emax f) < m) ⊎ (m ≤ infinity (prec f) (emax f))
        → to_bits g (recast g (of_bits f b)) ≡ converted (prec f) (emax f) (prec g) (emax g) b
    go (inl k) v =
        recast_value g (of_bits f b) (leb (top f) b) (magnitude (prec f) m) (2 ^ low f) (pow_pos (low f)) (value-bits f b k)
        ∙ ap (λ (x : ℕ). x + finite (prec f) (emax f) (prec g) (emax g) m) (sign_bits f g b l)
        ∙ sym (converted-finite (prec f) (emax f) (prec g) (emax g) b k)
    go (inr k) (inl n) =
        ap (λ (x : Float). to_bits g (recast g x)) (nan-read f b n) ∙ nan-bits g ∙ sym (converted-nan (prec f) (emax f) (prec g) (emax g) b n)
    go (inr k) (inr n) =
        ap (λ (x : Float). to_bits g (recast g x)) (infinite_bits f b (le_antisymm n k))
        ∙ infinite-made (leb (top f) b)
        ∙ ap (λ (x : ℕ). x + infinity (prec g) (emax g)) (sign_bits f g b l)
        ∙ sym (converted_infinite (prec f) (emax f) (prec g) (emax g) b (le_antisymm n k))
      where
        infinite-made : (s : Bool) → to_bits g (inf s) ≡ sign g s + infinity (prec g) (emax g)
        infinite-made s = refl

-- ---- the same at the conversions of the run

abbrev pub named : Format → D.Format
named binary32 = Binary32
named binary64 = Binary64

pub ieee_integer : (i : Integer) (f : Format) (b : ℕ) → to_bits f (of_int f (number_of i b)) ≡ integer_to_float i (named f) b
unfolding integer_to_float
ieee_integer i binary32 b = integer-bits binary32 (number_of i b)
ieee_integer i binary64 b = integer-bits binary64 (number_of i b)

pub ieee_float : (f g : Format) (b : ℕ) → b < 2 * top f → to_bits g (recast g (of_bits f b)) ≡ float_to_float (named f) (named g) b
unfolding float_to_float
ieee_float binary32 binary32 b l = converted-bits binary32 binary32 b l
ieee_float binary32 binary64 b l = converted-bits binary32 binary64 b l
ieee_float binary64 binary32 b l = converted-bits binary64 binary32 b l
ieee_float binary64 binary64 b l = converted-bits binary64 binary64 b l
