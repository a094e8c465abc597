-- What document 01, "Run", says about numbers, sentence by sentence, each as a theorem about the conversions of specs/.
-- The contracts of `floats`, `integers` and `times` cite these same conversions. Assumes nothing.
use mathlib.Core.Path.{◌≡◌, refl, sym, ap, ◌∙◌, subst}
use mathlib.Core.Bool.{cond}
use Prim.Native.Nat.{ℕ, suc, ◌+◌, ◌-◌, ◌*◌, ◌/◌, ◌%◌, ◌^◌, ◌≤◌, ◌<◌}
use native.Mathlib.Nat.{zero-lt-suc}
use native.Mathlib.Omega.{arith}
use lib.Dec.{lit≤}
use lib.IntN.{ℤ, pos, suc_ℤ, nat_abs, ◌*ℤ◌}
use lib.Signed.{mag, non_neg, ◌≤ℤ◌, ◌<ℤ◌}
use lib.Pow.{pow_pos, pow-add}
use Rattle.numeric.specs.declared.floats.Format.{Format}
use Rattle.numeric.specs.declared.floats.Format.TheVariants.{Binary16, Binary32, Binary64}
use Rattle.numeric.specs.declared.integers.Integer.{Integer}
use Rattle.numeric.specs.declared.integers.Integer.TheVariants.{Int64}
use Rattle.numeric.specs.Rounding.{hidden, scale, infinity, magnitude, IsRounded, rounded, PastMidpoint}
use Rattle.numeric.specs.Integers.{lowest, highest, signed, number_of, pattern, widened}
use Rattle.numeric.specs.Floats.{precision_of, emax_of, sign_of, unsigned_of, nan, finite, converted, integer_to_float, float_to_float}
use Rattle.numeric.specs.Times.{finer, coarser}
use Rattle.numeric.proofs.Nearest.{rounded-is, rounded-only, number_of_lem, number_le}
use Rattle.numeric.proofs.Midpoint.{past_infinite, infinite_past}
use Rattle.numeric.proofs.Exact.{infinity-number, widened_exactly, widened-finite, widened_back}
use Rattle.numeric.proofs.TwosComplement.{low-mag, high_mag, mag_of, widened-kept, number-zero}
use Rattle.numeric.proofs.Conversions.{fitting, finite-below, infinite_below, converted-nan, number_sign, integer-below, integer_sign, rounded-none}
use Rattle.numeric.proofs.Units.{count-is, large_is, coarser_le, lt_coarser, divided_is, finer-fits, finer_large}
use Rattle.std.specs.Prelude.{Some, None}

-- ---- the words of this file, at a format

-- a pattern below its sign, its sign, and infinity's pattern
abbrev below : Format → ℕ → ℕ
below f b = unsigned_of (precision_of f) (emax_of f) b

abbrev sign : Format → ℕ → ℕ
sign f b = sign_of (precision_of f) (emax_of f) b

abbrev inf : Format → ℕ
inf f = infinity (precision_of f) (emax_of f)

-- a pattern's number is value f b / one f
abbrev value : Format → ℕ → ℕ
value f b = magnitude (precision_of f) (below f b)

abbrev one : Format → ℕ
one f = 2 ^ scale (precision_of f) (emax_of f)

-- r is the format's nearest to num / den, ties to even
abbrev Nearest : Format → ℕ → ℕ → ℕ → Type 0
Nearest f num den r = IsRounded (precision_of f) (emax_of f) num den r

abbrev Past : Format → ℕ → ℕ → Type 0
Past f num den = PastMidpoint (precision_of f) (emax_of f) num den

-- ---- "Precisions 11, 24, 53 are proved from the same rounding law"

-- the law, for any precision and any largest exponent: `rounded` satisfies it, and no other pattern does
pub exactly_one : (p emax num den : ℕ) → 2 ≤ p → 0 < den → (r : ℕ) × IsRounded p emax num den r × ((s : ℕ) → IsRounded p emax num den s → s ≡ r)
exactly_one p emax num den P D =
    (rounded p emax num den, rounded-is p emax num den P D, λ s S. rounded-only p emax num den s (rounded p emax num den) D S (rounded-is p emax num den P D))

pub at_formats : (f : Format) (num den : ℕ) → 0 < den → Nearest f num den (rounded (precision_of f) (emax_of f) num den)
at_formats f num den D = rounded-is (precision_of f) (emax_of f) num den (fitting f).two D

pub precisions : (precision_of Binary16 ≡ 11) × (precision_of Binary32 ≡ 24) × (precision_of Binary64 ≡ 53)
precisions = (refl, refl, refl)

-- ---- "To float: nearest, ties to even"

pub integer-nearest : (from : Integer) (to : Format) (b : ℕ) → Nearest to (nat_abs (number_of from b)) 1 (below to (integer_to_float from to b))
unfolding integer_to_float
integer-nearest from to b =
    subst (λ (r : ℕ). Nearest to (nat_abs (number_of from b)) 1 r) (sym (integer-below (precision_of to) (emax_of to) (number_of from b)))
    (at_formats to (nat_abs (number_of from b)) 1 (zero-lt-suc 0))

pub float-nearest : (from to : Format) (b : ℕ) → below from b < inf from → Nearest to (value from b) (one from) (below to (float_to_float from to b))
unfolding float_to_float
float-nearest from to b l =
    subst (λ (r : ℕ). Nearest to (value from b) (one from) r) (sym (finite-below (precision_of from) (emax_of from) (precision_of to) (emax_of to) b l))
    (at_formats to (value from b) (one from) (pow_pos (scale (precision_of from) (emax_of from))))

-- ---- "subnormals included": the law ranges over all patterns, and these are the numbers of those with an exponent's
-- field of 0, and of the others

pub subnormal : (p t : ℕ) → t < hidden p → magnitude p (0 * hidden p + t) ≡ t
unfolding magnitude
subnormal p t l = number_of_lem (hidden p) 0 t l

pub normal : (p e t : ℕ) → t < hidden p → magnitude p (suc e * hidden p + t) ≡ (hidden p + t) * 2 ^ e
unfolding magnitude
normal p e t l = number_of_lem (hidden p) (suc e) t l

-- ---- "infinity at and past the midpoint above the largest finite value"

-- That midpoint lies between the pattern before infinity's, the largest finite number, and 2 ^ (emax + 1).
pub largest : (p emax b : ℕ) → b < infinity p emax → magnitude p b ≤ magnitude p (infinity p emax - 1)
unfolding magnitude
largest p emax b l = number_le (hidden p) b (infinity p emax - 1) (pow_pos (p - 1)) (omega arith)

pub after_largest : (p emax : ℕ) → 2 ≤ p → magnitude p (infinity p emax) ≡ 2 ^ (emax + 1) * 2 ^ scale p emax
after_largest p emax P =
    infinity-number p emax ∙ ap (λ (x : ℕ). 2 ^ x) (let t : p - 1 + 2 * emax ≡ emax + 1 + (emax + p - 2) = omega arith in t) ∙ pow-add 2 (emax + 1)
    (scale p emax)

pub integer-past : (from : Integer) (to : Format) (b : ℕ) → Past to (nat_abs (number_of from b)) 1 → below to (integer_to_float from to b) ≡ inf to
unfolding integer_to_float
integer-past from to b h =
    integer-below (precision_of to) (emax_of to) (number_of from b) ∙ past_infinite (precision_of to) (emax_of to) (nat_abs (number_of from b)) 1
    (fitting to).two (zero-lt-suc 0) h

pub integer_infinite : (from : Integer) (to : Format) (b : ℕ) → below to (integer_to_float from to b) ≡ inf to → Past to (nat_abs (number_of from b)) 1
unfolding integer_to_float
integer_infinite from to b e =
    infinite_past (precision_of to) (emax_of to) (nat_abs (number_of from b)) 1 (fitting to).two (zero-lt-suc 0)
    (sym (integer-below (precision_of to) (emax_of to) (number_of from b)) ∙ e)

pub float-past : (from to : Format) (b : ℕ) → below from b < inf from → Past to (value from b) (one from) → below to (float_to_float from to b) ≡ inf to
unfolding float_to_float
float-past from to b l h =
    finite-below (precision_of from) (emax_of from) (precision_of to) (emax_of to) b l
    ∙ past_infinite (precision_of to) (emax_of to) (value from b) (one from) (fitting to).two (pow_pos (scale (precision_of from) (emax_of from))) h

pub float_infinite : (from to : Format) (b : ℕ) → below from b < inf from → below to (float_to_float from to b) ≡ inf to → Past to (value from b) (one from)
unfolding float_to_float
float_infinite from to b l e =
    infinite_past (precision_of to) (emax_of to) (value from b) (one from) (fitting to).two (pow_pos (scale (precision_of from) (emax_of from)))
    (sym (finite-below (precision_of from) (emax_of from) (precision_of to) (emax_of to) b l) ∙ e)

-- an infinity stays one
pub infinity-kept : (from to : Format) (b : ℕ) → below from b ≡ inf from → below to (float_to_float from to b) ≡ inf to
unfolding float_to_float
infinity-kept from to b e = infinite_below (precision_of from) (emax_of from) (precision_of to) (emax_of to) b e

-- ---- "the sign is kept, also where the result is zero": of every pattern that is no NaN

pub float_sign : (from to : Format) (b : ℕ) → below from b ≤ inf from → sign to (float_to_float from to b) ≡ sign from b
unfolding float_to_float
float_sign from to b l = number_sign (precision_of from) (emax_of from) (precision_of to) (emax_of to) b l

pub integer-signed : (from : Integer) (to : Format) (b : ℕ) → sign to (integer_to_float from to b) ≡ cond (non_neg (number_of from b)) 0 1
unfolding integer_to_float
integer-signed from to b = integer_sign (precision_of to) (emax_of to) (number_of from b)

-- ---- "integer 0 gives positive zero"

pub integer-zero : (from : Integer) (to : Format) → integer_to_float from to 0 ≡ 0
unfolding integer_to_float
integer-zero from to = rounded-none (precision_of to) (emax_of to) (number_of from 0) (fitting to).two (number-zero from)

-- ---- "every NaN becomes positive with only the top fraction bit set"

pub nan-made : (from to : Format) (b : ℕ) → inf from < below from b → float_to_float from to b ≡ inf to + 2 ^ (precision_of to - 2)
unfolding float_to_float
nan-made from to b l = converted-nan (precision_of from) (emax_of from) (precision_of to) (emax_of to) b l

-- the p - 1 fraction bits of that pattern, its sign and its exponent's field
pub nan-bits : (f : Format) → (nan (precision_of f) (emax_of f) % hidden (precision_of f) ≡ 2 ^ (precision_of f - 2)) ×
    (sign f (nan (precision_of f) (emax_of f)) ≡ 0) × (nan (precision_of f) (emax_of f) / hidden (precision_of f) ≡ 2 * emax_of f + 1)
nan-bits Binary16 = (refl, refl, refl)
nan-bits Binary32 = (refl, refl, refl)
nan-bits Binary64 = (refl, refl, refl)

-- ---- a float goes to a wider format whole, and comes back

pub record Wider (from to : Format) : Type 0 where
  pub digits : precision_of from ≤ precision_of to
  pub reach : emax_of from ≤ emax_of to

pub wider : Wider Binary16 Binary32 × Wider Binary16 Binary64 × Wider Binary32 Binary64
wider = (record { digits = lit≤ tt; reach = lit≤ tt }, record { digits = lit≤ tt; reach = lit≤ tt }, record { digits = lit≤ tt; reach = lit≤ tt })

-- value / one is the same number before and after
pub float_exact : (from to : Format) (b : ℕ) → Wider from to → below from b < inf from → value to (float_to_float from to b) * one from ≡ value from b * one to
unfolding float_to_float
float_exact from to b W l =
    ap (λ (x : ℕ). magnitude (precision_of to) x * one from) (finite-below (precision_of from) (emax_of from) (precision_of to) (emax_of to) b l)
    ∙ widened_exactly (precision_of from) (emax_of from) (precision_of to) (emax_of to) (below from b) (fitting from).two W.digits W.reach l

pub float_back : (from to : Format) (b : ℕ) → Wider from to → below from b < inf from → below from (float_to_float to from (float_to_float from to b)) ≡
    below from b
unfolding float_to_float
float_back from to b W l =
    let p = precision_of from in
    let e = emax_of from in
    let q = precision_of to in
    let g = emax_of to in
    let m : below to (converted p e q g b) ≡ finite p e q g (below from b) = finite-below p e q g b l in
    let k : below to (converted p e q g b) < inf to = subst (λ (x : ℕ). x < inf to) (sym m)
    (widened-finite p e q g (below from b) (fitting from).two W.digits W.reach l) in
    finite-below q g p e (converted p e q g b) k ∙ ap (finite q g p e) m ∙ widened_back p e q g (below from b) (fitting from).two W.digits W.reach l

-- ---- "Integers keep their value": to a kind whose range holds every incoming number

pub integer-kept : (from to : Integer) (b : ℕ) → lowest to ≤ℤ lowest from → highest from ≤ℤ highest to → number_of to (widened from to b) ≡ number_of from b
integer-kept from to b l h = widened-kept from to b l h

-- ---- "Date-times: multiply by 1,000 or 1,000,000", refused as too large just when the product is beyond signed 64
-- bits

-- the range of signed 64 bits, as `finer` tests it
pub within_64 : (z : ℤ) → mag z < 2 ^ 63 → (lowest Int64 ≤ℤ z) × (z ≤ℤ highest Int64)
within_64 z l = (low-mag z (2 ^ 63) l, high_mag z (2 ^ 63) l)

pub only-within_64 : (z : ℤ) → lowest Int64 ≤ℤ z → z ≤ℤ highest Int64 → mag z < 2 ^ 63
only-within_64 z a b = mag_of z (2 ^ 63) (pow_pos 63) a b

pub multiplied : (z : ℤ) (k n : ℕ) → finer z k ≡ Some n → (mag (z *ℤ pos k) < 2 ^ 63) × (n < 2 ^ 64) × (signed 64 n ≡ z *ℤ pos k)
multiplied z k n e = count-is z k n e

pub fits_multiplied : (z : ℤ) (k : ℕ) → mag (z *ℤ pos k) < 2 ^ 63 → finer z k ≡ Some (pattern 64 (z *ℤ pos k))
fits_multiplied z k l = sym (finer-fits z (z *ℤ pos k) k refl l)

pub too_large : (z : ℤ) (k : ℕ) → finer z k ≡ None → 2 ^ 63 ≤ mag (z *ℤ pos k)
too_large z k e = large_is z k e

pub beyond_large : (z : ℤ) (k : ℕ) → 2 ^ 63 ≤ mag (z *ℤ pos k) → finer z k ≡ None
beyond_large z k l = sym (finer_large z (z *ℤ pos k) k refl l)

-- ---- "or divide rounding down": q * k ≤ z < (q + 1) * k

pub divided_down : (z : ℤ) (k : ℕ) → 0 < k → ((coarser z k *ℤ pos k) ≤ℤ z) × (z <ℤ (suc_ℤ (coarser z k) *ℤ pos k))
divided_down z k K = (coarser_le z k K, lt_coarser z k K)

pub divided : (b k : ℕ) → signed 64 (pattern 64 (coarser (signed 64 b) k)) ≡ coarser (signed 64 b) k
divided b k = divided_is b k
