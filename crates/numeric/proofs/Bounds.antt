-- The bounds of the answers, which a store of 1, 2, 4 or 8 bytes needs. Assumes nothing.
use mathlib.Core.Path.{◌≡◌, refl, subst}
use Prim.Native.Nat.{ℕ, ◌*◌, ◌^◌, ◌≤◌, ◌<◌}
use native.Mathlib.Omega.{arith}
use lib.IntN.{ℤ}
use Rattle.numeric.specs.declared.floats.Format.{Format}
use Rattle.numeric.specs.declared.floats.Format.TheVariants.{Binary16, Binary32, Binary64}
use Rattle.numeric.specs.declared.integers.Integer.{Integer}
use Rattle.numeric.specs.declared.integers.Integer.TheVariants.{Int8, Int16, Int32, Int64, UInt8, UInt16, UInt32, UInt64}
use Rattle.numeric.specs.Integers.{bits_of, integer_bytes, number_of, pattern, widened}
use Rattle.numeric.specs.Floats.{precision_of, emax_of, width_of, float_bytes, sign_bit, integer_to_float, float_to_float}
use Rattle.numeric.specs.Times.{finer, coarser}
use Rattle.numeric.proofs.TwosComplement.{pattern_lt}
use Rattle.numeric.proofs.Conversions.{fitting, integer_lt, converted_lt}
use Rattle.numeric.proofs.Units.{count-is}
use Rattle.std.specs.Prelude.{Some}

pub width_is : (f : Format) → 2 * sign_bit (precision_of f) (emax_of f) ≡ 2 ^ width_of f
width_is Binary16 = refl
width_is Binary32 = refl
width_is Binary64 = refl

pub integer_to_float_lt : (from : Integer) (to : Format) (b : ℕ) → integer_to_float from to b < 2 ^ width_of to
unfolding integer_to_float
integer_to_float_lt from to b = subst (λ (x : ℕ). integer_to_float from to b < x) (width_is to) (integer_lt (precision_of to) (emax_of to) (number_of from b))

pub float_to_float_lt : (from to : Format) (b : ℕ) → float_to_float from to b < 2 ^ width_of to
unfolding float_to_float
float_to_float_lt from to b =
    subst (λ (x : ℕ). float_to_float from to b < x) (width_is to) (converted_lt (precision_of from) (emax_of from) (precision_of to) (emax_of to) b (fitting to).two)

pub widened_lt : (from to : Integer) (b : ℕ) → widened from to b < 2 ^ bits_of to
unfolding widened
widened_lt from to b = pattern_lt (bits_of to) (number_of from b)

pub multiplied_lt : (z : ℤ) (k n : ℕ) → finer z k ≡ Some n → n < 2 ^ 64
multiplied_lt z k n e = (count-is z k n e).1

pub divided_lt : (z : ℤ) (k : ℕ) → pattern 64 (coarser z k) < 2 ^ 64
divided_lt z k = pattern_lt 64 (coarser z k)

-- ---- the bytes of a pattern

pub integer_bytes_lem : (i : Integer) → 8 * integer_bytes i ≡ bits_of i
integer_bytes_lem Int8 = refl
integer_bytes_lem Int16 = refl
integer_bytes_lem Int32 = refl
integer_bytes_lem Int64 = refl
integer_bytes_lem UInt8 = refl
integer_bytes_lem UInt16 = refl
integer_bytes_lem UInt32 = refl
integer_bytes_lem UInt64 = refl

pub integer_bytes-small : (i : Integer) → integer_bytes i ≤ 8
integer_bytes-small Int8 = omega arith
integer_bytes-small Int16 = omega arith
integer_bytes-small Int32 = omega arith
integer_bytes-small Int64 = omega arith
integer_bytes-small UInt8 = omega arith
integer_bytes-small UInt16 = omega arith
integer_bytes-small UInt32 = omega arith
integer_bytes-small UInt64 = omega arith

pub float_bytes_lem : (f : Format) → 8 * float_bytes f ≡ width_of f
float_bytes_lem Binary16 = refl
float_bytes_lem Binary32 = refl
float_bytes_lem Binary64 = refl

pub float_bytes-small : (f : Format) → float_bytes f ≤ 8
float_bytes-small Binary16 = omega arith
float_bytes-small Binary32 = omega arith
float_bytes-small Binary64 = omega arith
