-- S5 to S10 of document 01's samples, and further values, over the definitions that the contracts cite. Each is
-- computed. Assumes nothing.
use mathlib.Core.Path.{◌≡◌, refl}
use Prim.Native.Nat.{ℕ}
use Rattle.numeric.specs.declared.floats.Format.{Format}
use Rattle.numeric.specs.declared.floats.Format.TheVariants.{Binary16, Binary32, Binary64}
use Rattle.numeric.specs.declared.integers.Integer.{Integer}
use Rattle.numeric.specs.declared.integers.Integer.TheVariants.{Int8, Int32, Int64, UInt8, UInt16}
use Rattle.numeric.specs.Rounding.{rounded, magnitude}
use Rattle.numeric.specs.Integers.{signed, unsigned, number_of, pattern, widened}
use Rattle.numeric.specs.Floats.{from_integer, converted, integer_to_float, float_to_float}
use Rattle.numeric.specs.Times.{finer, coarser}
use Rattle.std.specs.Prelude.{Option, Some, None}

-- these open every definition that a sample computes through
multiplied : ℕ → ℕ → Option ℕ
unfolding finer signed pattern
multiplied b k = finer (signed 64 b) k

divided : ℕ → ℕ → ℕ
unfolding coarser signed pattern
divided b k = pattern 64 (coarser (signed 64 b) k)

integer : Integer → Format → ℕ → ℕ
unfolding integer_to_float number_of signed unsigned from_integer rounded
integer from to b = integer_to_float from to b

float : Format → Format → ℕ → ℕ
unfolding float_to_float converted magnitude rounded
float from to b = float_to_float from to b

wide : Integer → Integer → ℕ → ℕ
unfolding widened number_of signed unsigned pattern
wide from to b = widened from to b

-- S5, S6: milliseconds to nanoseconds
s5 : finer (signed 64 9_223_372_036_854) 1_000_000 ≡ Some 9_223_372_036_854_000_000
unfolding multiplied
s5 = refl

s6 : finer (signed 64 9_223_372_036_855) 1_000_000 ≡ None
unfolding multiplied
s6 = refl

-- the same below zero: -9,223,372,036,854 and -9,223,372,036,855
s5_below : finer (signed 64 0xffff_f79c_842f_a50a) 1_000_000 ≡ Some 0x8000_0000_000b_d680
unfolding multiplied
s5_below = refl

s6_below : finer (signed 64 0xffff_f79c_842f_a509) 1_000_000 ≡ None
unfolding multiplied
s6_below = refl

-- S7: -1 nanosecond to microseconds is -1
s7 : pattern 64 (coarser (signed 64 0xffff_ffff_ffff_ffff) 1_000) ≡ 0xffff_ffff_ffff_ffff
unfolding divided
s7 = refl

-- S8: int32 16,777,217 to float32 is 16,777,216, whose pattern is 0x4b80_0000
s8 : integer_to_float Int32 Binary32 16_777_217 ≡ 0x4b80_0000
unfolding integer
s8 = refl

s8_itself : integer_to_float Int32 Binary32 16_777_216 ≡ 0x4b80_0000
unfolding integer
s8_itself = refl

-- S9, S10: uint16 65,519 to float16 is 65,504, the largest finite number; 65,520 is infinity
s9 : integer_to_float UInt16 Binary16 65_519 ≡ 0x7bff
unfolding integer
s9 = refl

s10 : integer_to_float UInt16 Binary16 65_520 ≡ 0x7c00
unfolding integer
s10 = refl

-- integer 0, and -1
zero-positive : integer_to_float Int64 Binary64 0 ≡ 0
unfolding integer
zero-positive = refl

minus_one : integer_to_float Int8 Binary64 0xff ≡ 0xbff0_0000_0000_0000
unfolding integer
minus_one = refl

-- -0 keeps its sign; the smallest float64 below 0 rounds to -0; the smallest float16 is no zero in float32
minus_zero : float_to_float Binary32 Binary64 0x8000_0000 ≡ 0x8000_0000_0000_0000
unfolding float
minus_zero = refl

to_minus_zero : float_to_float Binary64 Binary32 0x8000_0000_0000_0001 ≡ 0x8000_0000
unfolding float
to_minus_zero = refl

smallest : float_to_float Binary16 Binary32 0x0001 ≡ 0x3380_0000
unfolding float
smallest = refl

-- a NaN with a payload and a sign
any_nan : float_to_float Binary64 Binary16 0xfff0_0000_0000_0001 ≡ 0x7e00
unfolding float
any_nan = refl

-- pi
pi_32 : float_to_float Binary64 Binary32 0x4009_21fb_5444_2d18 ≡ 0x4049_0fdb
unfolding float
pi_32 = refl

pi_16 : float_to_float Binary64 Binary16 0x4009_21fb_5444_2d18 ≡ 0x4248
unfolding float
pi_16 = refl

-- -2 and 254 of 8 bits, wider
minus_two : widened Int8 Int32 0xfe ≡ 0xffff_fffe
unfolding wide
minus_two = refl

two_five_four : widened UInt8 Int32 0xfe ≡ 0xfe
unfolding wide
two_five_four = refl
