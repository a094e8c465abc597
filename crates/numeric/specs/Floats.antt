-- Conversions to a binary format of IEEE 754, on bit patterns (document 01, "Run": "To float: .."). Definitions only.
use Rattle.std.specs.Prelude.{ℕ, suc, ◌+◌, ◌-◌, ◌*◌, ◌/◌, ◌%◌, ◌^◌, cond, ltb, eqb, ℤ, pos, negsuc}
use Rattle.numeric.specs.declared.floats.Format.{Format}
use Rattle.numeric.specs.declared.floats.Format.TheVariants.{Binary16, Binary32, Binary64}
use Rattle.numeric.specs.declared.integers.Integer.{Integer}
use Rattle.numeric.specs.Rounding.{hidden, scale, infinity, magnitude, rounded}
use Rattle.numeric.specs.Integers.{number_of}

-- "Precisions 11, 24, 53"
abbrev pub precision_of : Format → ℕ
precision_of Binary16 = 11
precision_of Binary32 = 24
precision_of Binary64 = 53

-- the exponent of the largest finite values
abbrev pub emax_of : Format → ℕ
emax_of Binary16 = 15
emax_of Binary32 = 127
emax_of Binary64 = 1023

-- the bits of a pattern
abbrev pub width_of : Format → ℕ
width_of Binary16 = 16
width_of Binary32 = 32
width_of Binary64 = 64

-- and its bytes
abbrev pub float_bytes : Format → ℕ
float_bytes f = width_of f / 8

-- the sign's bit
abbrev pub sign_bit : ℕ → ℕ → ℕ
sign_bit p emax = (2 * emax + 2) * hidden p

-- the two parts of a pattern: the sign, 0 or 1, and what lies below it
abbrev pub sign_of : ℕ → ℕ → ℕ → ℕ
sign_of p emax b = b / sign_bit p emax % 2

abbrev pub unsigned_of : ℕ → ℕ → ℕ → ℕ
unsigned_of p emax b = b % sign_bit p emax

-- "every NaN becomes positive with only the top fraction bit set"
abbrev pub nan : ℕ → ℕ → ℕ
nan p emax = infinity p emax + 2 ^ (p - 2)

-- an integer, rounded, with its sign; "integer 0 gives positive zero"
unfoldable pub from_integer : ℕ → ℕ → ℤ → ℕ
from_integer p emax (pos n) = rounded p emax n 1
from_integer p emax (negsuc n) = sign_bit p emax + rounded p emax (suc n) 1

-- the format (p, emax)'s finite m, without a sign, in the format (q, gmax)
abbrev pub finite : ℕ → ℕ → ℕ → ℕ → ℕ → ℕ
finite p emax q gmax m = rounded q gmax (magnitude p m) (2 ^ scale p emax)

-- the format (p, emax)'s pattern b in the format (q, gmax): a finite number is rounded, an infinity stays one, and "the
-- sign is kept"
unfoldable pub converted : ℕ → ℕ → ℕ → ℕ → ℕ → ℕ
converted p emax q gmax b =
    let sign = sign_of p emax b * sign_bit q gmax in
    let m = unsigned_of p emax b in
    cond (ltb m (infinity p emax)) (sign + finite p emax q gmax m) (cond (eqb m (infinity p emax)) (sign + infinity q gmax) (nan q gmax))

-- ---- the conversions of the run

unfoldable pub integer_to_float : Integer → Format → ℕ → ℕ
integer_to_float from to b = from_integer (precision_of to) (emax_of to) (number_of from b)

unfoldable pub float_to_float : Format → Format → ℕ → ℕ
float_to_float from to b = converted (precision_of from) (emax_of from) (precision_of to) (emax_of to) b
