-- Integers of 8 to 64 bits, as bit patterns (document 01, "Run": "Integers keep their value"). Definitions only.
use Rattle.std.specs.Prelude.{ℕ, suc, ◌-◌, ◌/◌, ◌%◌, ◌^◌, Bool, true, false, cond, eqb, ℤ, pos, negsuc}
use Rattle.numeric.specs.declared.integers.Integer.{Integer}
use Rattle.numeric.specs.declared.integers.Integer.TheVariants.{Int8, Int16, Int32, Int64, UInt8, UInt16, UInt32, UInt64}

abbrev pub bits_of : Integer → ℕ
bits_of Int8 = 8
bits_of Int16 = 16
bits_of Int32 = 32
bits_of Int64 = 64
bits_of UInt8 = 8
bits_of UInt16 = 16
bits_of UInt32 = 32
bits_of UInt64 = 64

-- the bytes of a pattern
abbrev pub integer_bytes : Integer → ℕ
integer_bytes i = bits_of i / 8

abbrev pub is_signed : Integer → Bool
is_signed Int8 = true
is_signed Int16 = true
is_signed Int32 = true
is_signed Int64 = true
is_signed UInt8 = false
is_signed UInt16 = false
is_signed UInt32 = false
is_signed UInt64 = false

-- the range of a kind
abbrev pub lowest : Integer → ℤ
lowest i = cond (is_signed i) (negsuc (2 ^ (bits_of i - 1) - 1)) (pos 0)

abbrev pub highest : Integer → ℤ
highest i = cond (is_signed i) (pos (2 ^ (bits_of i - 1) - 1)) (pos (2 ^ bits_of i - 1))

-- The number of b's lowest w bits in two's complement: the top one counts -(2 ^ (w - 1)), the others count as without a
-- sign. `negsuc n` is -(n + 1).
unfoldable pub signed : ℕ → ℕ → ℤ
signed w b = cond (eqb (b / 2 ^ (w - 1) % 2) 0) (pos (b % 2 ^ (w - 1))) (negsuc (2 ^ (w - 1) - suc (b % 2 ^ (w - 1))))

-- the number of b's lowest w bits without a sign
unfoldable pub unsigned : ℕ → ℕ → ℤ
unsigned w b = pos (b % 2 ^ w)

-- the number that a pattern is of a kind
unfoldable pub number_of : Integer → ℕ → ℤ
number_of i b = cond (is_signed i) (signed (bits_of i) b) (unsigned (bits_of i) b)

-- the pattern of w bits of a number: the number modulo 2 ^ w
unfoldable pub pattern : ℕ → ℤ → ℕ
pattern w (pos n) = n % 2 ^ w
pattern w (negsuc n) = 2 ^ w - suc (n % 2 ^ w)

-- a pattern's number, as a pattern of another kind
unfoldable pub widened : Integer → Integer → ℕ → ℕ
widened from to b = pattern (bits_of to) (number_of from b)
