-- Rounding to a binary format of IEEE 754 (document 01, "Run": "nearest, ties to even, subnormals included, infinity at
-- and past the midpoint above the largest finite value"), for any precision p and any largest exponent emax. binary16
-- is p = 11, emax = 15; binary32 is p = 24, emax = 127; binary64 is p = 53, emax = 1023. Definitions only. A magnitude
-- is a bit pattern without its sign: the exponent's field, then the p - 1 digits of the trailing significand. All
-- values are counted in units of the format's smallest positive value, 2 ^ -(emax + p - 2), so that they are natural
-- numbers.
use Rattle.std.specs.Prelude.{◌≡◌, ◌≢◌, ℕ, zero, suc, ◌+◌, ◌-◌, ◌*◌, ◌/◌, ◌%◌, ◌^◌, ◌≤◌, min}
use Rattle.std.specs.Float.Ieee.{size}
use Rattle.std.specs.Float.Ieee.Nearest.{closest}

-- the weight of the exponent's field; of a normal number, the leading digit that the pattern leaves out
abbrev pub hidden : ℕ → ℕ
hidden p = 2 ^ (p - 1)

-- 1 is 2 ^ scale units
abbrev pub scale : ℕ → ℕ → ℕ
scale p emax = emax + p - 2

-- an exponent's field of all ones, and no digits
abbrev pub infinity : ℕ → ℕ → ℕ
infinity p emax = (2 * emax + 1) * hidden p

-- the number with the exponent's field e and the digits t: subnormal at e = 0
abbrev pub fields : ℕ → ℕ → ℕ → ℕ
fields h zero t = t
fields h (suc e) t = (h + t) * 2 ^ e

-- The number of a pattern, in units. The pattern of infinity is read as the numbers before it are: as 2 ^ (emax + 1),
-- the next after the largest finite one.
unfoldable pub magnitude : ℕ → ℕ → ℕ
magnitude p b = fields (hidden p) (b / hidden p) (b % hidden p)

-- how far apart two numbers are
abbrev pub distance : ℕ → ℕ → ℕ
distance a b = (a - b) + (b - a)

-- r is num / den, rounded to nearest, ties to even: no pattern up to infinity is nearer, and where another is as near,
-- r is even. Since infinity stands for 2 ^ (emax + 1) and is even, it is r from the midpoint above the largest finite
-- number on.
pub record IsRounded (p emax num den r : ℕ) : Type 0 where
  pub within : r ≤ infinity p emax
  pub nearest :
      (b : ℕ) → b ≤ infinity p emax
      → distance (num * 2 ^ scale p emax) (magnitude p r * den) ≤ distance (num * 2 ^ scale p emax) (magnitude p b * den)
  pub even :
      (b : ℕ) → b ≤ infinity p emax → b ≢ r
      → distance (num * 2 ^ scale p emax) (magnitude p r * den) ≡ distance (num * 2 ^ scale p emax) (magnitude p b * den) → r % 2 ≡ 0

-- num / den is at or past the midpoint above the largest finite number, that is between it and 2 ^ (emax + 1)
abbrev pub PastMidpoint : ℕ → ℕ → ℕ → ℕ → Type 0
PastMidpoint p emax num den = (magnitude p (infinity p emax - 1) + magnitude p (infinity p emax)) * den ≤ 2 * (num * 2 ^ scale p emax)

-- num / den, rounded. In units it is n / den. Of its whole part the k lowest digits are dropped, so that p are left.
unfoldable pub rounded : ℕ → ℕ → ℕ → ℕ → ℕ
unfolding size
rounded p emax num den =
    let n = num * 2 ^ scale p emax in
    let k = size (n / den) - p in
    min (k * hidden p + closest n (den * 2 ^ k)) (infinity p emax)
