-- Counts of a date-time's unit, in a finer unit and in a coarser one (document 01, "Run": "Date-times: multiply by
-- 1,000 or 1,000,000, or divide rounding down", and 44 for what is too large). Definitions only.
use Rattle.std.specs.Prelude.{ℕ, ◌/◌, ◌^◌, Bool, true, false, ltb, ℤ, pos, negsuc, ◌*ℤ◌}
use Rattle.std.specs.Int.Signed.{mag}
use Rattle.numeric.specs.Integers.{pattern}
use Rattle.std.specs.Prelude.{Option, Some, None}

abbrev pub pick_finer : Bool → Option ℕ → Option ℕ → Option ℕ
pick_finer true a b = a
pick_finer false a b = b

-- z of a unit is z * k of one that is k times finer. `mag` is n both of n and of -(n + 1), so the test is that of
-- signed 64 bits
unfoldable pub finer : ℤ → ℕ → Option ℕ
finer z k = pick_finer (ltb (mag (z *ℤ pos k)) (2 ^ 63)) (Some (pattern 64 (z *ℤ pos k))) None

-- z / k, rounded down: -(n + 1) / k is -(n / k + 1)
unfoldable pub coarser : ℤ → ℕ → ℤ
coarser (pos n) k = pos (n / k)
coarser (negsuc n) k = negsuc (n / k)
