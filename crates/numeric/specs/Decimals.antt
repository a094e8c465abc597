-- Document 02, L1: "value an i64 of magnitude below ten to the precision". Definitions only.
use Rattle.std.specs.Prelude.{ℕ, ◌^◌, Bool, ltb, ℤ, nat_abs}

unfoldable pub within_precision : ℕ → ℤ → Bool
within_precision p z = ltb (nat_abs z) (10 ^ p)
