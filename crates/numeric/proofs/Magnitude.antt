-- The magnitude of a pattern of 64 bits, against ten to a precision. Assumes nothing.
use Prim.Native.Nat.{ℕ, ◌^◌, ◌≤◌, ◌<◌}
use mathlib.Core.Bool.{true}
use mathlib.Core.Path.{◌≡◌}
use native.Mathlib.Omega.{arith}
use native.Mathlib.Nat.{pow-le-pow_right, zero-lt-suc}
use borrow.Author.Tests.{lt-ltb, ltb-true}
use lib.IntN.{ℤ, nat_abs}
use Rattle.numeric.specs.Integers.{signed}
use Rattle.numeric.specs.Decimals.{within_precision}
use Rattle.numeric.proofs.TwosComplement.{abs_le, signed-mag}

-- no number of 64 bits has more than 19 digits
pub within_long : (p b : ℕ) → 18 < p → within_precision p (signed 64 b) ≡ true
unfolding within_precision
within_long p b h =
    let m : 10 ^ 19 ≤ 10 ^ p = pow-le-pow_right (zero-lt-suc 9) h in
    lt-ltb (nat_abs (signed 64 b)) (10 ^ p) (omega (arith, abs_le (signed 64 b), signed-mag 64 b, m))

-- a larger precision has every number of a smaller one
pub within_wider : (p q : ℕ) (z : ℤ) → p ≤ q → within_precision p z ≡ true → within_precision q z ≡ true
unfolding within_precision
within_wider p q z h e =
    let m : 10 ^ p ≤ 10 ^ q = pow-le-pow_right (zero-lt-suc 9) h in
    lt-ltb (nat_abs z) (10 ^ q) (omega (arith, ltb-true (nat_abs z) (10 ^ p) e, m))
