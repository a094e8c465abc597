-- `numeric::floats::convert_pattern` meets its contract: a finite number, an infinity or a NaN, with the sign. Assumes
-- nothing.
use Rattle.numeric.proofs.Conversions.{sign_fits, nan_fits, rounded_le, converted-finite, converted_infinite, converted-nan}
use native.Mathlib.Nat.{le_of_eq}
use native.Mathlib.Omega.{arith}
use mathlib.Core.Path.{sym}
use Prim.Native.Nat.{◌%◌, ◌<◌}
use Rattle.numeric.proofs.floats.convert_pattern.Goals as goal

pub overflow_add-result : goal.overflow_add-result
overflow_add-result c =
    rw c.sign_bit.ensures (record { fits = sign_fits _ _ _ _ c.args.to.fits (rw c.convert_finite.ensures (rounded_le _ _ _ _)) })

pub overflow_add-result-then-m-infinity-2 : goal.overflow_add-result-then-m-infinity-2
overflow_add-result-then-m-infinity-2 c =
    rw c.sign_bit.ensures (record { fits = sign_fits _ _ _ _ c.args.to.fits (le_of_eq c.infinity.ensures) })

pub overflow_add-result-else-m-infinity-2 : goal.overflow_add-result-else-m-infinity-2
overflow_add-result-else-m-infinity-2 c = omega (arith, nan_fits _ _ c.args.to.fits)

pub returns-then-m-infinity : goal.returns-then-m-infinity
returns-then-m-infinity c =
    let r = converted-finite c.args.from.precision c.args.from.max_exponent c.args.to.precision c.args.to.max_exponent c.args.b
    (rw (sym c.sign_bit-top.ensures, sym c.infinity-infinity.ensures) c.if-m-infinity.true) in cc

pub returns-then-m-infinity-2 : goal.returns-then-m-infinity-2
returns-then-m-infinity-2 c =
    let r = converted_infinite c.args.from.precision c.args.from.max_exponent c.args.to.precision c.args.to.max_exponent c.args.b (cc) in cc

pub returns-else-m-infinity-2 : goal.returns-else-m-infinity-2
returns-else-m-infinity-2 c =
    let n : c.infinity-infinity.result < c.args.b % c.sign_bit-top.result = omega (arith, c.if-m-infinity.false, c.if-m-infinity-2.false) in
    let r = converted-nan c.args.from.precision c.args.from.max_exponent c.args.to.precision c.args.to.max_exponent c.args.b
    (rw (sym c.sign_bit-top.ensures, sym c.infinity-infinity.ensures) n) in cc
