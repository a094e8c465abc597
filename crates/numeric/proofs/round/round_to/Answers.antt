-- `numeric::round::round_to` meets its contract. Assumes nothing.
use mathlib.Core.Path.{sym, ◌∙◌}
use native.Mathlib.Nat.{lt_of_lt_of_le}
use native.Mathlib.Omega.{arith}
use lib.Pow.{pow_pos, pow_mono}
use Prim.Native.Nat.{◌+◌, ◌-◌, ◌*◌, ◌^◌, ◌≤◌, ◌<◌}
use Rattle.numeric.proofs.Shifts.{rounded-zero, size_64, field_fits, round_is, round_large, round-kept, closest_le}
use Rattle.numeric.proofs.round.round_to.Goals as goal

pub returns-then-m-eq0 : goal.returns-then-m-eq0
returns-then-m-eq0 c =
    sym (rounded-zero c.args.to.precision _ _ (2 ^ c.args.d) c.args.to.fits.two (pow_pos c.args.d) (rw c.if-m-eq0.true (omega arith)))

pub overflow_add-digits : goal.overflow_add-digits
overflow_add-digits c = omega (arith, size_64 c.args.m c.ranges.m.fits)

pub returns-then-to-k : goal.returns-then-to-k
returns-then-to-k c = c.infinity-infinity.ensures ∙ round_large c.args.m c.args.e c.args.d _ _ _ (omega arith) (cc) c.if-to-k.true

-- what `scaled` is handed has at most 53 digits before its point
kept : (c : goal.After-hidden) → c.args.m * 2 ^ (c.args.e + c.scale.result) < 2 ^ (53 + (c.args.d + c.saturating_sub-k.result))
kept c =
    let left = round-kept c.args.m c.args.e c.args.d c.args.to.precision c.args.to.max_exponent _ (omega arith) (cc) in
    let le : c.args.to.precision + (c.args.d + c.saturating_sub-k.result) ≤ 53 + (c.args.d + c.saturating_sub-k.result) =
    omega (arith, c.args.to.fits.digits) in
    rw c.scale.ensures (lt_of_lt_of_le left (pow_mono le))

pub scaled-requires : goal.scaled-requires
scaled-requires c = (omega arith, kept c)

pub overflow_add-r : goal.overflow_add-r
overflow_add-r c =
    let h = field_fits c.saturating_sub-k.result c.hidden.result (c.args.to.precision - 1) (omega arith) c.hidden.ensures (omega arith) in
    omega (arith, h, c.scaled.ensures, closest_le _ 53 (c.args.d + c.saturating_sub-k.result) (kept c.before))

pub returns : goal.returns
returns c =
    let r = round_is c.args.m c.args.e c.args.d c.args.to.precision c.args.to.max_exponent c.saturating_sub-k.result (omega arith) (cc) in cc
