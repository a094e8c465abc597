-- `numeric::round::shift_nearest` meets its contract. By what is left below the half digit. Assumes nothing.
use Prim.Native.Nat.{◌%◌, ℕ, ◌^◌, ◌-◌, ◌<◌}
use mathlib.Core.Path.{sym, ap, ◌∙◌, subst, ◌≡◌}
use native.Mathlib.Omega.{arith}
use lib.Pow.{pow_pos, shr_le}
use lib.Ieee.Nearest.{closest}
use Rattle.numeric.proofs.Shifts.{closest-one, closest-none, half_less, half_tie, half_more}
use Rattle.numeric.proofs.round.shift_nearest.Goals as goal

pub returns-then-s-eq0 : goal.returns-then-s-eq0
returns-then-s-eq0 c =
    sym (ap (λ (s : ℕ). closest c.args.m (2 ^ s)) c.if-s-eq0.true ∙ closest-one c.args.m)

pub returns-then-s-gt64 : goal.returns-then-s-gt64
returns-then-s-gt64 c =
    sym (closest-none c.args.m c.args.s c.ranges.m.fits c.if-s-gt64.true)

pub nonzero_rem-rest : goal.nonzero_rem-rest
nonzero_rem-rest c =
    subst (λ (x : ℕ). 0 < x) (sym c.power.ensures) (pow_pos (c.args.s - 1))

pub returns-then-twice-eq0 : goal.returns-then-twice-eq0
returns-then-twice-eq0 c =
    sym (half_less c.args.m c.args.s (c.args.s - 1) (omega arith) c.if-twice-eq0.true)

pub overflow_add-result : goal.overflow_add-result
overflow_add-result c =
    omega (arith, shr_le c.args.m (c.args.s - 1))

pub returns-then-rest-eq0 : goal.returns-then-rest-eq0
returns-then-rest-eq0 c =
    let z : c.args.m % 2 ^ (c.args.s - 1) ≡ 0 = ap (λ (x : ℕ). c.args.m % x)
    (sym c.power.ensures) ∙ c.if-rest-eq0.true in sym (half_tie c.args.m c.args.s (c.args.s - 1) (omega arith) c.if-twice-eq0.false z)

pub overflow_add-result-2 : goal.overflow_add-result-2
overflow_add-result-2 c =
    omega (arith, shr_le c.args.m (c.args.s - 1))

pub returns : goal.returns
returns c =
    let z : (c.args.m % 2 ^ (c.args.s - 1) ≡ 0 → ⊥) = λ e. c.if-rest-eq0.false
    (ap (λ (x : ℕ). c.args.m % x) c.power.ensures ∙ e) in sym
    (half_more c.args.m c.args.s (c.args.s - 1) (omega arith) c.if-twice-eq0.false z)
