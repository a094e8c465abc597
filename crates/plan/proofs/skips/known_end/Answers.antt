-- `plan::skips::known_end` meets its contract: what a pair that is true says. Assumes nothing.
use native.Mathlib.Omega.{arith}
use Prim.Native.Nat.{◌+◌, ◌*◌, ◌/◌}
use mathlib.Core.Path.{refl}
use Rattle.plan.proofs.Skipping.{constant-found}
use Rattle.plan.proofs.skips.known_end.Goals as goal

pub returns-then-at-ge-LONGEST_PLAN : goal.returns-then-at-ge-LONGEST_PLAN
returns-then-at-ge-LONGEST_PLAN c =
    λ z. absurd (z refl)

pub returns-then-skips-i : goal.returns-then-skips-i
returns-then-skips-i c =
    λ z. absurd (z refl)

pub returns-then-wide-at : goal.returns-then-wide-at
returns-then-wide-at c =
    λ z. absurd (z refl)

pub returns-then-n-eq0 : goal.returns-then-n-eq0
returns-then-n-eq0 c =
    λ z. absurd (z refl)

pub overflow_add-result : goal.overflow_add-result
overflow_add-result c =
    omega (arith, c.wide-n.ensures, c.type_inv.skips (c.args.at / 128 * 2 + 1))

pub returns : goal.returns
returns c =
    λ z s T. constant-found T c.args.at _ refl (omega arith) (omega arith) c.wide-n.ensures c.if-n-eq0.false
