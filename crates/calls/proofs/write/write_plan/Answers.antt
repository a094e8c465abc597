-- `calls::write::write_plan` meets its contract. Assumes nothing.
use Rattle.calls.proofs.Plans.{past-buffer, within_both, plan-kept, plan-copied}
use native.Mathlib.Omega.{arith}
use mathlib.Core.Path.{refl}
use Rattle.calls.proofs.write.write_plan.Goals as goal

pub returns-then-plan-len : goal.returns-then-plan-len
returns-then-plan-len c =
    λ p e h. plan-kept _ (past-buffer _ p e c.if-plan-len.true)

pub returns-then-room-len : goal.returns-then-room-len
returns-then-room-len c =
    λ p e h. (omega (arith, c.if-room-len.true), refl)

pub copy-requires : goal.copy-requires
copy-requires c =
    omega (arith, c.requires)

pub returns : goal.returns
returns c =
    λ p e h. plan-copied _ p _ _ e (h c.if-room-len.false)
    (within_both _ p e c.if-plan-len.false
    (omega (arith, c.requires, c.if-room-len.false)))
    c.if-room-len.false c.if-plan-len.false c.copy.ensures
