-- `plan::pass::positions_at` meets its contract: one position more. Assumes nothing.
use native.Mathlib.Omega.{arith}
use Rattle.plan.proofs.Moves.{selector-position}
use Rattle.plan.proofs.Skipping.{pass-none, pass-more}
use Rattle.plan.proofs.pass.positions_at.Goals as goal

pub loop-count-init : goal.loop-count-init
loop-count-init c =
    (omega arith, pass-none _)

pub loop-count-preserved : goal.loop-count-preserved
loop-count-preserved c =
    (omega (arith, c.loop-count-test.true), pass-more c.loop-count.invariant.1 (selector-position _ _ _ (c.is_position.ensures c.if-not-is_position.false)))
