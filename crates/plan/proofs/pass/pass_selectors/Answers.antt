-- `plan::pass::pass_selectors` meets its contract: those before are passed over. Assumes nothing.
use native.Mathlib.Omega.{arith}
use Rattle.plan.proofs.Moves.{passing_none, passing-more, passing_all, passing-stopped}
use Rattle.plan.proofs.Skipping.{passing_skip}
use Rattle.plan.proofs.pass.pass_selectors.Goals as goal

pub loop-i-init : goal.loop-i-init
loop-i-init c =
    passing_none _ _ _ _

pub overflow_add-i : goal.overflow_add-i
overflow_add-i c =
    omega (arith, (c.known_skip-known.ensures _ c.requires).few, c.loop-i-test.true)

pub loop-i-preserved-then-known-ne0 : goal.loop-i-preserved-then-known-ne0
loop-i-preserved-then-known-ne0 c =
    let k = c.known_skip-known.ensures _ c.requires in
    passing_skip c.loop-i.invariant (k.right c.if-known-ne0.true) k.few c.loop-i-test.true

pub overflow_add-i-then-row-ne0 : goal.overflow_add-i-then-row-ne0
overflow_add-i-then-row-ne0 c =
    omega (arith, c.positions_at-row.ensures.few, c.loop-i-test.true)

pub loop-i-preserved-then-row-ne0 : goal.loop-i-preserved-then-row-ne0
loop-i-preserved-then-row-ne0 c =
    let k = c.positions_at-row.ensures in
    passing_skip c.loop-i.invariant (k.right c.if-row-ne0.true) k.few c.loop-i-test.true

pub loop-i-preserved : goal.loop-i-preserved
loop-i-preserved c =
    passing-more _ _ _ _ c.loop-i.invariant c.loop-i-test.true c.pass_selector.ensures c.in-To.is

pub returns-in-Refused : goal.returns-in-Refused
returns-in-Refused c =
    passing-stopped _ _ _ _ c.loop-i.invariant c.loop-i-test.true c.pass_selector.ensures c.in-Refused.is

pub returns : goal.returns
returns c =
    passing_all _ _ _ _ c.loop-i.invariant c.loop-i-test.false
