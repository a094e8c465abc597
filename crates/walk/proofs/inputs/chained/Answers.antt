-- `walk::inputs::chained` meets its contract: each code stands in the plan. Assumes nothing.
use Rattle.plan.proofs.Skipping.{told}
use native.Mathlib.Omega.{arith}
use mathlib.Core.Path.{ap}
use mathlib.Core.Bool.{not}
use Rattle.walk.proofs.inputs.chained.Goals as goal

pub loop-n-init : goal.loop-n-init
loop-n-init c =
    (omega arith, omega (arith, c.requires))

pub loop-n-preserved : goal.loop-n-preserved
loop-n-preserved c =
    let h = c.goes_on.ensures (told _ (ap not c.if-not-goes_on.false)) in (omega arith, omega (arith, h))
