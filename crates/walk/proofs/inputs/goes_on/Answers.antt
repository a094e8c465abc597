-- `walk::inputs::goes_on` meets its contract: no code stands behind the end. Assumes nothing.
use Rattle.layout.proofs.Ways.{clash}
use Rattle.walk.proofs.inputs.goes_on.Goals as goal

pub returns-then-plan-at : goal.returns-then-plan-at
returns-then-plan-at c =
    λ h. clash (cc)
