use Rattle.layout.proofs.Ways.{clash}
use Rattle.composed.proofs.compose.stored_within.Goals as goal

pub returns-in-Unknown : goal.returns-in-Unknown
returns-in-Unknown c =
    λ e. clash (cc)
