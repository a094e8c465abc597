-- `plan::skips::is_long` meets its contract. Assumes nothing.
use Rattle.layout.proofs.Ways.{clash}
use Rattle.plan.proofs.skips.is_long.Goals as goal

pub returns-then-to-lt-LONG : goal.returns-then-to-lt-LONG
returns-then-to-lt-LONG c =
    λ h. clash (cc)

pub returns-then-to-from : goal.returns-then-to-from
returns-then-to-from c =
    λ h. clash (cc)
