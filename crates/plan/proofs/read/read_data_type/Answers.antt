use Rattle.plan.proofs.Moves.{type-to}
use Rattle.plan.proofs.read.read_data_type.Goals as goal

pub returns : goal.returns
returns c =
    type-to _ _ c.pass_type.ensures
