use Rattle.plan.proofs.Moves.{position-to, position-stopped}
use Rattle.plan.proofs.read.read_position.Goals as goal

pub returns-in-Is : goal.returns-in-Is
returns-in-Is c =
    position-to _ _ c.short.ensures c.in-Is.is

pub returns-in-Refused : goal.returns-in-Refused
returns-in-Refused c =
    position-stopped _ _ c.short.ensures c.in-Refused.is
