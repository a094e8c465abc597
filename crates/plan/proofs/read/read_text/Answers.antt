use Rattle.plan.proofs.Moves.{text-to, text-stopped}
use Rattle.plan.proofs.read.read_text.Goals as goal

pub returns-in-Is : goal.returns-in-Is
returns-in-Is c =
    text-to _ _ c.text.ensures.result_value c.in-Is.is

pub returns-in-Refused : goal.returns-in-Refused
returns-in-Refused c =
    text-stopped _ _ c.text.ensures.result_value c.in-Refused.is
