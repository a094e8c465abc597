-- `walk::inputs::name_end` meets its contract: where the name ends. Assumes nothing.
use Rattle.walk.proofs.Ending.{name-ends, name_lost}
use Rattle.walk.proofs.inputs.name_end.Goals as goal

pub returns-in-Is : goal.returns-in-Is
returns-in-Is c =
    λ T. name-ends T c.text.ensures.result_value c.in-Is.is

pub returns-in-Refused : goal.returns-in-Refused
returns-in-Refused c =
    λ T. name_lost T c.text.ensures.result_value c.in-Refused.is
