use Rattle.plan.proofs.Moves.{option-known, option_unknown, option-stopped}
use Rattle.plan.proofs.read.read_option.Goals as goal

pub returns-in-Known : goal.returns-in-Known
returns-in-Known c =
    option-known _ _ c.byte.ensures c.in-Byte.is c.option_of_code.ensures c.in-Known.is

pub returns-in-Unknown : goal.returns-in-Unknown
returns-in-Unknown c =
    option_unknown _ _ c.byte.ensures c.in-Byte.is c.option_of_code.ensures c.in-Unknown.is

pub returns-in-Refused : goal.returns-in-Refused
returns-in-Refused c =
    option-stopped _ _ c.byte.ensures c.in-Refused.is
