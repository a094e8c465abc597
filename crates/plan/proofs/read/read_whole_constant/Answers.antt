-- `plan::read::read_whole_constant` meets its contract: its name, its type and a value of that. Assumes nothing.
use Rattle.plan.proofs.Moves.{type-stands, constant-to, constant_untyped, constant-stopped}
use Rattle.plan.proofs.read.read_whole_constant.Goals as goal

pub read_constant_value-requires : goal.read_constant_value-requires
read_constant_value-requires c =
    type-stands _ c.pass_type.ensures c.in-To.is

pub returns-in-To : goal.returns-in-To
returns-in-To c =
    constant-to _ _ c.text.ensures.result_value c.in-Is.is c.pass_type.ensures c.in-To.is c.read_constant_value.ensures c.value_end.ensures

pub returns-in-Refused-pass_type : goal.returns-in-Refused-pass_type
returns-in-Refused-pass_type c =
    constant_untyped _ _ c.text.ensures.result_value c.in-Is.is c.pass_type.ensures c.in-Refused-pass_type.is

pub returns-in-Refused : goal.returns-in-Refused
returns-in-Refused c =
    constant-stopped _ _ c.text.ensures.result_value c.in-Refused.is
