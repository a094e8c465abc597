-- `walk::inputs::fields_end` meets its contract: where the last selector ends. Assumes nothing.
use Rattle.walk.proofs.Ending.{fields_end, fields-lost, count_lost}
use Rattle.walk.proofs.inputs.fields_end.Goals as goal

pub returns-in-To : goal.returns-in-To
returns-in-To c =
    λ Q. fields_end Q c.short.ensures c.in-Is.is c.pass_selectors.ensures c.in-To.is

pub returns-in-Refused-pass_selectors : goal.returns-in-Refused-pass_selectors
returns-in-Refused-pass_selectors c =
    λ Q. fields-lost Q c.short.ensures c.in-Is.is c.pass_selectors.ensures c.in-Refused-pass_selectors.is

pub returns-in-Refused : goal.returns-in-Refused
returns-in-Refused c =
    λ Q. count_lost Q c.short.ensures c.in-Refused.is
