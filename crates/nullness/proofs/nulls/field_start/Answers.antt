-- `nullness::nulls::field_start` meets its contract: behind the fields before it and its label. Assumes nothing.
use Rattle.nullness.proofs.Looking.{at_field, no_part}
use Rattle.nullness.proofs.nulls.field_start.Goals as goal

pub returns-in-Is : goal.returns-in-Is
returns-in-Is c =
    at_field c.pass_columns.ensures c.in-To.is c.label.ensures.result_value c.in-Is.is

pub returns-in-Refused-label : goal.returns-in-Refused-label
returns-in-Refused-label c =
    λ e q. no_part e q

pub returns-in-Refused : goal.returns-in-Refused
returns-in-Refused c =
    λ e q. no_part e q
