-- `nullness::nulls::element_start` meets its contract: by the label. Assumes nothing.
use Rattle.nullness.proofs.Looking.{at-element, no_part}
use Rattle.nullness.proofs.nulls.element_start.Goals as goal

pub returns-in-Is : goal.returns-in-Is
returns-in-Is c =
    at-element c.element_label.ensures.result_value c.in-Is.is

pub returns-in-Refused : goal.returns-in-Refused
returns-in-Refused c =
    λ e q. no_part e q
