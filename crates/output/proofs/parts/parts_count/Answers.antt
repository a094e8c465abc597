use Rattle.output.proofs.Asking.{answer-count}
use mathlib.Core.Path.{◌∙◌}
use Rattle.output.proofs.parts.parts_count.Goals as goal

pub returns : goal.returns
returns c =
    λ X x W. c.ask.ensures X x W ∙ answer-count _
