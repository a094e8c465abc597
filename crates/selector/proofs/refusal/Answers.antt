-- `selector::refusal` meets its contract: the place counts where the number has one. Assumes nothing.
use Rattle.selector.proofs.Answers.{refusal-placed, refusal-unplaced}
use Rattle.selector.proofs.refusal.Goals as goal

pub returns-then-has_place : goal.returns-then-has_place
returns-then-has_place c =
    refusal-placed _ _ c.has_place.ensures c.if-has_place.true

pub returns : goal.returns
returns c =
    refusal-unplaced _ _ c.has_place.ensures c.if-has_place.false
