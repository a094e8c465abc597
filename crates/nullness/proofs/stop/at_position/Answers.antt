-- `nullness::stop::at_position` meets its contract: by the number of entered mappings. Assumes nothing.
use Rattle.nullness.proofs.Stopping.{position_in, position-top}
use Rattle.nullness.proofs.stop.at_position.Goals as goal

pub returns-then-w-gt0 : goal.returns-then-w-gt0
returns-then-w-gt0 c =
    λ P plan x M e. position_in M _ e c.if-w-gt0.true

pub returns : goal.returns
returns c =
    λ P plan x M e. position-top M _ e c.if-w-gt0.false (c.incoming_filled.ensures P) c.answer.ensures
