-- `overflow::stop::at_position` meets its contract: by the number of entered mappings. Assumes nothing.
use Rattle.overflow.proofs.Stops.{position_in, position-top}
use Rattle.overflow.proofs.stop.at_position.Goals as goal

pub returns-then-w-gt0 : goal.returns-then-w-gt0
returns-then-w-gt0 c =
    λ X plan x M e. position_in M _ c.args.want e c.if-w-gt0.true

pub returns : goal.returns
returns c =
    λ X plan x M e. position-top M _ c.args.want e c.if-w-gt0.false (c.in_column.ensures X) c.answer.ensures
