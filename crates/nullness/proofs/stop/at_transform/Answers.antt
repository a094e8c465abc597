-- `nullness::stop::at_transform` meets its contract: by what is left of the path. Assumes nothing.
use Rattle.nullness.proofs.Stopping.{transform_more, transform_none}
use Rattle.nullness.proofs.stop.at_transform.Goals as goal

pub returns-then-w : goal.returns-then-w
returns-then-w c =
    λ plan x M. transform_more M c.if-w.true

pub returns-else-w : goal.returns-else-w
returns-else-w c =
    λ plan x M. transform_none M c.if-w.false
