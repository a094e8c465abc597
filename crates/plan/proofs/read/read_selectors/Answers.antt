-- `plan::read::read_selectors` meets its contract: nothing is known. Assumes nothing.
use Rattle.plan.proofs.Skipping.{skips-none}
use Rattle.plan.proofs.read.read_selectors.Goals as goal

pub read_each-requires : goal.read_each-requires
read_each-requires c =
    (skips-none 1, c.requires)
