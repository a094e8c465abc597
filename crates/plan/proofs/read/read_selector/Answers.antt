-- `plan::read::read_selector` meets its contract: nothing is known. Assumes nothing.
use Rattle.plan.proofs.Skipping.{skips-none}
use Rattle.plan.proofs.read.read_selector.Goals as goal

pub read_one-requires : goal.read_one-requires
read_one-requires c =
    (skips-none 1, c.requires)
