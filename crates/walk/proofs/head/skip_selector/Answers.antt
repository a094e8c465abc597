-- `walk::head::skip_selector` meets its contract: no constant's end is known. Assumes nothing.
use Rattle.plan.proofs.Skipping.{skips-none}
use Rattle.walk.proofs.head.skip_selector.Goals as goal

pub skip_by-requires : goal.skip_by-requires
skip_by-requires c =
    skips-none 1
