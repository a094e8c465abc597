-- `walk::walk::skipped_part` meets its contract: behind the input. Assumes nothing.
use Rattle.walk.proofs.walk.skipped_part.Goals as goal

pub part-requires : goal.part-requires
part-requires c =
    record { skips = c.requires.skips; at_value = c.skip_by-d.ensures }
