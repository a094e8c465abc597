-- `walk::walk::Walk::ends_ahead` meets its contract: a walk stands inside the plan. Assumes nothing.
use Rattle.walk.proofs.Walks.{walk_inside}
use Rattle.walk.proofs.walk.Walk.ends_ahead.Goals as goal

pub ends_for-requires : goal.ends_for-requires
ends_for-requires c =
    record { skips = c.requires.skips; at_in_bounds = walk_inside c.requires.walk_at.1; ends_at = c.requires.ends_at }
