use Rattle.walk.proofs.Walks.{walk_small, walk_inside}
use native.Mathlib.Omega.{arith}
use Rattle.output.proofs.casts.ends_ahead.Goals as goal

pub bounds-plan-at : goal.bounds-plan-at
bounds-plan-at c =
    walk_inside c.requires.walk_at.1

pub overflow_add-at : goal.overflow_add-at
overflow_add-at c =
    omega (arith, walk_small c.requires.walk_at.1)

pub ends_with-requires : goal.ends_with-requires
ends_with-requires c =
    record { skips = c.requires.skips; at_in_bounds = omega (arith, walk_inside c.requires.walk_at.1); ends_at = c.requires.ends_at }
