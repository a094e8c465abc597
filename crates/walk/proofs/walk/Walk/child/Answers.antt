-- `walk::walk::Walk::child` meets its contract: the input is skipped. Assumes nothing.
use Rattle.walk.proofs.Walks.{walk_small}
use Rattle.walk.proofs.walk.Walk.child.Goals as goal

pub skipped_part-found-requires : goal.skipped_part-found-requires
skipped_part-found-requires c =
    record { skips = c.requires.skips; at_bound = walk_small c.requires.deep_bound.0.1 }

pub into_part-requires : goal.into_part-requires
into_part-requires c =
    (walk_small c.requires.deep_bound.0.1, c.requires.deep_bound.1)

pub returns : goal.returns
returns c =
    λ x f t M h p. c.into_part.ensures c.args.plan.now x f t M h p c.skipped_part-found.ensures
