-- `walk::walk::Walk::child_in` meets its contract: the input's end is known or found. Assumes nothing.
use Rattle.walk.proofs.Walks.{walk_small}
use Rattle.walk.proofs.walk.Walk.child_in.Goals as goal

pub part_in-found-requires : goal.part_in-found-requires
part_in-found-requires c =
    record { skips = c.requires.skips; ends_at = c.requires.ends_at; at_bound = walk_small c.requires.deep_bound.0.1 }

pub into_part-requires : goal.into_part-requires
into_part-requires c =
    (walk_small c.requires.deep_bound.0.1, c.requires.deep_bound.1)

pub returns : goal.returns
returns c =
    λ x f t M h p. c.into_part.ensures c.args.plan.now x f t M h p c.part_in-found.ensures
