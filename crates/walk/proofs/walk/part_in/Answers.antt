-- `walk::walk::part_in` meets its contract: what the table has is right. Assumes nothing.
use Rattle.walk.proofs.walk.part_in.Goals as goal

pub part-requires : goal.part-requires
part-requires c =
    record { skips = c.requires.skips; at_value = λ I. c.known-at.ensures c.args.plan.now I c.requires.ends_at c.if-at-eq0.false }
