-- `checker::part::part` meets its contract. Assumes nothing.
use Rattle.checker.proofs.Parting.{child_asks, child-typed, part_incoming, part-plan}
use Rattle.checker.proofs.Headed.{from_incoming, from-plan, from-mapping}
use Rattle.checker.proofs.part.part.Goals as goal

pub raw_part-c-requires : goal.raw_part-c-requires
raw_part-c-requires c =
    let (t, a, R, P) = c.requires.resolved_at in (t, a, from_incoming R c.in-Incoming.is, P)

pub raw_part-c-requires-in-Plan : goal.raw_part-c-requires-in-Plan
raw_part-c-requires-in-Plan c =
    let (t, a, R, P) = c.requires.resolved_at in (t, a, from-plan R c.in-Plan.is, P)

pub child-x-requires : goal.child-x-requires
child-x-requires c =
    let (t, a, R, P) = c.requires.resolved_at in record { skips = c.requires.tables.skips; deep_bound = child_asks (from-mapping R c.in-Mapped.is) }

pub resolve-requires : goal.resolve-requires
resolve-requires c =
    let (t, a, R, P) = c.requires.resolved_at in record { tables = c.requires.tables; typed_at = (_, child-typed c.child-x.ensures (from-mapping R c.in-Mapped.is) P) }

pub returns-in-Incoming : goal.returns-in-Incoming
returns-in-Incoming c =
    λ t a R P. part_incoming c.found_in.ensures (c.raw_part-c.ensures t a (from_incoming R c.in-Incoming.is) P)

pub returns-in-Plan : goal.returns-in-Plan
returns-in-Plan c =
    λ t a R P. part-plan c.found_in-in-Plan.ensures (c.raw_part-c-in-Plan.ensures t a (from-plan R c.in-Plan.is) P)

pub returns-in-Mapped : goal.returns-in-Mapped
returns-in-Mapped c =
    λ t a R P. (c.resolve.ensures a.type (child-typed c.child-x.ensures (from-mapping R c.in-Mapped.is)
    P)).resolved
