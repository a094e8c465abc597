-- `checker::head::type_head` meets its contract. Assumes nothing.
use Rattle.checker.proofs.Headed.{from_incoming, from-plan, from-mapping}
use mathlib.Core.Path.{refl}
use Rattle.checker.proofs.head.type_head.Goals as goal

pub mapped_head-requires : goal.mapped_head-requires
mapped_head-requires c =
    let (t, R) = c.requires.resolved_at in record { tables = c.requires.tables; mapped_at = (t, from-mapping R c.in-Mapped.is) }

pub returns-in-Incoming : goal.returns-in-Incoming
returns-in-Incoming c =
    λ t R. c.raw_head.ensures _ _ _ t refl (from_incoming R c.in-Incoming.is)

pub returns-in-Plan : goal.returns-in-Plan
returns-in-Plan c =
    λ t R. c.raw_head-in-Plan.ensures _ _ _ t refl (from-plan R c.in-Plan.is)

pub returns-in-Mapped : goal.returns-in-Mapped
returns-in-Mapped c =
    λ t R. c.mapped_head.ensures t (from-mapping R c.in-Mapped.is)
