-- `checker::name::direct_name` meets its contract. Assumes nothing.
use Rattle.checker.proofs.Headed.{from_incoming, from-plan, from-mapping}
use mathlib.Core.Path.{refl}
use Rattle.checker.proofs.name.direct_name.Goals as goal

pub raw_name-requires : goal.raw_name-requires
raw_name-requires c =
    let (n, t, R) = c.requires in (t, from_incoming R c.in-Incoming.is)

pub raw_name-requires-in-Plan : goal.raw_name-requires-in-Plan
raw_name-requires-in-Plan c =
    let (n, t, R) = c.requires in (t, from-plan R c.in-Plan.is)

pub returns-in-Incoming : goal.returns-in-Incoming
returns-in-Incoming c =
    λ n t a R P. record { answer = c.raw_name.ensures _ _ t a refl (from_incoming R c.in-Incoming.is) P }

pub returns-in-Plan : goal.returns-in-Plan
returns-in-Plan c =
    λ n t a R P. record { answer = c.raw_name-in-Plan.ensures _ _ t a refl (from-plan R c.in-Plan.is) P }

pub returns-in-Mapped : goal.returns-in-Mapped
returns-in-Mapped c =
    λ n t a R P. c.mapped_name.ensures _ _ n t _ a (from-mapping R c.in-Mapped.is) P
