-- `direct::place::same_name` meets its contract. Assumes nothing.
use Rattle.direct.proofs.Naming.{name_incoming, name-plan, named-same}
use Rattle.direct.proofs.place.same_name.Goals as goal

pub same_text-requires : goal.same_text-requires
same_text-requires c =
    let (b, N) = c.requires.name_at in record { span_in = (name_incoming N c.in-Incoming.is).0; span_in_2 = c.requires.span_in }

pub same_text-requires-in-Plan : goal.same_text-requires-in-Plan
same_text-requires-in-Plan c =
    let (b, N) = c.requires.name_at in record { span_in = (name-plan N c.in-Plan.is).0; span_in_2 = c.requires.span_in }

pub returns-in-Incoming : goal.returns-in-Incoming
returns-in-Incoming c =
    λ b N. named-same _ c.same_text.ensures (name_incoming N c.in-Incoming.is).1

pub returns-in-Plan : goal.returns-in-Plan
returns-in-Plan c =
    λ b N. named-same _ c.same_text-in-Plan.ensures (name-plan N c.in-Plan.is).1
