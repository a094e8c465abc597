-- `defaults::lookup::unless_null` meets its contract: each answer has its law in `Taking`. Assumes nothing.
use Rattle.defaults.proofs.Taking.{null-taken, present-taken, never_taken}
use Rattle.defaults.proofs.lookup.unless_null.Goals as goal

pub returns-in-Null : goal.returns-in-Null
returns-in-Null c =
    null-taken _ c.args.l _ c.read_presence.ensures c.in-Null.is

pub returns-in-Present : goal.returns-in-Present
returns-in-Present c =
    present-taken _ c.args.l _ c.read_presence.ensures c.in-Present.is
    c.requires.span_in

pub returns-in-Refused : goal.returns-in-Refused
returns-in-Refused c =
    λ P. never_taken _ c.args.l _
    c.read_presence.ensures c.in-Refused.is P
