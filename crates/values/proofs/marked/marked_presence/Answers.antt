-- `values::marked::marked_presence` meets its contract: each way has its law in `Walk`. Assumes nothing.
use Rattle.values.proofs.Walk.{presence-null, presence-required, presence-present, presence-refused}
use Rattle.values.proofs.marked.marked_presence.Goals as goal

pub returns-then-required : goal.returns-then-required
returns-then-required c =
    presence-required _ _ _ c.read_presence.ensures c.in-Null.is c.if-required.true

pub returns-else-required : goal.returns-else-required
returns-else-required c =
    presence-null _ _ _ c.read_presence.ensures c.in-Null.is c.if-required.false

pub returns-in-Present : goal.returns-in-Present
returns-in-Present c =
    presence-present _ _ _ c.read_presence.ensures c.in-Present.is

pub returns-in-Refused : goal.returns-in-Refused
returns-in-Refused c =
    presence-refused _ _ _ c.read_presence.ensures c.in-Refused.is
