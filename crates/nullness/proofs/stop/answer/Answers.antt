-- `nullness::stop::answer` meets its contract: by the answer. Assumes nothing.
use Rattle.nullness.specs.code.Stops.{answered}
use Rattle.nullness.proofs.stop.answer.Goals as goal

pub returns-then-filled : goal.returns-then-filled
returns-then-filled c =
    unfold answered in rw c.if-filled.true

pub returns-else-filled : goal.returns-else-filled
returns-else-filled c =
    unfold answered in rw c.if-filled.false
