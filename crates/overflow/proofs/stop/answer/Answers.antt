-- `overflow::stop::answer` meets its contract: by the answer. Assumes nothing.
use Rattle.overflow.specs.code.Seek.{answered}
use Rattle.overflow.proofs.stop.answer.Goals as goal

pub returns-then-found : goal.returns-then-found
returns-then-found c =
    unfold answered in rw c.if-found.true

pub returns-else-found : goal.returns-else-found
returns-else-found c =
    unfold answered in rw c.if-found.false
