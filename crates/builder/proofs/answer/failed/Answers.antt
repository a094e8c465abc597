-- `builder::answer::failed` meets its contract. Assumes nothing.
use Rattle.builder.proofs.answer.failed.Goals as goal

pub returns-in-Refused : goal.returns-in-Refused
returns-in-Refused c =
    rw c.in-Refused.is
