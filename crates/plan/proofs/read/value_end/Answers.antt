-- `plan::read::value_end` meets its contract: a case for each answer. Assumes nothing.
use Rattle.plan.proofs.read.value_end.Goals as goal

pub returns-in-To : goal.returns-in-To
returns-in-To c =
    rw c.in-To.is

pub returns-in-Refused : goal.returns-in-Refused
returns-in-Refused c =
    rw c.in-Refused.is
