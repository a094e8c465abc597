-- `calls::columns::failed_column` meets its contract. Assumes nothing.
use Rattle.calls.proofs.columns.failed_column.Goals as goal

pub returns-in-Refused : goal.returns-in-Refused
returns-in-Refused c =
    rw c.in-Refused.is

pub returns-in-Bare : goal.returns-in-Bare
returns-in-Bare c =
    rw c.in-Bare.is

pub returns-in-Built : goal.returns-in-Built
returns-in-Built c =
    rw c.in-Built.is
