-- `checker::selector::dropped` meets its contract. Assumes nothing.
use mathlib.Core.Path.{sym, ap}
use Rattle.checker.specs.code.Checking.{dropped_of}
use Rattle.checker.proofs.selector.dropped.Goals as goal

pub returns-in-Passed : goal.returns-in-Passed
returns-in-Passed c =
    sym (ap dropped_of c.in-Passed.is)

pub returns-in-Refused : goal.returns-in-Refused
returns-in-Refused c =
    sym (ap dropped_of c.in-Refused.is)
