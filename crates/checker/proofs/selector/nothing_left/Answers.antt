-- `checker::selector::nothing_left` meets its contract. Assumes nothing.
use mathlib.Core.Path.{sym, ap}
use Rattle.checker.specs.code.Checking.{nothing_left}
use Rattle.checker.proofs.selector.nothing_left.Goals as goal

pub returns-in-Passed : goal.returns-in-Passed
returns-in-Passed c =
    sym (ap nothing_left c.in-Passed.is)

pub returns-in-Refused : goal.returns-in-Refused
returns-in-Refused c =
    sym
    (ap nothing_left c.in-Refused.is)
