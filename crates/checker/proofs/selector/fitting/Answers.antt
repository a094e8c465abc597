-- `checker::selector::fitting` meets its contract. Assumes nothing.
use mathlib.Core.Path.{sym, ap}
use Rattle.checker.specs.code.Checking.{fitting_of}
use Rattle.checker.proofs.selector.fitting.Goals as goal

pub returns-in-Within : goal.returns-in-Within
returns-in-Within c =
    sym (ap fitting_of c.in-Within.is)

pub returns-in-Over : goal.returns-in-Over
returns-in-Over c =
    sym (ap fitting_of c.in-Over.is)
