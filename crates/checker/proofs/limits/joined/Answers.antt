-- `checker::limits::joined` meets its contract. Assumes nothing.
use native.Mathlib.Omega.{arith}
use mathlib.Core.Path.{sym, ap}
use Rattle.checker.specs.code.Limits.{joined_of}
use Rattle.checker.proofs.Fitting.{joined_is}
use Rattle.checker.proofs.limits.joined.Goals as goal

pub overflow_add-result : goal.overflow_add-result
overflow_add-result c =
    omega (arith, c.requires _ _ c.in-Within.is)

pub returns-in-Within : goal.returns-in-Within
returns-in-Within c =
    joined_is c.args.before c.args.levels c.larger.ensures
    c.in-Within.is

pub returns-in-Over : goal.returns-in-Over
returns-in-Over c =
    sym (ap (joined_of c.args.before c.args.levels) c.in-Over.is)
