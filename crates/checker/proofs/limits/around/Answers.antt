-- `checker::limits::around` meets its contract. Assumes nothing.
use native.Mathlib.Omega.{arith}
use mathlib.Core.Path.{sym, ap}
use Rattle.checker.specs.code.Limits.{around_of}
use Rattle.checker.proofs.limits.around.Goals as goal

pub overflow_add-result : goal.overflow_add-result
overflow_add-result c =
    omega (arith, (c.requires _ _ c.in-Within.is).0)

pub overflow_add-result-in-Within : goal.overflow_add-result-in-Within
overflow_add-result-in-Within c =
    omega (arith, (c.requires _ _ c.in-Within.is).1)

pub returns-in-Within : goal.returns-in-Within
returns-in-Within c =
    sym (ap (around_of c.args.head) c.in-Within.is)

pub returns-in-Over : goal.returns-in-Over
returns-in-Over c =
    sym (ap (around_of c.args.head) c.in-Over.is)
