-- `builder::default::constant_made` meets its contract. Assumes nothing.
use Rattle.builder.specs.code.Answers.{value_len}
use mathlib.Core.Path.{ap}
use native.Mathlib.Omega.{arith}
use Rattle.builder.proofs.default.constant_made.Goals as goal

pub overflow_add-result : goal.overflow_add-result
overflow_add-result c =
    omega (arith, c.requires, ap value_len c.in-None.is)

pub overflow_add-result-in-Some : goal.overflow_add-result-in-Some
overflow_add-result-in-Some c =
    omega (arith, c.requires, ap value_len c.in-Some.is)

pub returns-in-Refused : goal.returns-in-Refused
returns-in-Refused c =
    rw c.in-Refused.is

pub returns-in-None : goal.returns-in-None
returns-in-None c =
    rw c.in-None.is

pub returns-in-Some : goal.returns-in-Some
returns-in-Some c =
    rw c.in-Some.is
