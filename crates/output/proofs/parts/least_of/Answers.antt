use Rattle.output.proofs.Inside.{least_of-fields, least_of-element}
use Rattle.walk.proofs.Moving.{inner-inside}
use mathlib.Core.Path.{◌∙◌}
use native.Mathlib.Omega.{arith}
use Rattle.output.proofs.parts.least_of.Goals as goal

pub bounds-plan-m : goal.bounds-plan-m
bounds-plan-m c =
    inner-inside c.requires.0.1 (λ z. omega (arith, z, c.requires.1))

pub returns-then-plan-m-eq4 : goal.returns-then-plan-m-eq4
returns-then-plan-m-eq4 c =
    λ x f E W e. least_of-fields W e c.if-plan-m-eq4.true

pub returns : goal.returns
returns c =
    λ x f E W e. c.up_to.ensures ∙ least_of-element W e c.if-plan-m-eq4.false
