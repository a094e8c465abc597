-- `walk::walk::Walk::leaving` meets its contract: by the innermost mapping. Assumes nothing.
use Rattle.walk.proofs.Moving.{leaving-column, inner-inside, leaving-field, leaving-element, leaving-none}
use mathlib.Core.Path.{refl}
use Rattle.walk.proofs.walk.Walk.leaving.Goals as goal

pub returns-then-self-eq0 : goal.returns-then-self-eq0
returns-then-self-eq0 c =
    λ x M a. leaving-column M a c.if-self-eq0.true

pub bounds-plan-m : goal.bounds-plan-m
bounds-plan-m c =
    inner-inside c.requires.1 c.if-self-eq0.false

pub returns-then-plan-m-eq4 : goal.returns-then-plan-m-eq4
returns-then-plan-m-eq4 c =
    λ x M a. leaving-field M a c.if-self-eq0.false refl c.if-plan-m-eq4.true

pub returns-then-i-eq0 : goal.returns-then-i-eq0
returns-then-i-eq0 c =
    λ x M a. leaving-element M a c.if-self-eq0.false c.if-plan-m-eq4.false c.if-i-eq0.true

pub returns-else-i-eq0 : goal.returns-else-i-eq0
returns-else-i-eq0 c =
    λ x M a. leaving-none M a c.if-self-eq0.false c.if-plan-m-eq4.false c.if-i-eq0.false
