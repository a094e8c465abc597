-- `overflow::stop::ran` meets its contract: by the code of the innermost mapping. Assumes nothing.
use Rattle.overflow.proofs.Asking.{ran-top, ran-fields, ran-element}
use Rattle.walk.proofs.Moving.{inner-inside}
use Rattle.overflow.proofs.stop.ran.Goals as goal

pub returns-then-w-eq0 : goal.returns-then-w-eq0
returns-then-w-eq0 c =
    λ x M. ran-top M c.if-w-eq0.true

pub bounds-plan-m : goal.bounds-plan-m
bounds-plan-m c =
    inner-inside c.requires.1 c.if-w-eq0.false

pub returns-then-plan-m-eq4 : goal.returns-then-plan-m-eq4
returns-then-plan-m-eq4 c =
    λ x M. ran-fields M c.if-w-eq0.false c.if-plan-m-eq4.true

pub returns-else-plan-m-eq4 : goal.returns-else-plan-m-eq4
returns-else-plan-m-eq4 c =
    λ x M. ran-element M c.if-w-eq0.false c.if-plan-m-eq4.false
