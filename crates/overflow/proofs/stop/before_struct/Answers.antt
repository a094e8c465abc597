-- `overflow::stop::before_struct` meets its contract: each want is a case of `struct_stop`. Assumes nothing.
use Rattle.overflow.specs.code.Seek.{struct_stop}
use Rattle.overflow.proofs.stop.before_struct.Goals as goal

pub returns-in-Parts : goal.returns-in-Parts
returns-in-Parts c =
    unfold struct_stop in rw c.in-Parts.is

pub returns-in-Element : goal.returns-in-Element
returns-in-Element c =
    unfold struct_stop in rw c.in-Element.is

pub returns-in-Beyond : goal.returns-in-Beyond
returns-in-Beyond c =
    unfold struct_stop in rw c.in-Beyond.is
