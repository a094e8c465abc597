-- `overflow::stop::before_time` meets its contract: each want is a case of `time_stop`. Assumes nothing.
use Rattle.overflow.specs.code.Seek.{time_stop}
use Rattle.overflow.proofs.stop.before_time.Goals as goal

pub bounds_before-requires : goal.bounds_before-requires
bounds_before-requires c =
    rw c.in-Beyond.is at c.requires

pub returns-in-Parts : goal.returns-in-Parts
returns-in-Parts c =
    unfold time_stop in rw (c.in-In.is, c.in-Parts.is)

pub returns-in-Element : goal.returns-in-Element
returns-in-Element c =
    unfold time_stop in rw (c.in-In.is, c.in-Element.is)

pub returns-in-Beyond : goal.returns-in-Beyond
returns-in-Beyond c =
    unfold time_stop in rw (c.in-In.is, c.in-Beyond.is, c.bounds_before.ensures)

pub returns-in-Never : goal.returns-in-Never
returns-in-Never c =
    unfold time_stop in rw c.in-Never.is
