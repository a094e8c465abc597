-- `overflow::want::count_beyond` meets its contract: only a date-time has a unit. Assumes nothing.
use Rattle.overflow.specs.code.Want.{count_beyond}
use Rattle.overflow.proofs.want.count_beyond.Goals as goal

pub returns-in-In : goal.returns-in-In
returns-in-In c =
    unfold count_beyond in rw (c.in-In.is, ← c.bounds_before.ensures) c.is_outside.ensures

pub returns-in-Never : goal.returns-in-Never
returns-in-Never c =
    unfold count_beyond in rw c.in-Never.is
