-- `overflow::want::before_quotient` meets its contract: each bound is scaled. Assumes nothing.
use Rattle.overflow.specs.code.Want.{bounds_before}
use Rattle.overflow.proofs.want.before_quotient.Goals as goal

pub returns : goal.returns
returns c =
    unfold bounds_before in rw (c.scaled-above.ensures, c.scaled-below.ensures)
