-- `checker::tops::meets_target` meets its contract. Assumes nothing.
use Rattle.checker.proofs.Required.{older_meets, one_older, two_older}
use Rattle.checker.proofs.tops.meets_target.Goals as goal

pub returns-in-One : goal.returns-in-One
returns-in-One c =
    λ P D S. older_meets (one_older c.in-One.is) P D S

pub returns-in-Two : goal.returns-in-Two
returns-in-Two c =
    λ P D S. older_meets (two_older c.in-Two.is) P D S
