-- `walk::child::first_child` meets its contract. Assumes nothing.
use Rattle.walk.proofs.Children.{passed_none}
use Rattle.walk.proofs.child.first_child.Goals as goal

pub returns : goal.returns
returns c =
    passed_none (λ P Q. c.counted_at-f.ensures P.end Q (c.skip_by-d.ensures P))
