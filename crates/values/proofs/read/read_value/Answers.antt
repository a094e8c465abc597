-- `values::read::read_value` meets its contract: marks do not count. Assumes nothing.
use Rattle.values.proofs.Unmarked.{bare-value}
use Rattle.values.proofs.read.read_value.Goals as goal

pub returns : goal.returns
returns c =
    λ P. bare-value _ _ P.end P.tree (c.marked_value.ensures P)
