-- `values::read::read_elements` meets its contract: marks do not count. Assumes nothing.
use Rattle.values.proofs.Unmarked.{bare-elements}
use Rattle.values.proofs.read.read_elements.Goals as goal

pub returns : goal.returns
returns c =
    λ P. bare-elements _ _ P.end _ P.tree (c.marked_elements.ensures P)
