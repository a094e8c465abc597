-- `values::read::read_element` meets its contract: marks do not count. Assumes nothing.
use Rattle.values.proofs.Unmarked.{bare-element}
use Rattle.values.proofs.read.read_element.Goals as goal

pub returns : goal.returns
returns c =
    λ P. bare-element _ _ P.tree (c.marked_element.ensures P)
