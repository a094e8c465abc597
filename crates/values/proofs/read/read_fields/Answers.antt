-- `values::read::read_fields` meets its contract: marks do not count. Assumes nothing.
use Rattle.values.proofs.Unmarked.{bare-values}
use Rattle.values.proofs.read.read_fields.Goals as goal

pub returns : goal.returns
returns c =
    λ P. bare-values _ _ P.end P.columns (c.marked_fields.ensures P)
