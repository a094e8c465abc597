-- `walk::head::rename_name` meets its contract: the name behind the input. Assumes nothing.
use Rattle.walk.proofs.head.rename_name.Goals as goal

pub returns : goal.returns
returns c =
    λ P N. c.name_behind.ensures P.end N (c.skip_selector.ensures P)
