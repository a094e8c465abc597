-- `walk::head::struct_fields` meets its contract: the count behind the input. Assumes nothing.
use Rattle.walk.proofs.head.struct_fields.Goals as goal

pub returns : goal.returns
returns c =
    λ P Q. c.counted_at.ensures P.end Q (c.skip_selector.ensures P)
