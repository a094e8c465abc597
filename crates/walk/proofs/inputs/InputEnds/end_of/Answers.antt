-- `walk::inputs::InputEnds::end_of` meets its contract: from the table, or by skipping. Assumes nothing.
use Rattle.walk.proofs.inputs.InputEnds.end_of.Goals as goal

pub returns : goal.returns
returns c =
    λ P. c.known-at.ensures _ P c.requires.ends_at c.if-at-eq0.false
