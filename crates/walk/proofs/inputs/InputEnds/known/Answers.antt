-- `walk::inputs::InputEnds::known` meets its contract: the entry for that offset. Assumes nothing.
use Rattle.walk.proofs.Ending.{known_is}
use Rattle.walk.proofs.inputs.InputEnds.known.Goals as goal

pub returns-then-i-lt64 : goal.returns-then-i-lt64
returns-then-i-lt64 c =
    λ plan P T h. known_is P T c.if-at-self.false h
