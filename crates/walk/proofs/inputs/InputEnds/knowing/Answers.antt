-- `walk::inputs::InputEnds::knowing` meets its contract: one end is stored. Assumes nothing.
use Rattle.walk.proofs.Ending.{ends_more}
use mathlib.Core.Path.{refl}
use Rattle.walk.proofs.inputs.InputEnds.knowing.Goals as goal

pub returns-then-end-lt65536 : goal.returns-then-end-lt65536
returns-then-end-lt65536 c =
    (λ plan T h. ends_more c.requires T h, refl)
