-- `walk::inputs::no_ends` meets its contract: no end is known. Assumes nothing.
use Rattle.walk.proofs.Ending.{ends-none}
use mathlib.Core.Path.{refl}
use Rattle.walk.proofs.inputs.no_ends.Goals as goal

pub returns : goal.returns
returns c =
    (λ plan. ends-none, refl)
