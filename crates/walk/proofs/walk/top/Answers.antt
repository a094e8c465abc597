-- `walk::walk::top` meets its contract: nothing is entered. Assumes nothing.
use Rattle.walk.proofs.Walks.{top}
use mathlib.Core.Path.{refl}
use Rattle.walk.proofs.walk.top.Goals as goal

pub returns : goal.returns
returns c =
    λ plan P e b s. top P e b s refl refl
