-- `walk::walk::Walk::outward` meets its contract: one mapping less is entered, and no path is left. Assumes nothing.
use Rattle.walk.proofs.Walks.{outward}
use mathlib.Core.Path.{refl}
use Rattle.walk.proofs.walk.Walk.outward.Goals as goal

pub returns : goal.returns
returns c =
    record { value = refl; steps_to = λ plan x f E W e. outward W e }
