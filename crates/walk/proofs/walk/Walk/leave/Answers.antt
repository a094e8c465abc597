-- `walk::walk::Walk::leave` meets its contract: one mapping less is entered. Assumes nothing.
use Rattle.walk.proofs.Walks.{leave}
use Rattle.walk.proofs.walk.Walk.leave.Goals as goal

pub returns : goal.returns
returns c =
    λ plan x M L. leave M c.outward-next.ensures.value L
