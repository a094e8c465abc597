-- `walk::walk::Walk::to_input` meets its contract: the input stands behind the code. Assumes nothing.
use Rattle.walk.proofs.Walks.{to_input}
use Rattle.walk.proofs.walk.Walk.to_input.Goals as goal

pub returns : goal.returns
returns c =
    λ plan x s M i. to_input M i
