-- `walk::walk::Walk::enter` meets its contract: one mapping more is entered. Assumes nothing.
use Rattle.walk.proofs.Walks.{enter}
use native.Mathlib.Omega.{arith}
use Rattle.walk.proofs.walk.Walk.enter.Goals as goal

pub overflow_cast-next : goal.overflow_cast-next
overflow_cast-next c =
    omega (arith, c.requires.0)

pub returns : goal.returns
returns c =
    λ plan x M E. enter M E
