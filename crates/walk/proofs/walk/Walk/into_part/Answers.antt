-- `walk::walk::Walk::into_part` meets its contract: a number is put at the path's end, and the part entered. Assumes
-- nothing.
use Rattle.walk.proofs.Moving.{child-none, child_in}
use Rattle.walk.proofs.walk.Walk.into_part.Goals as goal

pub returns-in-At : goal.returns-in-At
returns-in-At c =
    λ plan x f t M h p g. child_in M h p g c.requires.1 c.in-At.is c.enter.ensures

pub returns-in-None : goal.returns-in-None
returns-in-None c =
    λ plan x f t M h p g. child-none M h p g c.in-None.is
