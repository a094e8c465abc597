-- `walk::child::first_part` meets its contract: by the code of the mapping. Assumes nothing.
use Rattle.walk.proofs.Children.{reached_element}
use Rattle.walk.proofs.child.first_part.Goals as goal

pub returns : goal.returns
returns c =
    reached_element 0 c.if-plan-at-eq4.false c.skip_by.ensures
