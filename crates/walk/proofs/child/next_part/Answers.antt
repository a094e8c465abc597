-- `walk::child::next_part` meets its contract: by the code of the mapping. Assumes nothing.
use Rattle.walk.proofs.Children.{reached-next, reached_same}
use Rattle.walk.proofs.child.next_part.Goals as goal

pub returns-then-plan-at-eq4 : goal.returns-then-plan-at-eq4
returns-then-plan-at-eq4 c =
    λ k R T. reached-next R T c.if-plan-at-eq4.true c.skip_by.ensures

pub returns : goal.returns
returns c =
    λ k R T. reached_same R c.if-plan-at-eq4.false
