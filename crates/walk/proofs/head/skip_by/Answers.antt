-- `walk::head::skip_by` meets its contract: a selector that stands there is not refused. Assumes nothing.
use Rattle.walk.proofs.Heads.{selector-ends, selector_stuck}
use Rattle.walk.proofs.head.skip_by.Goals as goal

pub returns-in-To : goal.returns-in-To
returns-in-To c =
    λ P. selector-ends P c.pass_selector.ensures c.in-To.is

pub returns-in-Refused : goal.returns-in-Refused
returns-in-Refused c =
    λ P. selector_stuck P c.pass_selector.ensures c.in-Refused.is
