-- `walk::head::nth_selector` meets its contract: those before it are passed over. Assumes nothing.
use Rattle.walk.proofs.Heads.{nth-is, nth_stuck}
use Rattle.walk.proofs.head.nth_selector.Goals as goal

pub returns-in-To : goal.returns-in-To
returns-in-To c =
    λ n Q l. nth-is Q l c.pass_selectors.ensures c.in-To.is

pub returns-in-Refused : goal.returns-in-Refused
returns-in-Refused c =
    λ n Q l. nth_stuck Q l c.pass_selectors.ensures c.in-Refused.is
