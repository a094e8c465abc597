use Rattle.transfer.proofs.Opening.{opened-counted}
use Rattle.transfer.proofs.opened.open_list.Goals as goal

pub returns-in-Is : goal.returns-in-Is
returns-in-Is c =
    λ v lay X. opened-counted X c.short.ensures c.in-Is.is
