-- `walk::head::counted_at` meets its contract: the count, if one stands there. Assumes nothing.
use Rattle.walk.proofs.Heads.{counted_is, count-missing}
use Rattle.walk.proofs.head.counted_at.Goals as goal

pub returns-in-Is : goal.returns-in-Is
returns-in-Is c =
    λ at Q y. counted_is y Q c.short.ensures c.in-Is.is

pub returns-in-Refused : goal.returns-in-Refused
returns-in-Refused c =
    λ at Q y. count-missing y Q c.short.ensures c.in-Refused.is
