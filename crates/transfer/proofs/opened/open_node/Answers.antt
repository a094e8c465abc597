use Rattle.transfer.proofs.Opening.{opened_as}
use Rattle.transfer.proofs.opened.open_node.Goals as goal

pub returns-in-Null : goal.returns-in-Null
returns-in-Null c =
    λ x N. record { answer = N.none c.in-Null.is }

pub returns-in-At : goal.returns-in-At
returns-in-At c =
    λ x N. let I = N.here _ _ c.in-At.is in opened_as I.is (c.open_value.ensures I.raw)
