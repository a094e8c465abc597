use Rattle.transfer.proofs.Opening.{opened_as}
use Rattle.nodes.proofs.Node.{raw-present}
use Rattle.values.proofs.Inside.{null-at}
use Rattle.transfer.proofs.opened.open_value.Goals as goal

pub returns-in-Null : goal.returns-in-Null
returns-in-Null c =
    λ X. record { answer = (null-at X.value c.read_presence.ensures c.in-Null.is).0 }

pub returns-in-Present : goal.returns-in-Present
returns-in-Present c =
    λ X. let I = raw-present X c.read_presence.ensures c.in-Present.is in opened_as I.is (c.open_present.ensures I.inner)
