use Rattle.transfer.proofs.Rows.{value-ended, value_unread}
use Rattle.transfer.proofs.row.skip_value.Goals as goal

pub returns-in-To : goal.returns-in-To
returns-in-To c =
    λ X. value-ended X c.read_element.ensures c.in-To.is

pub returns-in-Refused : goal.returns-in-Refused
returns-in-Refused c =
    λ X. value_unread X c.read_element.ensures c.in-Refused.is
