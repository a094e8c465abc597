use Rattle.transfer.proofs.Rows.{past-text}
use Rattle.transfer.proofs.row.past_name.Goals as goal

pub returns-in-Is : goal.returns-in-Is
returns-in-Is c =
    λ ok b e out k new N R. past-text N R c.in-To.is c.text.ensures.result_value c.in-Is.is
