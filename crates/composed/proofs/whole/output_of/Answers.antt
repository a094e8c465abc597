use Rattle.transfer.proofs.Reaching.{reached_to}
use Rattle.composed.proofs.whole.output_of.Goals as goal

pub returns-in-To : goal.returns-in-To
returns-in-To c =
    λ ok b e out new R. record
    { answer = (reached_to R c.in-To.is).1 }

pub returns-in-Unknown : goal.returns-in-Unknown
returns-in-Unknown c =
    λ ok b e out new R. record { answer = tt }
