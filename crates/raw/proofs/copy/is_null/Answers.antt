use mathlib.Core.Path.{refl}
use Rattle.plan.proofs.Results.{true≠false}
use Rattle.values.proofs.Inside.{null-at}
use Rattle.raw.proofs.copy.is_null.Goals as goal

pub returns-in-Null : goal.returns-in-Null
returns-in-Null c =
    λ t X e. (null-at X c.read_presence.ensures c.in-Null.is).0

pub returns-in-Present : goal.returns-in-Present
returns-in-Present c =
    λ t X e. true≠false e refl

pub returns-in-Refused : goal.returns-in-Refused
returns-in-Refused c =
    λ t X e. true≠false e refl
