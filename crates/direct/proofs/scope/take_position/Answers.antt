-- `direct::scope::take_position` meets its contract. Assumes nothing.
use Rattle.walk.proofs.Heads.{is_position_lem}
use Rattle.direct.proofs.Scoping.{position_taken, nothing-taken}
use Rattle.direct.proofs.scope.take_position.Goals as goal

pub returns-in-Position : goal.returns-in-Position
returns-in-Position c =
    λ X S. position_taken X.fields (is_position_lem (c.head.ensures S) c.in-Position.is).1
    (c.take_column.ensures X)

pub returns-in_default : goal.returns-in_default
returns-in_default c =
    λ X S. nothing-taken
