use Rattle.transfer.proofs.Origins.{position-value}
use Rattle.walk.proofs.Heads.{is_position_lem}
use Rattle.plan.proofs.Results.{true≠false}
use mathlib.Core.Path.{refl}
use Rattle.transfer.proofs.origin.is_position.Goals as goal

pub returns-in-Position : goal.returns-in-Position
returns-in-Position c =
    λ P e ρ. position-value P (is_position_lem (c.head.ensures P) c.in-Position.is).1 ρ

pub returns-in-Constant : goal.returns-in-Constant
returns-in-Constant c =
    λ P e ρ. true≠false e refl

pub returns-in-Cast : goal.returns-in-Cast
returns-in-Cast c =
    λ P e ρ. true≠false e refl

pub returns-in-Rename : goal.returns-in-Rename
returns-in-Rename c =
    λ P e ρ. true≠false e refl

pub returns-in-Struct : goal.returns-in-Struct
returns-in-Struct c =
    λ P e ρ. true≠false e refl

pub returns-in-List : goal.returns-in-List
returns-in-List c =
    λ P e ρ. true≠false e refl

pub returns-in-Array : goal.returns-in-Array
returns-in-Array c =
    λ P e ρ. true≠false e refl

pub returns-in-Refused : goal.returns-in-Refused
returns-in-Refused c =
    λ P e ρ. true≠false e refl
