-- `checker::name::mapped_name` meets its contract. Assumes nothing.
use Rattle.checker.proofs.Naming.{mapped-field, mapped-list, mapped-array}
use Rattle.checker.proofs.Headed.{made-position_never, made-constant_never, made-cast_never, made-rename_never}
use Rattle.walk.proofs.Heads.{never_refused}
use Rattle.checker.proofs.name.mapped_name.Goals as goal

pub returns-in-Position : goal.returns-in-Position
returns-in-Position c =
    λ i v n t k a M P. made-position_never M (c.head.ensures M.standing.here) c.in-Position.is

pub returns-in-Constant : goal.returns-in-Constant
returns-in-Constant c =
    λ i v n t k a M P. made-constant_never M (c.head.ensures M.standing.here) c.in-Constant.is

pub returns-in-Cast : goal.returns-in-Cast
returns-in-Cast c =
    λ i v n t k a M P. made-cast_never M (c.head.ensures M.standing.here) c.in-Cast.is

pub returns-in-Rename : goal.returns-in-Rename
returns-in-Rename c =
    λ i v n t k a M P. made-rename_never M (c.head.ensures M.standing.here) c.in-Rename.is

pub returns-in-Struct : goal.returns-in-Struct
returns-in-Struct c =
    λ i v n t k a M P. mapped-field M P (c.head.ensures M.standing.here) c.in-Struct.is

pub returns-in-List : goal.returns-in-List
returns-in-List c =
    λ i v n t k a M P. mapped-list M P (c.head.ensures M.standing.here) c.in-List.is
    c.no_name.ensures

pub returns-in-Array : goal.returns-in-Array
returns-in-Array c =
    λ i v n t k a M P. mapped-array M P (c.head.ensures M.standing.here) c.in-Array.is
    c.no_name-in-Array.ensures

pub returns-in-Refused : goal.returns-in-Refused
returns-in-Refused c =
    λ i v n t k a M P. never_refused (c.head.ensures M.standing.here) c.in-Refused.is
