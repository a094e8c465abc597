use Rattle.transfer.proofs.Origins.{taken_position, taken-constant, taken-cast, taken-rename, taken-struct, taken-list, taken-array}
use Rattle.walk.proofs.Heads.{is_position_lem, is-constant, is-cast, is-rename, is_struct_mapping, is_list_mapping, is-array, never_refused}
use Rattle.transfer.proofs.origin.taken_at.Goals as goal

pub returns-in-Position : goal.returns-in-Position
returns-in-Position c =
    λ P. taken_position (is_position_lem (c.head.ensures P) c.in-Position.is).1

pub returns-in-Constant : goal.returns-in-Constant
returns-in-Constant c =
    λ P. taken-constant (is-constant (c.head.ensures P) c.in-Constant.is)

pub returns-in-Cast : goal.returns-in-Cast
returns-in-Cast c =
    λ P. taken-cast (is-cast (c.head.ensures P) c.in-Cast.is)

pub returns-in-Rename : goal.returns-in-Rename
returns-in-Rename c =
    λ P. taken-rename (is-rename (c.head.ensures P) c.in-Rename.is)

pub returns-in-Struct : goal.returns-in-Struct
returns-in-Struct c =
    λ P. taken-struct (is_struct_mapping (c.head.ensures P) c.in-Struct.is)

pub returns-in-List : goal.returns-in-List
returns-in-List c =
    λ P. taken-list (is_list_mapping (c.head.ensures P) c.in-List.is)

pub returns-in-Array : goal.returns-in-Array
returns-in-Array c =
    λ P. taken-array (is-array (c.head.ensures P) c.in-Array.is)

pub returns-in-Refused : goal.returns-in-Refused
returns-in-Refused c =
    λ P. never_refused (c.head.ensures P) c.in-Refused.is
