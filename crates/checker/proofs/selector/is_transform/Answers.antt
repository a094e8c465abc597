-- `checker::selector::is_transform` meets its contract. Assumes nothing.
use mathlib.Core.Path.{sym, ap}
use Rattle.walk.proofs.Heads.{is_position_lem, is-constant, is-cast, is-rename, is_struct_mapping, is_list_mapping, is-array, never_refused}
use Rattle.checker.specs.code.Checking.{is_transform}
use Rattle.checker.proofs.selector.is_transform.Goals as goal

pub returns-in-Position : goal.returns-in-Position
returns-in-Position c =
    λ P. sym (ap is_transform (is_position_lem (c.head.ensures P) c.in-Position.is).1)

pub returns-in-Constant : goal.returns-in-Constant
returns-in-Constant c =
    λ P. sym (ap is_transform (is-constant (c.head.ensures P) c.in-Constant.is).is)

pub returns-in-Cast : goal.returns-in-Cast
returns-in-Cast c =
    λ P. sym (ap is_transform (is-cast (c.head.ensures P) c.in-Cast.is).is)

pub returns-in-Rename : goal.returns-in-Rename
returns-in-Rename c =
    λ P. sym (ap is_transform (is-rename (c.head.ensures P) c.in-Rename.is).is)

pub returns-in-Struct : goal.returns-in-Struct
returns-in-Struct c =
    λ P. sym (ap is_transform (is_struct_mapping (c.head.ensures P) c.in-Struct.is).is)

pub returns-in-List : goal.returns-in-List
returns-in-List c =
    λ P. sym (ap is_transform (is_list_mapping (c.head.ensures P) c.in-List.is).is)

pub returns-in-Array : goal.returns-in-Array
returns-in-Array c =
    λ P. sym (ap is_transform (is-array (c.head.ensures P) c.in-Array.is).is)

pub returns-in-Refused : goal.returns-in-Refused
returns-in-Refused c =
    λ P. never_refused (c.head.ensures P) c.in-Refused.is
