-- `checker::selector::check_source` meets its contract. Assumes nothing.
use mathlib.Core.Path.{refl}
use Rattle.walk.proofs.Heads.{is-cast, is-rename, is_struct_mapping, is_list_mapping, is-array, never_refused}
use Rattle.checker.proofs.Selecting.{checks-position, checks-constant, no_transform_lem}
use Rattle.checker.proofs.selector.check_source.Goals as goal

pub returns-in-Position : goal.returns-in-Position
returns-in-Position c =
    λ incoming v n s Δ C e h. checks-position C (c.head.ensures C.standing.here) c.in-Position.is (c.check_position.ensures Δ e)

pub returns-in-Constant : goal.returns-in-Constant
returns-in-Constant c =
    λ incoming v n s Δ C e h. checks-constant C (c.head.ensures C.standing.here) c.in-Constant.is

pub returns-in-Cast : goal.returns-in-Cast
returns-in-Cast c =
    λ incoming v n s Δ C e h. no_transform_lem C h (is-cast (c.head.ensures C.standing.here) c.in-Cast.is).is refl

pub returns-in-Rename : goal.returns-in-Rename
returns-in-Rename c =
    λ incoming v n s Δ C e h. no_transform_lem C h (is-rename (c.head.ensures C.standing.here) c.in-Rename.is).is refl

pub returns-in-Struct : goal.returns-in-Struct
returns-in-Struct c =
    λ incoming v n s Δ C e h. no_transform_lem C h (is_struct_mapping (c.head.ensures C.standing.here) c.in-Struct.is).is refl

pub returns-in-List : goal.returns-in-List
returns-in-List c =
    λ incoming v n s Δ C e h. no_transform_lem C h (is_list_mapping (c.head.ensures C.standing.here) c.in-List.is).is refl

pub returns-in-Array : goal.returns-in-Array
returns-in-Array c =
    λ incoming v n s Δ C e h. no_transform_lem C h (is-array (c.head.ensures C.standing.here) c.in-Array.is).is refl

pub returns-in-Refused : goal.returns-in-Refused
returns-in-Refused c =
    λ incoming v n s Δ C e h. never_refused (c.head.ensures C.standing.here) c.in-Refused.is
