-- `walk::walk::part` meets its contract: by the head. Assumes nothing.
use Rattle.walk.proofs.Moving.{list-found, array-found, part-position, part-constant, part-cast, part-rename}
use Rattle.walk.proofs.Heads.{is_position_lem, is-constant, is-cast, is-rename, is_struct_mapping, is_list_mapping, is-array, never_refused}
use Rattle.walk.proofs.View.{selector_moved}
use Rattle.walk.proofs.walk.part.Goals as goal

pub returns-in-Position : goal.returns-in-Position
returns-in-Position c =
    λ P m. part-position (is_position_lem (c.head.ensures P) c.in-Position.is).1 m

pub returns-in-Constant : goal.returns-in-Constant
returns-in-Constant c =
    λ P m. part-constant (is-constant (c.head.ensures P) c.in-Constant.is) m

pub returns-in-Cast : goal.returns-in-Cast
returns-in-Cast c =
    λ P m. part-cast (is-cast (c.head.ensures P) c.in-Cast.is) m

pub returns-in-Rename : goal.returns-in-Rename
returns-in-Rename c =
    λ P m. part-rename (is-rename (c.head.ensures P) c.in-Rename.is) m

pub returns-in-Struct : goal.returns-in-Struct
returns-in-Struct c =
    λ P m. let S = is_struct_mapping (c.head.ensures P) c.in-Struct.is in c.struct_part.ensures c.args.c.at _ P S
    (c.requires.at_value (selector_moved S.starts S.input))

pub returns-in-List : goal.returns-in-List
returns-in-List c =
    λ P m. let L = is_list_mapping (c.head.ensures P) c.in-List.is in list-found c.args.k L (c.requires.at_value (selector_moved L.starts L.input))

pub returns-in-Array : goal.returns-in-Array
returns-in-Array c =
    λ P m. let A = is-array (c.head.ensures P) c.in-Array.is in array-found c.args.k A
    (c.requires.at_value (selector_moved A.starts A.input))

pub returns-in-Refused : goal.returns-in-Refused
returns-in-Refused c =
    λ P m. never_refused (c.head.ensures P) c.in-Refused.is
