-- `walk::inputs::end_behind` meets its contract: what stands behind the input, by the head. Assumes nothing.
use Rattle.walk.proofs.Ending.{behind-cast, behind-rename, behind-struct, behind-list, behind-array}
use Rattle.walk.proofs.Heads.{is-cast, is-rename, is_struct_mapping, is_list_mapping, is-array, never_refused}
use Rattle.walk.proofs.inputs.end_behind.Goals as goal

pub returns-in-Position : goal.returns-in-Position
returns-in-Position c =
    λ P h. c.skip_by.ensures P

pub returns-in-Constant : goal.returns-in-Constant
returns-in-Constant c =
    λ P h. c.skip_by-in-Constant.ensures P

pub returns-in-Cast : goal.returns-in-Cast
returns-in-Cast c =
    λ P h. behind-cast h (is-cast (c.head.ensures P) c.in-Cast.is) c.option_end.ensures

pub returns-in-Rename : goal.returns-in-Rename
returns-in-Rename c =
    λ P h. behind-rename h (is-rename (c.head.ensures P) c.in-Rename.is) c.name_end.ensures

pub returns-in-Struct : goal.returns-in-Struct
returns-in-Struct c =
    λ P h. behind-struct h (is_struct_mapping (c.head.ensures P) c.in-Struct.is) c.fields_end.ensures

pub returns-in-List : goal.returns-in-List
returns-in-List c =
    λ P h. behind-list h (is_list_mapping (c.head.ensures P) c.in-List.is) c.skip_by-in-List.ensures

pub returns-in-Array : goal.returns-in-Array
returns-in-Array c =
    λ P h. behind-array h (is-array (c.head.ensures P) c.in-Array.is) c.skip_by-in-Array.ensures

pub returns-in-Refused : goal.returns-in-Refused
returns-in-Refused c =
    λ P h. never_refused (c.head.ensures P) c.in-Refused.is
