use Rattle.direct.proofs.Inputs.{cast-input, rename-input, struct-input, list-input, array-input}
use Rattle.walk.proofs.Heads.{is-cast, is-rename, is_struct_mapping, is_list_mapping, is-array}
use Rattle.direct.proofs.input.input_of.Goals as goal

pub returns-in-Cast : goal.returns-in-Cast
returns-in-Cast c =
    λ P. cast-input (is-cast (c.head.ensures P) c.in-Cast.is)

pub returns-in-Rename : goal.returns-in-Rename
returns-in-Rename c =
    λ P. rename-input (is-rename (c.head.ensures P) c.in-Rename.is)

pub returns-in-Struct : goal.returns-in-Struct
returns-in-Struct c =
    λ P. struct-input (is_struct_mapping (c.head.ensures P) c.in-Struct.is)

pub returns-in-List : goal.returns-in-List
returns-in-List c =
    λ P. list-input (is_list_mapping (c.head.ensures P) c.in-List.is)

pub returns-in-Array : goal.returns-in-Array
returns-in-Array c =
    λ P. array-input (is-array (c.head.ensures P) c.in-Array.is)
