-- `direct::inside::inside_of` meets its contract. Assumes nothing.
use Rattle.direct.proofs.Opening.{struct_in, list_in, array_in}
use Rattle.direct.proofs.inside.inside_of.Goals as goal

pub returns-in-Struct : goal.returns-in-Struct
returns-in-Struct c =
    λ T. struct_in T c.parts.ensures c.in-Struct.is

pub returns-in-List : goal.returns-in-List
returns-in-List c =
    λ T. list_in T c.parts.ensures c.in-List.is

pub returns-in-Array : goal.returns-in-Array
returns-in-Array c =
    λ T. array_in T c.parts.ensures c.in-Array.is
