-- `direct::inside::both_inside` meets its contract. Assumes nothing.
use Rattle.direct.proofs.Opening.{structs_in, lists_in, arrays_in}
use Rattle.direct.proofs.inside.both_inside.Goals as goal

pub returns-in-Struct-inside_of : goal.returns-in-Struct-inside_of
returns-in-Struct-inside_of c =
    λ T Q. structs_in (c.inside_of.ensures T) (c.inside_of-in-Struct.ensures Q) c.in-Struct.is c.in-Struct-inside_of.is

pub returns-in-List-inside_of : goal.returns-in-List-inside_of
returns-in-List-inside_of c =
    λ T Q. lists_in (c.inside_of.ensures T) (c.inside_of-in-List.ensures Q) c.in-List.is c.in-List-inside_of.is

pub returns-then-w-u : goal.returns-then-w-u
returns-then-w-u c =
    λ T Q. arrays_in (c.inside_of.ensures T) (c.inside_of-in-Array.ensures Q) c.in-Array.is c.in-Array-inside_of.is c.if-w-u.true
