-- `builder::parts::element_part` meets its contract. Assumes nothing.
use Rattle.layout.proofs.View.{never_opened}
use Rattle.builder.proofs.Matching.{leaf-inside, struct-inside, list-taken, array-taken}
use Rattle.builder.proofs.parts.element_part.Goals as goal

pub returns-in-Leaf : goal.returns-in-Leaf
returns-in-Leaf c =
    λ d P. leaf-inside P c.parts.ensures c.in-Leaf.is

pub returns-in-Struct : goal.returns-in-Struct
returns-in-Struct c =
    λ d P. struct-inside P c.parts.ensures c.in-Struct.is

pub returns-in-List : goal.returns-in-List
returns-in-List c =
    λ d P. list-taken P c.parts.ensures c.in-List.is

pub returns-in-Array : goal.returns-in-Array
returns-in-Array c =
    λ d P. array-taken P c.parts.ensures c.in-Array.is

pub returns-in-Refused : goal.returns-in-Refused
returns-in-Refused c =
    λ d P. never_opened c.parts.ensures P c.in-Refused.is
