-- `builder::parts::list_part` meets its contract. Assumes nothing.
use Rattle.builder.proofs.Taking.{list-is, list-array, list-none}
use Rattle.builder.proofs.parts.list_part.Goals as goal

pub returns-in-List : goal.returns-in-List
returns-in-List c =
    λ d P. list-is c.args.v d c.args.s.now c.args.c.at P.tree P.end (c.element_part.ensures d P) c.in-List.is

pub returns-in-Array : goal.returns-in-Array
returns-in-Array c =
    λ d P. list-array c.args.v d c.args.s.now c.args.c.at P.tree P.end (c.element_part.ensures d P) c.in-Array.is

pub returns-in-Mismatch : goal.returns-in-Mismatch
returns-in-Mismatch c =
    λ d P. list-none c.args.v d c.args.s.now c.args.c.at P.tree P.end (c.element_part.ensures d P) c.in-Mismatch.is
