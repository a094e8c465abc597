-- `builder::parts::array_part` meets its contract. Assumes nothing.
use Rattle.builder.proofs.Taking.{array-list, array-is, array-width, array-none}
use Rattle.builder.proofs.parts.array_part.Goals as goal

pub returns-then-x-w : goal.returns-then-x-w
returns-then-x-w c =
    λ d P. array-is c.args.v d c.args.s.now c.args.c.at c.args.w P.tree P.end (c.element_part.ensures d P)
    c.in-Array.is c.if-x-w.true

pub returns-in-List : goal.returns-in-List
returns-in-List c =
    λ d P. array-list c.args.v d c.args.s.now c.args.c.at c.args.w P.tree P.end (c.element_part.ensures d P)
    c.in-List.is

pub returns-else-x-w : goal.returns-else-x-w
returns-else-x-w c =
    λ d P. array-width c.args.v d c.args.s.now c.args.c.at c.args.w P.tree P.end (c.element_part.ensures d P)
    c.in-Array.is c.if-x-w.false

pub returns-in-Mismatch : goal.returns-in-Mismatch
returns-in-Mismatch c =
    λ d P. array-none c.args.v d c.args.s.now c.args.c.at c.args.w P.tree P.end (c.element_part.ensures d P)
    c.in-Mismatch.is
