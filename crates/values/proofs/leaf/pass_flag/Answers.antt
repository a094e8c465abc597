-- `values::leaf::pass_flag` meets its contract: each way through it is found by the rules `leaf-ways`. Assumes nothing.
use Rattle.values.proofs.Ways.{leaf-ways}
use borrow.Author.Rules.{rules}
use Rattle.values.proofs.leaf.pass_flag.Goals as goal

pub returns-then-b-le1 : goal.returns-then-b-le1
returns-then-b-le1 c =
    search (leaf-ways, rules)

pub returns-else-b-le1 : goal.returns-else-b-le1
returns-else-b-le1 c =
    search (leaf-ways, rules)

pub returns-in-Refused : goal.returns-in-Refused
returns-in-Refused c =
    search (leaf-ways, rules)
