-- `values::leaf::pass` meets its contract: each way through it is found by the rules `leaf-ways`. Assumes nothing.
use Rattle.values.proofs.Ways.{leaf-ways}
use borrow.Author.Rules.{rules}
use Rattle.values.proofs.leaf.pass.Goals as goal

pub returns-then-s-at : goal.returns-then-s-at
returns-then-s-at c =
    search (leaf-ways, rules)

pub returns-then-n-s : goal.returns-then-n-s
returns-then-n-s c =
    search (leaf-ways, rules)

pub returns-else-n-s : goal.returns-else-n-s
returns-else-n-s c =
    search (leaf-ways, rules)
