-- `values::leaf::read_leaf` meets its contract: each way through it is found by the rules `leaf-ways`. Assumes nothing.
use Rattle.values.proofs.Ways.{leaf-ways}
use borrow.Author.Rules.{rules}
use Rattle.values.proofs.leaf.read_leaf.Goals as goal

pub returns-in-Nothing : goal.returns-in-Nothing
returns-in-Nothing c =
    search (leaf-ways, rules)

pub returns-in-Flag : goal.returns-in-Flag
returns-in-Flag c =
    search (leaf-ways, rules)

pub returns-in-Number : goal.returns-in-Number
returns-in-Number c =
    search (leaf-ways, rules)

pub returns-in-Decimal : goal.returns-in-Decimal
returns-in-Decimal c =
    search (leaf-ways, rules)

pub returns-in-Text : goal.returns-in-Text
returns-in-Text c =
    search (leaf-ways, rules)
