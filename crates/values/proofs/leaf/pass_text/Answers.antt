-- `values::leaf::pass_text` meets its contract: each way through it is found by the rules `leaf-ways`. Assumes nothing.
use Rattle.values.proofs.Ways.{leaf-ways}
use borrow.Author.Rules.{rules}
use Rattle.values.proofs.leaf.pass_text.Goals as goal

pub returns-in-Is : goal.returns-in-Is
returns-in-Is c =
    search (leaf-ways, rules)

pub returns-in-Refused : goal.returns-in-Refused
returns-in-Refused c =
    search (leaf-ways, rules)
