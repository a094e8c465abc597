-- `defaults::read::is_of` meets its contract: by the tests, each with its rule. Assumes nothing.
use borrow.Author.Rules.{rules}
use Rattle.defaults.proofs.Top.{of-ways}
use Rattle.defaults.proofs.read.is_of.Goals as goal

pub returns-then-same_kind : goal.returns-then-same_kind
returns-then-same_kind c =
    search (of-ways, rules)

pub returns-else-same_kind : goal.returns-else-same_kind
returns-else-same_kind c =
    search (of-ways, rules)

pub returns-else-id-i : goal.returns-else-id-i
returns-else-id-i c =
    search (of-ways, rules)
