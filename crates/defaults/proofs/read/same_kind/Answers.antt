-- `defaults::read::same_kind` meets its contract: each pair has its rule. Assumes nothing.
use borrow.Author.Rules.{rules}
use Rattle.defaults.proofs.Top.{same-kind-ways}
use Rattle.defaults.proofs.read.same_kind.Goals as goal

pub returns-in-Initial-b : goal.returns-in-Initial-b
returns-in-Initial-b c =
    search (same-kind-ways, rules)

pub returns-in-Partition-b : goal.returns-in-Partition-b
returns-in-Partition-b c =
    search (same-kind-ways, rules)

pub returns-in-Initial-b-2 : goal.returns-in-Initial-b-2
returns-in-Initial-b-2 c =
    search (same-kind-ways, rules)

pub returns-in-Partition-b-2 : goal.returns-in-Partition-b-2
returns-in-Partition-b-2 c =
    search (same-kind-ways, rules)
