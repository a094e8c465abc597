-- `defaults::read::read_given` meets its contract: each kind has its rule. Assumes nothing.
use borrow.Author.Rules.{rules}
use Rattle.defaults.proofs.Ways.{kind-ways}
use Rattle.defaults.proofs.read.read_given.Goals as goal

pub returns-in-Initial : goal.returns-in-Initial
returns-in-Initial c =
    search (kind-ways, rules)

pub returns-in-Partition : goal.returns-in-Partition
returns-in-Partition c =
    search (kind-ways, rules)
