-- `defaults::read::read_partition` meets its contract: each way through it is found by the rules `given-ways`. Assumes
-- nothing.
use borrow.Author.Rules.{rules}
use Rattle.defaults.proofs.Ways.{given-ways}
use Rattle.defaults.proofs.read.read_partition.Goals as goal

pub returns-in-0 : goal.returns-in-0
returns-in-0 c =
    search (given-ways, rules)

pub returns-in-1 : goal.returns-in-1
returns-in-1 c =
    search (given-ways, rules)

pub returns-in_default : goal.returns-in_default
returns-in_default c =
    search (given-ways, rules)

pub returns-in-Refused : goal.returns-in-Refused
returns-in-Refused c =
    search (given-ways, rules)
