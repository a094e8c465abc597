-- `defaults::read::read_initial` meets its contract: each way through it is found by the rules `given-ways`. Assumes
-- nothing.
use borrow.Author.Rules.{rules}
use Rattle.defaults.proofs.Ways.{given-ways}
use Rattle.defaults.proofs.read.read_initial.Goals as goal

pub returns-in-Is : goal.returns-in-Is
returns-in-Is c =
    search (given-ways, rules)

pub returns-in-Refused : goal.returns-in-Refused
returns-in-Refused c =
    search (given-ways, rules)
