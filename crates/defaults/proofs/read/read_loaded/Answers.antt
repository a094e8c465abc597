-- `defaults::read::read_loaded` meets its contract: each way through it is found by the rules `given-ways`. Assumes
-- nothing.
use borrow.Author.Rules.{rules}
use Rattle.defaults.proofs.Ways.{given-ways}
use Rattle.defaults.proofs.read.read_loaded.Goals as goal

pub returns-in-Is-short : goal.returns-in-Is-short
returns-in-Is-short c =
    search (given-ways, rules)

pub returns-in-Refused-short : goal.returns-in-Refused-short
returns-in-Refused-short c =
    search (given-ways, rules)

pub returns-in-Refused : goal.returns-in-Refused
returns-in-Refused c =
    search (given-ways, rules)
