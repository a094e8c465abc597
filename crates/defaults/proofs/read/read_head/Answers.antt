-- `defaults::read::read_head` meets its contract: each way through it is found by the rules `head-ways`. Assumes
-- nothing.
use Rattle.defaults.proofs.Indexing.{head-ways}
use borrow.Author.Rules.{rules}
use Rattle.defaults.proofs.read.read_head.Goals as goal

pub returns-in-Is-read_kind : goal.returns-in-Is-read_kind
returns-in-Is-read_kind c =
    search (head-ways, rules)

pub returns-in-Refused-read_kind : goal.returns-in-Refused-read_kind
returns-in-Refused-read_kind c =
    search (head-ways, rules)

pub returns-in-Refused-long : goal.returns-in-Refused-long
returns-in-Refused-long c =
    search (head-ways, rules)

pub returns-in-Refused : goal.returns-in-Refused
returns-in-Refused c =
    search (head-ways, rules)
