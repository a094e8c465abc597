-- `defaults::read::read_numbered` meets its contract: each way through it is found by the rules `entry-ways`. Assumes
-- nothing.
use borrow.Author.Rules.{rules}
use Rattle.defaults.proofs.Reading.{entry-ways}
use Rattle.defaults.proofs.read.read_numbered.Goals as goal

pub returns-in-To : goal.returns-in-To
returns-in-To c =
    search (entry-ways, rules)

pub returns-in-Refused-read_given : goal.returns-in-Refused-read_given
returns-in-Refused-read_given c =
    search (entry-ways, rules)

pub returns-in-Refused-read_kind : goal.returns-in-Refused-read_kind
returns-in-Refused-read_kind c =
    search (entry-ways, rules)

pub returns-in-Refused : goal.returns-in-Refused
returns-in-Refused c =
    search (entry-ways, rules)
