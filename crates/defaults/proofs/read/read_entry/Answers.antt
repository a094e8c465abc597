-- `defaults::read::read_entry` meets its contract: each way has its rule. Assumes nothing.
use borrow.Author.Rules.{rules}
use Rattle.defaults.proofs.Reading.{owned-ways}
use Rattle.defaults.proofs.read.read_entry.Goals as goal

pub returns-in-Is : goal.returns-in-Is
returns-in-Is c =
    search (owned-ways, rules)

pub returns-in-Refused : goal.returns-in-Refused
returns-in-Refused c =
    search (owned-ways, rules)
