-- `defaults::read::read_owner` meets its contract: each version has its rules. Assumes nothing.
use borrow.Author.Rules.{rules}
use Rattle.defaults.proofs.Ways.{owner-ways}
use Rattle.defaults.proofs.read.read_owner.Goals as goal

pub returns-in-Shared : goal.returns-in-Shared
returns-in-Shared c =
    search (owner-ways, rules)

pub returns-in-Is : goal.returns-in-Is
returns-in-Is c =
    search (owner-ways, rules)

pub returns-in-Refused : goal.returns-in-Refused
returns-in-Refused c =
    search (owner-ways, rules)
