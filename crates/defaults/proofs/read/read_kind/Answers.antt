-- `defaults::read::read_kind` meets its contract: each way through it is found by the rules `ways`. Assumes nothing.
use borrow.Author.Rules.{rules}
use Rattle.layout.proofs.Ways.{ways}
use Rattle.defaults.specs.Table.{entry_kind}
use Rattle.defaults.proofs.read.read_kind.Goals as goal

pub returns-in-0 : goal.returns-in-0
unfolding entry_kind
returns-in-0 c =
    search (ways, rules) depth 12

pub returns-in-1 : goal.returns-in-1
unfolding entry_kind
returns-in-1 c =
    search (ways, rules) depth 12

pub returns-in_default : goal.returns-in_default
unfolding entry_kind
returns-in_default c =
    search (ways, rules) depth 12

pub returns-in-Refused : goal.returns-in-Refused
unfolding entry_kind
returns-in-Refused c =
    search (ways, rules) depth 12
