-- `defaults::types::read_leaf_value` meets its contract: each way through it is found by the rules `value-ways`.
-- Assumes nothing.
use borrow.Author.Rules.{rules}
use Rattle.defaults.proofs.Ways.{value-ways}
use Rattle.defaults.proofs.types.read_leaf_value.Goals as goal

pub returns-in-Null : goal.returns-in-Null
returns-in-Null c =
    search (value-ways, rules)

pub returns-in-Present : goal.returns-in-Present
returns-in-Present c =
    search (value-ways, rules)

pub returns-in-Refused : goal.returns-in-Refused
returns-in-Refused c =
    search (value-ways, rules)
