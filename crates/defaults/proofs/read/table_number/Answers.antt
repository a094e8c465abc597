-- `defaults::read::table_number` meets its contract: each way through it is found by the rules `ways`. Assumes nothing.
use Rattle.layout.proofs.Ways.{ways}
use Rattle.defaults.specs.Table.{table_number}
use borrow.Author.Rules.{rules}
use Rattle.defaults.proofs.read.table_number.Goals as goal

pub returns-in-50 : goal.returns-in-50
returns-in-50 c =
    unfold table_number in search (ways, rules) depth 12

pub returns-in-52 : goal.returns-in-52
returns-in-52 c =
    unfold table_number in search (ways, rules) depth 12

pub returns-in_default : goal.returns-in_default
returns-in_default c =
    unfold table_number in search (ways, rules) depth 12
