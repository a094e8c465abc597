-- `values::record::record_number` meets its contract: each way through it is found by the rules `ways`. Assumes
-- nothing.
use Rattle.layout.proofs.Ways.{ways}
use Rattle.values.specs.Record.{record_number}
use borrow.Author.Rules.{rules}
use Rattle.values.proofs.record.record_number.Goals as goal

pub returns-in-2 : goal.returns-in-2
returns-in-2 c =
    unfold record_number in search (ways, rules) depth 12

pub returns-in-3 : goal.returns-in-3
returns-in-3 c =
    unfold record_number in search (ways, rules) depth 12

pub returns-in_default : goal.returns-in_default
returns-in_default c =
    unfold record_number in search (ways, rules) depth 12
