-- `defaults::types::read_leaf_type` meets its contract: each way through it is found by the rules `leaf-type-ways`.
-- Assumes nothing.
use borrow.Author.Rules.{rules}
use Rattle.defaults.proofs.Ways.{leaf-type-ways}
use Rattle.defaults.proofs.types.read_leaf_type.Goals as goal

pub returns-in-18 : goal.returns-in-18
returns-in-18 c =
    record { result_value = search (leaf-type-ways, rules); leaf_in = search (leaf-type-ways, rules) }

pub returns-in-19 : goal.returns-in-19
returns-in-19 c =
    record { result_value = search (leaf-type-ways, rules); leaf_in = search (leaf-type-ways, rules) }

pub returns-in-20 : goal.returns-in-20
returns-in-20 c =
    record { result_value = search (leaf-type-ways, rules); leaf_in = search (leaf-type-ways, rules) }

pub returns-in_default : goal.returns-in_default
returns-in_default c =
    record { result_value = search (leaf-type-ways, rules); leaf_in = search (leaf-type-ways, rules) }

pub returns-in-Refused : goal.returns-in-Refused
returns-in-Refused c =
    record { result_value = search (leaf-type-ways, rules); leaf_in = search (leaf-type-ways, rules) }
