-- `defaults::types::leaf_head` meets its contract: each way through it is found by the rules `only-ways`. Assumes
-- nothing.
use borrow.Author.Rules.{rules}
use Rattle.layout.proofs.Ways.{head_in}
use Rattle.defaults.proofs.Ways.{only-ways}
use Rattle.defaults.proofs.types.leaf_head.Goals as goal

pub returns-in-Leaf : goal.returns-in-Leaf
returns-in-Leaf c =
    record { result_value = search (only-ways, head_in, rules); leaf_in = search (only-ways, head_in, rules) }

pub returns-in-Struct : goal.returns-in-Struct
returns-in-Struct c =
    record { result_value = search (only-ways, head_in, rules); leaf_in = search (only-ways, head_in, rules) }

pub returns-in-List : goal.returns-in-List
returns-in-List c =
    record { result_value = search (only-ways, head_in, rules); leaf_in = search (only-ways, head_in, rules) }

pub returns-in-Array : goal.returns-in-Array
returns-in-Array c =
    record { result_value = search (only-ways, head_in, rules); leaf_in = search (only-ways, head_in, rules) }

pub returns-in-Refused : goal.returns-in-Refused
returns-in-Refused c =
    record { result_value = search (only-ways, head_in, rules); leaf_in = search (only-ways, head_in, rules) }
