-- `nullness::nulls::part_start` meets its contract: by what the type begins with. Assumes nothing.
use Rattle.nullness.proofs.Looking.{no_part, part_field, part-list, part-array}
use Rattle.nullness.proofs.nulls.part_start.Goals as goal

pub returns-in-Leaf : goal.returns-in-Leaf
returns-in-Leaf c =
    λ e q. no_part e q

pub returns-then-n-k : goal.returns-then-n-k
returns-then-n-k c =
    λ e q. no_part e q

pub returns-else-n-k : goal.returns-else-n-k
returns-else-n-k c =
    λ e q. part_field c.head.ensures.result_value c.in-Struct.is c.if-n-k.false (c.field_start.ensures e q)

pub returns-in-List : goal.returns-in-List
returns-in-List c =
    λ e q. part-list c.head.ensures.result_value c.in-List.is (c.element_start.ensures e q)

pub returns-in-Array : goal.returns-in-Array
returns-in-Array c =
    λ e q. part-array c.head.ensures.result_value c.in-Array.is (c.element_start-in-Array.ensures e q)

pub returns-in-Refused : goal.returns-in-Refused
returns-in-Refused c =
    λ e q. no_part e q
