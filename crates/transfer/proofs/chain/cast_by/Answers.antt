use Rattle.raw.proofs.Leaves.{struct_nested, list_nested, array_nested}
use Rattle.transfer.proofs.Chaining.{by_leaf, by_nested}
use Rattle.transfer.proofs.chain.cast_by.Goals as goal

pub returns-in-Leaf : goal.returns-in-Leaf
returns-in-Leaf c =
    λ x y T C. by_leaf T x c.head.ensures.result_value c.in-Leaf.is (c.cast_to.ensures x y C)

pub returns-in-Struct : goal.returns-in-Struct
returns-in-Struct c =
    λ x y T C. by_nested C T (struct_nested T c.head.ensures.result_value c.in-Struct.is)

pub returns-in-List : goal.returns-in-List
returns-in-List c =
    λ x y T C. by_nested C T (list_nested T c.head.ensures.result_value c.in-List.is)

pub returns-in-Array : goal.returns-in-Array
returns-in-Array c =
    λ x y T C. by_nested C T (array_nested T c.head.ensures.result_value c.in-Array.is)
