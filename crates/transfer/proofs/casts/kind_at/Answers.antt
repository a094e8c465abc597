use Rattle.transfer.proofs.Reaching.{cast_leaf_lem}
use Rattle.transfer.proofs.casts.kind_at.Goals as goal

pub returns-in-Leaf : goal.returns-in-Leaf
returns-in-Leaf c =
    λ T. record { answer = λ x. cast_leaf_lem T x c.head.ensures.result_value c.in-Leaf.is }
