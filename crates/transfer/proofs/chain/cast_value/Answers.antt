use Rattle.transfer.proofs.Chaining.{type_moved, cast_over}
use Rattle.transfer.proofs.chain.cast_value.Goals as goal

pub returns : goal.returns
returns c =
    λ ρ P K N. cast_over P ρ K (c.cast_by.ensures _ _ (type_moved P ρ K (c.skip_selector.ensures K.input))
    (c.taken_leaf-q.ensures _ N))
