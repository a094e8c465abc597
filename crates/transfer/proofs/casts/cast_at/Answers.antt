use Rattle.transfer.proofs.Casting.{each-cast}
use Rattle.transfer.proofs.Chaining.{type_moved}
use Rattle.walk.proofs.Heads.{is_position_lem}
use Rattle.values.specs.Value.{vnil}
use Rattle.transfer.proofs.casts.cast_at.Goals as goal

pub returns-then-k-eq0 : goal.returns-then-k-eq0
returns-then-k-eq0 c =
    λ P K.
    let h = c.skip_selector.ensures K.input in
    each-cast K (is_position_lem (c.head.ensures K.input) c.in-Position.is).1 c.if-k-eq0.true h _ (c.kind_at.ensures (type_moved P vnil K h))
