use Rattle.walk.proofs.Heads.{is-cast}
use Rattle.transfer.proofs.casts.each_of.Goals as goal

pub cast_at-requires : goal.cast_at-requires
cast_at-requires c =
    (c.requires, is-cast (c.head.ensures c.requires) c.in-Cast.is)

pub returns-in-Cast : goal.returns-in-Cast
returns-in-Cast c =
    λ P. c.cast_at.ensures P (is-cast (c.head.ensures P) c.in-Cast.is)
