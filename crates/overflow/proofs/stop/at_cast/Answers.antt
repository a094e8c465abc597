-- `overflow::stop::at_cast` meets its contract: by what is left of the path. Assumes nothing.
use Rattle.overflow.proofs.Stops.{cast-more, cast-none}
use Rattle.overflow.proofs.stop.at_cast.Goals as goal

pub returns-then-w : goal.returns-then-w
returns-then-w c =
    λ T x M. cast-more M _ c.args.want c.if-w.true

pub returns : goal.returns
returns c =
    λ T x M. cast-none M _ c.args.want c.if-w.false (c.before_cast.ensures T)
