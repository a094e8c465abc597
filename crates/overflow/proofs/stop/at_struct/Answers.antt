-- `overflow::stop::at_struct` meets its contract: by what is left of the path. Assumes nothing.
use Rattle.overflow.proofs.Stops.{struct-more, struct-none}
use Rattle.overflow.proofs.stop.at_struct.Goals as goal

pub returns-then-w : goal.returns-then-w
returns-then-w c =
    λ plan x M. struct-more M c.args.want c.if-w.true

pub returns : goal.returns
returns c =
    λ plan x M. struct-none M c.args.want c.if-w.false c.before_struct.ensures
