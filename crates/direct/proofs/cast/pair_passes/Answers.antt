-- `direct::cast::pair_passes` meets its contract. Assumes nothing.
use Rattle.direct.proofs.Casting.{pair_spans}
use Rattle.direct.proofs.cast.pair_passes.Goals as goal

pub returns : goal.returns
returns c =
    pair_spans c.args.s.now c.args.plan.now c.args.l c.args.m c.args.o c.cast_passes.ensures
