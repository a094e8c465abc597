-- `numeric::floats::convert` meets its contract. Assumes nothing.
use Rattle.numeric.specs.Floats.{float_to_float}
use Rattle.numeric.proofs.floats.convert.Goals as goal

pub returns : goal.returns
unfolding float_to_float
returns c = cc
