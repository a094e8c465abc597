-- `numeric::floats::from_integer` meets its contract, by the integer's sign. Assumes nothing.
use mir.Syntax.{w128}
use Rattle.std.proofs.lemmas.Int.{to_z-of_z}
use Rattle.numeric.specs.Floats.{integer_to_float}
use Rattle.numeric.proofs.Conversions.{integer_negative, integer_positive}
use Rattle.numeric.proofs.floats.from_integer.Goals as goal

pub returns-then-n-lt0 : goal.returns-then-n-lt0
unfolding integer_to_float
returns-then-n-lt0 c =
    let n = to_z-of_z w128 c.number-n.result (record { sfits = c.number-n.type_inv }) in
    let r = integer_negative c.from-to.result.precision c.from-to.result.max_exponent c.number-n.result (cc) in cc

pub returns-else-n-lt0 : goal.returns-else-n-lt0
unfolding integer_to_float
returns-else-n-lt0 c =
    let n = to_z-of_z w128 c.number-n.result (record { sfits = c.number-n.type_inv }) in
    let r = integer_positive c.from-to.result.precision c.from-to.result.max_exponent c.number-n.result (cc) in cc
