-- `numeric::floats::convert_finite` meets its contract: the fields give the significand and the exponent. Assumes
-- nothing.
use Rattle.numeric.proofs.Conversions.{subnormal_is, normal_is}
use mathlib.Core.Path.{sym}
use Rattle.numeric.proofs.floats.convert_finite.Goals as goal

pub returns-then-e-eq0 : goal.returns-then-e-eq0
returns-then-e-eq0 c =
    let r = subnormal_is c.args.from.precision c.args.from.max_exponent c.args.to.precision c.args.to.max_exponent c.args.m (cc) in cc

pub returns-else-e-eq0 : goal.returns-else-e-eq0
returns-else-e-eq0 c =
    let r = normal_is c.args.from.precision c.args.from.max_exponent c.args.to.precision c.args.to.max_exponent c.args.m
    (rw (sym c.hidden-h.ensures) c.if-e-eq0.false) in cc
