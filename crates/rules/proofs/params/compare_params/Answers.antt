-- `rules::params::compare_params` meets its contract: a law of `Compared` for each way. Assumes nothing.
use Rattle.rules.proofs.Compared.{no_decimal_incoming, no_decimal_target, two-decimals}
use mathlib.Core.Path.{ap}
use mathlib.Core.Bool.{not}
use Rattle.rules.proofs.params.compare_params.Goals as goal

pub returns-then-not-is_decimal : goal.returns-then-not-is_decimal
returns-then-not-is_decimal c =
    no_decimal_incoming _ _ _ _ c.is_decimal.ensures (ap not c.if-not-is_decimal.true) c.compare_zones.ensures

pub returns-then-not-is_decimal-2 : goal.returns-then-not-is_decimal-2
returns-then-not-is_decimal-2 c =
    no_decimal_target _ _ _ _ c.is_decimal.ensures (ap not c.if-not-is_decimal.false) c.is_decimal-2.ensures (ap not c.if-not-is_decimal-2.true)
    c.compare_zones-then-not-is_decimal-2.ensures

pub returns : goal.returns
returns c =
    two-decimals _ _ _ _ c.is_decimal.ensures (ap not c.if-not-is_decimal.false) c.is_decimal-2.ensures (ap not c.if-not-is_decimal-2.false)
    c.decimal_of.ensures
    c.decimal_of-2.ensures c.compare_decimals.ensures
