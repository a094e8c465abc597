-- `convert::leaf::convert_datetime` meets its contract: a law for each kind of target. Assumes nothing.
use Rattle.convert.proofs.Pairs.{datetime-integer, datetime-float, datetime-datetime, datetime-other}
use Rattle.convert.proofs.leaf.convert_datetime.Goals as goal

pub rescale-requires : goal.rescale-requires
rescale-requires c =
    c.unit_change.ensures.positive

pub returns-in-Integer : goal.returns-in-Integer
returns-in-Integer c =
    datetime-integer _ _ c.class_of.ensures _ c.in-Integer.is

pub returns-in-Float : goal.returns-in-Float
returns-in-Float c =
    datetime-float _ _ c.class_of.ensures _ c.in-Float.is

pub returns-in-Datetime : goal.returns-in-Datetime
returns-in-Datetime c =
    datetime-datetime _ _ c.class_of.ensures _ c.unit_change.result c.rescale.result c.in-Datetime.is c.unit_change.ensures.result_value
    c.rescale.ensures

pub returns-in-Other : goal.returns-in-Other
returns-in-Other c =
    datetime-other _ _ c.class_of.ensures _ c.in-Other.is
