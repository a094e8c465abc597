-- `convert::leaf::convert_integer` meets its contract: a law for each kind of target. Assumes nothing.
use Rattle.convert.proofs.Pairs.{integer-integer, integer-float, integer-datetime, integer-other}
use Rattle.convert.proofs.leaf.convert_integer.Goals as goal

pub returns-in-Integer : goal.returns-in-Integer
returns-in-Integer c =
    integer-integer _ _ c.class_of.ensures _ c.in-Integer.is c.widen.ensures

pub returns-in-Float : goal.returns-in-Float
returns-in-Float c =
    integer-float _ _ c.class_of.ensures _ c.in-Float.is c.from_integer.ensures

pub returns-in-Datetime : goal.returns-in-Datetime
returns-in-Datetime c =
    integer-datetime _ _ c.class_of.ensures _ c.in-Datetime.is

pub returns-in-Other : goal.returns-in-Other
returns-in-Other c =
    integer-other _ _ c.class_of.ensures _ c.in-Other.is
