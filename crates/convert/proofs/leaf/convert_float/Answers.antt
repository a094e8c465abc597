-- `convert::leaf::convert_float` meets its contract: a law for each kind of target. Assumes nothing.
use Rattle.convert.proofs.Pairs.{float-integer, float-float, float-datetime, float-other}
use Rattle.convert.proofs.leaf.convert_float.Goals as goal

pub returns-in-Integer : goal.returns-in-Integer
returns-in-Integer c =
    float-integer _ _ c.class_of.ensures _ c.in-Integer.is

pub returns-in-Float : goal.returns-in-Float
returns-in-Float c =
    float-float _ _ c.class_of.ensures _ c.in-Float.is c.convert.ensures

pub returns-in-Datetime : goal.returns-in-Datetime
returns-in-Datetime c =
    float-datetime _ _ c.class_of.ensures _ c.in-Datetime.is

pub returns-in-Other : goal.returns-in-Other
returns-in-Other c =
    float-other _ _ c.class_of.ensures _ c.in-Other.is
