-- `convert::leaf::convert_leaf` meets its contract: a law for each kind of number. Assumes nothing.
use Rattle.convert.proofs.Pairs.{from_integer_lem, from_float, from-datetime, from-other}
use Rattle.convert.proofs.leaf.convert_leaf.Goals as goal

pub returns-in-Integer : goal.returns-in-Integer
returns-in-Integer c =
    from_integer_lem _ _ _ c.class_of.ensures c.in-Integer.is c.convert_integer.ensures

pub returns-in-Float : goal.returns-in-Float
returns-in-Float c =
    from_float _ _ _ c.class_of.ensures c.in-Float.is c.convert_float.ensures

pub returns-in-Datetime : goal.returns-in-Datetime
returns-in-Datetime c =
    from-datetime _ _ _ c.class_of.ensures c.in-Datetime.is c.convert_datetime.ensures

pub returns-in-Other : goal.returns-in-Other
returns-in-Other c =
    from-other _ _ _ c.class_of.ensures c.in-Other.is
