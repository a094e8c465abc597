-- What each answer of the code stands for.
use Rattle.std.specs.Prelude.{◌<◌}
use Rattle.layout.specs.declared.leaf.Leaf.{Leaf}
use Rattle.values.specs.Value.{Value, vnumber, voverflow}
use Rattle.plan.specs.Convert as conversions
use Rattle.convert.specs.declared.leaf.UnitChange.{UnitChange}
use Rattle.convert.specs.declared.leaf.Converted.{Converted}

abbrev pub change_of : UnitChange → conversions.UnitChange
change_of (UnitChange.Multiply f) = conversions.multiply f
change_of (UnitChange.Divide f) = conversions.divide f
change_of UnitChange.Keep = conversions.keep

-- a factor is not 0
abbrev pub Positive : UnitChange → Type 0
Positive (UnitChange.Multiply f) = 0 < f
Positive (UnitChange.Divide f) = 0 < f
Positive UnitChange.Keep = Unit {0}

-- a number of the kind k, or a date-time that is too large
abbrev pub value_of : Leaf → Converted → Value
value_of k (Converted.Number n) = vnumber k n
value_of k Converted.Overflow = voverflow
