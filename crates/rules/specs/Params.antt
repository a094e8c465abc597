-- What leaf types have beside their kinds, compared: the zones of date-times (document 01, 21), precision and scale of
-- decimals (document 02, L1).
use Rattle.std.specs.Prelude.{Bool, true, false, ◌&&◌, eqb, ltb}
use Rattle.layout.specs.Bytes.{Bytes}
use Rattle.layout.specs.declared.leaf.Decimal.{Decimal}
use Rattle.layout.specs.declared.leaf.Leaf.{Leaf}
use Rattle.rules.specs.declared.params.Params.{Params}
use Rattle.rules.specs.declared.params.Params.TheVariants.{Identical, SameAsUtc, Widened, Different}
use Rattle.rules.specs.code.Choice.{when◌then◌else◌}
use Rattle.rules.specs.Zones.{zones_of}
use Rattle.rules.specs.Classes.{is_decimal}

-- "a larger precision at the same scale"
abbrev pub widens : Decimal → Decimal → Bool
widens d e = eqb d.scale e.scale && ltb d.precision e.precision

abbrev pub same_decimal : Decimal → Decimal → Bool
same_decimal d e = eqb d.scale e.scale && eqb d.precision e.precision

unfoldable pub decimals_of : Decimal → Decimal → Params
decimals_of d e = when widens d e then Widened else when same_decimal d e then Identical else Different

-- a leaf's precision and scale; a leaf that is no decimal has none
abbrev pub decimal_of : Leaf → Decimal
decimal_of Leaf.Null = record { precision = 0; scale = 0 }
decimal_of Leaf.Boolean = record { precision = 0; scale = 0 }
decimal_of (Leaf.Integer i) = record { precision = 0; scale = 0 }
decimal_of (Leaf.Float f) = record { precision = 0; scale = 0 }
decimal_of Leaf.Date = record { precision = 0; scale = 0 }
decimal_of (Leaf.Datetime u) = record { precision = 0; scale = 0 }
decimal_of Leaf.String = record { precision = 0; scale = 0 }
decimal_of Leaf.Binary = record { precision = 0; scale = 0 }
decimal_of Leaf.Categorical = record { precision = 0; scale = 0 }
decimal_of (Leaf.Decimal d) = d

-- between two decimals these, else the zones
unfoldable pub params_of : Leaf → Bytes → Leaf → Bytes → Params
params_of i z t w = when is_decimal i && is_decimal t then decimals_of (decimal_of i) (decimal_of t) else zones_of z w

abbrev pub identical : Params → Bool
identical Identical = true
identical SameAsUtc = false
identical Widened = false
identical Different = false

abbrev pub same_as_utc : Params → Bool
same_as_utc Identical = true
same_as_utc SameAsUtc = true
same_as_utc Widened = false
same_as_utc Different = false

abbrev pub widened : Params → Bool
widened Identical = false
widened SameAsUtc = false
widened Widened = true
widened Different = false
