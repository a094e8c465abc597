-- What the answers of the code stand for.
use Rattle.std.specs.Prelude.{ℕ}
use Rattle.rules.specs.declared.outcome.Mismatch.{Mismatch}
use Rattle.rules.specs.declared.outcome.Mismatch.TheVariants.{NullUpcast, IntegerUpcast, IntegerRange, FloatUpcast, FloatDowncast, IntegerToFloat}
use Rattle.rules.specs.declared.outcome.Mismatch.TheVariants.{TimeZone, UnitCast, CategoricalToString, DecimalWidening, NoRule}
use Rattle.rules.specs.declared.outcome.Outcome.{Outcome}
use Rattle.rules.specs.declared.outcome.Outcome.TheVariants.{Untouched, Refused, Cast}
use Rattle.rules.specs.Outcomes.{Verdict, untouched, refused, cast}

-- the refusal's number
abbrev pub number_of : Mismatch → ℕ
number_of NullUpcast = 15
number_of IntegerUpcast = 16
number_of IntegerRange = 17
number_of FloatUpcast = 18
number_of FloatDowncast = 19
number_of IntegerToFloat = 20
number_of TimeZone = 21
number_of UnitCast = 22
number_of CategoricalToString = 23
number_of DecimalWidening = 51
number_of NoRule = 24

abbrev pub verdict_of : Outcome → Verdict
verdict_of Untouched = untouched
verdict_of (Refused m) = refused (number_of m)
verdict_of (Cast o) = cast o
