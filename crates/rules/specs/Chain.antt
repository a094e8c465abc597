-- Document 01, "Leaf pairs", and document 02, L1: the chain of policy tests, in the order of source 000's
-- `attach_transforms` after its nested types.
use Rattle.std.specs.Prelude.{Bool, true, not, ◌&&◌, ◌||◌, eqb, ltb}
use Rattle.layout.specs.declared.leaf.TimeUnit.{TimeUnit}
use Rattle.layout.specs.declared.leaf.TimeUnit.TheVariants.{Nanoseconds, Microseconds, Milliseconds}
use Rattle.layout.specs.declared.leaf.Leaf.{Leaf}
use Rattle.rules.specs.declared.policy.Policy.{Policy}
use Rattle.rules.specs.declared.params.Params.{Params}
use Rattle.rules.specs.declared.outcome.CastOption.{CastOption}
use Rattle.rules.specs.declared.outcome.CastOption.TheVariants.{NonStrict, Strict, Overflowing}
use Rattle.rules.specs.code.Choice.{when◌then◌else◌}
use Rattle.rules.specs.Outcomes.{Verdict, untouched, refused, cast, need}
use Rattle.rules.specs.Params.{identical, same_as_utc, widened}
use Rattle.layout.specs.Layout.{unit_code}
use Rattle.rules.specs.Kinds.{kind_of}
use Rattle.rules.specs.Classes.{is_null, is_integer, is_float, precision, is_datetime, unit, is_categorical, is_string, is_decimal}
use Rattle.rules.specs.Promotion.{holds}

-- the types' version 1 forms have the same bytes: one kind, of date-times one zone, of decimals one precision and scale
abbrev pub same_type : Params → Leaf → Leaf → Bool
same_type z i t = eqb (kind_of i) (kind_of t) && (not (is_datetime i || is_decimal i) || identical z)

abbrev pub wider : Leaf → Leaf → Bool
wider t i = ltb (precision i) (precision t)

-- the flag for a pair of units, incoming first; equal units need none
abbrev pub unit_allowed : Policy → TimeUnit → TimeUnit → Bool
unit_allowed p Nanoseconds Nanoseconds = true
unit_allowed p Nanoseconds Microseconds = p.datetime_nanoseconds_downcast
unit_allowed p Nanoseconds Milliseconds = p.datetime_nanoseconds_downcast
unit_allowed p Microseconds Nanoseconds = p.datetime_microseconds_upcast
unit_allowed p Microseconds Microseconds = true
unit_allowed p Microseconds Milliseconds = p.datetime_microseconds_downcast
unit_allowed p Milliseconds Nanoseconds = p.datetime_milliseconds_upcast
unit_allowed p Milliseconds Microseconds = p.datetime_milliseconds_upcast
unit_allowed p Milliseconds Milliseconds = true

-- Strict if the target unit is finer
abbrev pub unit_option : TimeUnit → TimeUnit → CastOption
unit_option i t = when ltb (unit_code t) (unit_code i) then Strict else NonStrict

-- the chain, from the incoming leaf i to the target t
unfoldable pub chain : Policy → Params → Leaf → Leaf → Verdict
chain p z i t =
    when same_type z i t then untouched
    else when is_null i then need p.null_upcast 15 (cast NonStrict)
    else when is_integer i && is_integer t then need p.integer_upcast 16 (need (holds t i) 17 (cast Overflowing))
    else when is_float i && is_float t && wider t i then need p.float_upcast 18 (cast NonStrict)
    else when is_float i && is_float t then need p.float_downcast 19 (cast NonStrict)
    else when is_integer i && is_float t then need p.integer_to_float_cast 20 (cast Overflowing)
    else when is_datetime i && is_datetime t then
    need (p.datetime_convert_timezone || same_as_utc z) 21
    (need (unit_allowed p (unit i) (unit t)) 22
    (cast (unit_option (unit i) (unit t))))
    else when is_categorical i && is_string t then need p.categorical_to_string 23 (cast NonStrict)
    else when is_decimal i && is_decimal t && widened z then need p.decimal_widening 51 (cast NonStrict)
    else refused 24
