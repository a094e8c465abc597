-- Document 01, "Leaf pairs", "one table of rules": what each rule number of the table stands for, and that a table
-- agrees with the chain.
use Rattle.std.specs.Prelude.{◌≡◌, ℕ, ◌+◌, ◌*◌, ◌/◌, ◌%◌, Bool, true, ◌||◌, List, [], ◌∷◌, get_or}
use Rattle.layout.specs.declared.leaf.Leaf.{Leaf}
use Rattle.rules.specs.declared.policy.Policy.{Policy}
use Rattle.rules.specs.declared.params.Params.{Params}
use Rattle.rules.specs.declared.outcome.CastOption.{CastOption}
use Rattle.rules.specs.declared.outcome.CastOption.TheVariants.{NonStrict, Strict, Overflowing}
use Rattle.rules.specs.code.Choice.{when◌then◌else◌}
use Rattle.rules.specs.Outcomes.{Verdict, untouched, refused, cast, need}
use Rattle.rules.specs.Params.{identical, same_as_utc, widened}
use Rattle.rules.specs.Kinds.{kind_of}
use Rattle.rules.specs.Promotion.{promotes}
use Rattle.rules.specs.Chain.{chain}

-- an integer pair, whose target has every incoming value or not
abbrev pub integers : Bool → Bool → Verdict
integers flag fits = need flag 16 (need fits 17 (cast Overflowing))

-- a date-time pair: the zones' test, then the flag for the units
abbrev pub datetimes : Policy → Params → Bool → CastOption → Verdict
datetimes p z flag o = need (p.datetime_convert_timezone || same_as_utc z) 21 (need flag 22 (cast o))

-- a decimal pair
abbrev pub decimals : Bool → Params → Verdict
decimals flag z = when identical z then untouched else when widened z then need flag 51 (cast NonStrict) else refused 24

-- what each rule number stands for, from 0; a new rule is added at the end
abbrev pub rules : Policy → Params → Bool → List Verdict
rules p z fits =
    refused 24
    ∷ untouched
    ∷ need p.null_upcast 15 (cast NonStrict)
    ∷ integers p.integer_upcast fits
    ∷ need p.float_upcast 18 (cast NonStrict)
    ∷ need p.float_downcast 19 (cast NonStrict)
    ∷ need p.integer_to_float_cast 20 (cast Overflowing)
    ∷ (when identical z then untouched else datetimes p z true NonStrict)
    ∷ datetimes p z p.datetime_nanoseconds_downcast NonStrict
    ∷ datetimes p z p.datetime_microseconds_downcast NonStrict
    ∷ datetimes p z p.datetime_microseconds_upcast Strict
    ∷ datetimes p z p.datetime_milliseconds_upcast Strict
    ∷ need p.categorical_to_string 23 (cast NonStrict)
    ∷ decimals p.decimal_widening z
    ∷ []

abbrev pub rule_of : Policy → Params → Bool → ℕ → Verdict
rule_of p z fits n = get_or (rules p z fits) n (refused 24)

-- the rule number of a pair of kinds, in three rows of seven targets for each incoming kind
abbrev pub entry : List (List ℕ) → Leaf → Leaf → ℕ
entry xs i t = get_or (get_or xs (3 * kind_of i + kind_of t / 7) []) (kind_of t % 7) 0

-- a table of rule numbers agrees with the chain at every policy and pair
pub record Agrees (xs : List (List ℕ)) : Type 0 where
  pub at : (p : Policy) (z : Params) (i t : Leaf) → rule_of p z (promotes (kind_of i) (kind_of t)) (entry xs i t) ≡ chain p z i t
