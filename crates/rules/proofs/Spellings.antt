-- Document 02, L2, over the definitions: the spellings of UTC against each other and against texts that are near them.
use mathlib.Core.Path.{◌≡◌, refl}
use mathlib.Core.List.{List, [], ◌∷◌}
use Rattle.layout.specs.Bytes.{Bytes, same_bytes}
use Rattle.layout.specs.Tree.{datetime}
use Rattle.layout.specs.declared.leaf.TimeUnit.TheVariants.{Nanoseconds, Microseconds, Milliseconds}
use Rattle.rules.specs.declared.outcome.CastOption.TheVariants.{NonStrict, Strict}
use Rattle.rules.specs.Policies.{all_on, policy_of}
use Rattle.rules.specs.Outcomes.{Verdict, untouched, refused, cast}
use Rattle.rules.specs.Zones.{utc, etc_utc, text_z, utc_zones, is_utc, read_zone, zones_of}
use Rattle.rules.specs.Params.{params_of, decimals_of}
use Rattle.rules.specs.Chain.{chain}
use Rattle.rules.specs.Pairs.{pair_rule}
use Rattle.rules.proofs.Grid.{along, grid}

-- date-times of one unit, no flag on
abbrev judged : Bytes → Bytes → Verdict
judged a b = pair_rule (policy_of 0) (datetime Microseconds a) (datetime Microseconds b)

-- opens every definition that a sample computes through
opened : List Bytes → List (List Verdict)
unfolding pair_rule chain params_of decimals_of zones_of read_zone is_utc same_bytes
opened zs = grid judged zs zs

-- none is another zone; a cast is planned, since the types are unequal
sixteen : grid judged utc_zones utc_zones
    ≡ ((untouched ∷ cast NonStrict ∷ cast NonStrict ∷ cast NonStrict ∷ [])
    ∷ (cast NonStrict ∷ untouched ∷ cast NonStrict ∷ cast NonStrict ∷ [])
    ∷ (cast NonStrict ∷ cast NonStrict ∷ untouched ∷ cast NonStrict ∷ [])
    ∷ (cast NonStrict ∷ cast NonStrict ∷ cast NonStrict ∷ untouched ∷ [])
    ∷ [])
unfolding opened
sixteen = refl

-- `utc`, `Zulu`, `UTC` with a space, `ETC/UTC`
abbrev near : List Bytes
near = (117 ∷ 116 ∷ 99 ∷ []) ∷ (90 ∷ 117 ∷ 108 ∷ 117 ∷ []) ∷ (85 ∷ 84 ∷ 67 ∷ 32 ∷ []) ∷ (69 ∷ 84 ∷ 67 ∷ 47 ∷ 85 ∷ 84 ∷ 67 ∷ []) ∷ []

abbrev all_21 : List Verdict
all_21 = refused 21 ∷ refused 21 ∷ refused 21 ∷ refused 21 ∷ []

near_to-utc : grid judged near utc_zones ≡ (all_21 ∷ all_21 ∷ all_21 ∷ all_21 ∷ [])
unfolding opened
near_to-utc = refl

utc-to_near : grid judged utc_zones near ≡ (all_21 ∷ all_21 ∷ all_21 ∷ all_21 ∷ [])
unfolding opened
utc-to_near = refl

-- the unit's flag is still asked for
units_too : pair_rule (policy_of 0) (datetime Milliseconds text_z) (datetime Nanoseconds etc_utc) ≡ refused 22
unfolding opened
units_too = refl

finer-unit : pair_rule (policy_of 512) (datetime Milliseconds text_z) (datetime Nanoseconds etc_utc) ≡ cast Strict
unfolding opened
finer-unit = refl

-- with every flag on, as the check judges, another zone is the same cast
any_zone : along (λ z. pair_rule all_on (datetime Microseconds text_z) (datetime Microseconds z)) (utc ∷ near) ≡
    (cast NonStrict ∷ cast NonStrict ∷ cast NonStrict ∷ cast NonStrict ∷ cast NonStrict ∷ [])
unfolding opened
any_zone = refl
