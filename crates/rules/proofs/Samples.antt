-- Document 01, "Samples for the table of cases": S2, S3 and S4, and the options of S5 and S7, over the definitions.
use mathlib.Core.Path.{◌≡◌, refl}
use mathlib.Core.List.{[]}
use Rattle.layout.specs.Bytes.{same_bytes}
use Rattle.layout.specs.Tree.{LeafType, datetime, integer}
use Rattle.layout.specs.declared.leaf.TimeUnit.TheVariants.{Nanoseconds, Microseconds, Milliseconds}
use Rattle.rules.specs.declared.outcome.CastOption.TheVariants.{NonStrict, Strict, Overflowing}
use Rattle.rules.specs.Policies.{all_on, policy_of}
use Rattle.rules.specs.Outcomes.{Verdict, refused, cast}
use Rattle.rules.specs.Zones.{utc, is_utc, read_zone, zones_of}
use Rattle.rules.specs.Params.{params_of, decimals_of}
use Rattle.rules.specs.Chain.{chain}
use Rattle.rules.specs.Pairs.{pair_rule}
use Rattle.numeric.specs.declared.integers.Integer.TheVariants.{Int32, Int64, UInt32}

-- opens every definition that a sample computes through
checked : LeafType → LeafType → Verdict
unfolding pair_rule chain params_of decimals_of zones_of read_zone is_utc same_bytes
checked i t = pair_rule all_on i t

S2 : pair_rule all_on (integer UInt32) (integer Int32) ≡ refused 17
unfolding checked
S2 = refl

S3 : pair_rule all_on (integer UInt32) (integer Int64) ≡ cast Overflowing
unfolding checked
S3 = refl

-- no zone, and the zone UTC: the types differ, so it is a cast
S4 : pair_rule all_on (datetime Microseconds []) (datetime Microseconds utc) ≡ cast NonStrict
unfolding checked
S4 = refl

-- and no zone change: it needs no flag
S4-no-flags : pair_rule (policy_of 0) (datetime Microseconds []) (datetime Microseconds utc) ≡ cast NonStrict
unfolding checked
S4-no-flags = refl

S5 : pair_rule all_on (datetime Milliseconds []) (datetime Nanoseconds []) ≡ cast Strict
unfolding checked
S5 = refl

S7 : pair_rule all_on (datetime Nanoseconds []) (datetime Microseconds []) ≡ cast NonStrict
unfolding checked
S7 = refl

-- the word with the sixteen bits set allows everything; bits above have no meaning
word-all_on : policy_of 65535 ≡ all_on
word-all_on = refl

word-bits-above : policy_of 65536 ≡ policy_of 0
word-bits-above = refl
