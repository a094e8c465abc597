-- Document 01, "Leaf pairs", and document 02, L1: what becomes of a pair, the number of each refusal, and the option
-- codes of "Plans, check and run".
use Rattle.std.specs.Prelude.{ℕ, Bool, List, [], ◌∷◌, get_or}
use Rattle.rules.specs.declared.outcome.CastOption.{CastOption}
use Rattle.rules.specs.declared.outcome.CastOption.TheVariants.{NonStrict, Strict, Overflowing}
use Rattle.rules.specs.declared.outcome.OptionCode.{OptionCode}
use Rattle.rules.specs.declared.outcome.OptionCode.TheVariants.{Known, Unknown}
use Rattle.rules.specs.code.Choice.{when◌then◌else◌}

-- an outcome in the document's terms
pub data Verdict : Type 0 where
  untouched : Verdict
  refused : ℕ → Verdict
  cast : CastOption → Verdict

-- the policy allows it, or the refusal n
abbrev pub need : Bool → ℕ → Verdict → Verdict
need b n v = when b then v else refused n

-- the option's byte in a plan
abbrev pub option_code : CastOption → ℕ
option_code NonStrict = 0
option_code Strict = 1
option_code Overflowing = 2

-- each code is a place in the list
abbrev pub options : List OptionCode
options = Known NonStrict ∷ Known Strict ∷ Known Overflowing ∷ []

abbrev pub option_at : ℕ → OptionCode
option_at code = get_or options code Unknown
