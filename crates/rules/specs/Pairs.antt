-- Document 01, "Leaf pairs", for leaf types: the chain at their kinds, with their zones, precisions and scales
-- compared; and of "Plans, check and run" the test of a cast.
use Rattle.std.specs.Prelude.{Bool, false, eqb}
use Rattle.layout.specs.Tree.{LeafType, leaf_of, zone_of}
use Rattle.rules.specs.declared.policy.Policy.{Policy}
use Rattle.rules.specs.declared.outcome.CastOption.{CastOption}
use Rattle.rules.specs.Policies.{all_on}
use Rattle.rules.specs.Outcomes.{Verdict, untouched, refused, cast, option_code}
use Rattle.rules.specs.Params.{params_of}
use Rattle.rules.specs.Chain.{chain}

-- what becomes of a leaf of the type i under the target type t
unfoldable pub pair_rule : Policy → LeafType → LeafType → Verdict
pair_rule p i t = chain p (params_of (leaf_of i) (zone_of i) (leaf_of t) (zone_of t)) (leaf_of i) (leaf_of t)

abbrev pub has_option : CastOption → Verdict → Bool
has_option o untouched = false
has_option o (refused n) = false
has_option o (cast o') = eqb (option_code o') (option_code o)

-- a cast passes if its leaf pair, flags all on, has that option
unfoldable pub cast_passes : LeafType → LeafType → CastOption → Bool
cast_passes i t o = has_option o (pair_rule all_on i t)
