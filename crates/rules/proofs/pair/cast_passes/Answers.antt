-- `rules::pair::cast_passes` meets its contract: the leaf pair with every flag on, and then its option.
use mathlib.Core.Path.{◌≡◌, ap, ◌∙◌}
use mathlib.Core.Bool.{Bool}
use Rattle.layout.specs.Tree.{LeafType}
use Rattle.rules.specs.declared.policy.Policy.{Policy}
use Rattle.rules.specs.declared.outcome.CastOption.{CastOption}
use Rattle.rules.specs.Policies.{all_on}
use Rattle.rules.specs.Outcomes.{Verdict}
use Rattle.rules.specs.Pairs.{pair_rule, has_option, cast_passes}
use Rattle.rules.proofs.pair.cast_passes.Goals as goal

judged : (i t : LeafType) (o : CastOption) (p : Policy) (v : Verdict) {b : Bool} → b ≡ has_option o v → v ≡ pair_rule p i t → p ≡ all_on → b ≡ cast_passes i t o
unfolding cast_passes
judged i t o p v e f g = e ∙ ap (has_option o) (f ∙ ap (λ (p : Policy). pair_rule p i t) g)

pub returns : goal.returns
returns c =
    judged _ _ _ _ _ c.has_option.ensures c.leaf_type_pair-r.ensures c.all_on.ensures
