-- `rules::pair::leaf_type_pair` meets its contract: what counts beside the kinds counts of the leaf types.
use mathlib.Core.Path.{ap, ◌∙◌}
use Rattle.rules.specs.declared.params.Params.{Params}
use Rattle.rules.specs.Chain.{chain}
use Rattle.rules.proofs.PairRule.{pair_of_leaves}
use Rattle.rules.proofs.pair.leaf_type_pair.Goals as goal

pub returns : goal.returns
returns c =
    c.leaf_pair.ensures
    ∙ ap (λ (z : Params). chain c.args.p z c.args.incoming c.args.target) c.compare_params.ensures
    ∙ pair_of_leaves c.args.p c.args.incoming c.args.target _ _
