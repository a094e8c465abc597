-- `builder::leaf::leaf_rule` meets its contract. Assumes nothing.
use Rattle.builder.proofs.Matching.{rule_spans}
use Rattle.builder.proofs.leaf.leaf_rule.Goals as goal

pub returns : goal.returns
returns c =
    rule_spans c.args.policy c.args.incoming.now c.args.target.now c.args.l c.args.u c.leaf_type_pair.ensures
