-- `rules::pair::leaf_pair` meets its contract: the table agrees with the chain at the pair that is looked up.
use mathlib.Core.Path.{◌∙◌}
use native.Mathlib.Omega.{arith}
use Rattle.rules.proofs.Agree.{looked_up, row_within}
use Rattle.rules.proofs.pair.leaf_pair.Goals as goal

pub bounds-rules-row : goal.bounds-rules-row
bounds-rules-row c =
    row_within c.args.incoming c.args.target c.kind-i.ensures c.kind-t.ensures

pub bounds-rules-column : goal.bounds-rules-column
bounds-rules-column c =
    omega arith

pub returns : goal.returns
returns c =
    c.apply_rule.ensures ∙ looked_up c.table-rules.ensures c.args.p c.args.z c.args.incoming c.args.target c.kind-i.ensures c.kind-t.ensures
    c.lossless.ensures
