-- `builder::leaf::attach_leaf` meets its contract. Assumes nothing.
use Rattle.matching.specs.Build.{leaf_part}
use Rattle.builder.proofs.Matching.{part-leaf, part-other, leaf-ruled, leaf-refused, makes-refused, makes_as}
use Rattle.builder.proofs.leaf.attach_leaf.Goals as goal

pub returns-in_default : goal.returns-in_default
returns-in_default c =
    λ d P Q. makes-refused _ _ _ _ _ (leaf-refused c.args.build.matching c.args.build.policy d c.args.types.place.position P.tree
    (c.requires.span_in.1 Q) (part-other c.args.incoming.now (leaf_part P.tree) (c.leaf_part.ensures c.args.build.incoming
    c.args.types.depth P) c.in_default.is))

pub leaf_rule-outcome-requires : goal.leaf_rule-outcome-requires
leaf_rule-outcome-requires c = (
  (part-leaf c.args.incoming.now (leaf_part c.requires.types_at.0.tree) (c.leaf_part.ensures c.args.build.incoming c.args.types.depth
      c.requires.types_at.0) c.in-Is.is).1,
  c.requires.span_in.0,
)

pub returns : goal.returns
returns c =
    λ d P Q. makes_as _ _ _ _ _ _ (leaf-ruled c.args.build.matching c.args.build.policy d c.args.types.place.position P.tree
    (c.requires.span_in.1 Q) (part-leaf c.args.incoming.now (leaf_part P.tree) (c.leaf_part.ensures c.args.build.incoming
    c.args.types.depth P) c.in-Is.is).0 c.leaf_rule-outcome.ensures) (c.apply_outcome.ensures Q)
