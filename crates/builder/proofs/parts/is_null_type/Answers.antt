-- `builder::parts::is_null_type` meets its contract. Assumes nothing.
use Rattle.matching.specs.Build.{leaf_part}
use Rattle.builder.proofs.Matching.{null-part, part-other, null-other}
use Rattle.builder.proofs.parts.is_null_type.Goals as goal

pub returns-in-Is : goal.returns-in-Is
returns-in-Is c =
    λ v d P. null-part c.args.s.now P.tree
    (c.leaf_part.ensures v d P) c.in-Is.is c.kind.ensures

pub returns-in-Mismatch : goal.returns-in-Mismatch
returns-in-Mismatch c =
    λ v d P. null-other P.tree (part-other c.args.s.now (leaf_part P.tree)
    (c.leaf_part.ensures v d P) c.in-Mismatch.is)
