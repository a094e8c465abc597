use Rattle.matching.specs.Build.{no_extra_of}
use Rattle.builder.specs.code.Bundles.{FieldsAt}
use Rattle.builder.proofs.Names.{Passing}
use Rattle.builder.proofs.fields.no_extra_in.Given as goal

abbrev pub invariant-loop-left : goal.invariant-loop-left
invariant-loop-left l = (Q : FieldsAt l.build.target l.rows.depth l.target l.rows.target) → Passing l.v l.rows.depth l.incoming
    (λ cs. no_extra_of l.build.matching cs Q.columns) l.rows.incoming.count l.initial.c.at
    l.left l.c.at

abbrev pub decreases-loop-left : goal.decreases-loop-left
decreases-loop-left l = l.left
