use Rattle.matching.specs.Build.{distinct_names}
use Rattle.builder.proofs.Names.{Passing}
use Rattle.builder.proofs.fields.distinct_few.Given as goal

abbrev pub invariant-loop-left : goal.invariant-loop-left
invariant-loop-left l = Passing l.v l.depth l.s distinct_names l.n l.initial.d.at l.left l.d.at

abbrev pub decreases-loop-left : goal.decreases-loop-left
decreases-loop-left l = l.left
