use Prim.Native.Nat.{◌-◌}
use Rattle.layout.specs.Limits.{deepest}
use Rattle.builder.specs.code.Bundles.{FieldsAt}
use Rattle.calls.proofs.Seeking.{Seeking}
use Rattle.calls.proofs.extra.first_extra.Given as goal

abbrev pub invariant-loop-i : goal.invariant-loop-i
invariant-loop-i l = (Q : FieldsAt l.build.target deepest l.target l.fields) → Seeking l.build.matching l.v Q.columns l.incoming l.n l.initial.c.at l.c.at l.i

abbrev pub decreases-loop-i : goal.decreases-loop-i
decreases-loop-i l = l.n - l.i
