use Prim.Native.Nat.{◌-◌}
use Rattle.direct.proofs.Rows.{Fitting}
use Rattle.infer.proofs.target.fit_tops.Given as goal

abbrev pub invariant-loop-i : goal.invariant-loop-i
invariant-loop-i l = Fitting l.s l.source.edition l.source.scope l.index l.source.stride l.plan l.n l.initial.d.at l.target l.vt l.initial.b.at l.i l.d.at l.b.at

abbrev pub decreases-loop-i : goal.decreases-loop-i
decreases-loop-i l = l.n - l.i
