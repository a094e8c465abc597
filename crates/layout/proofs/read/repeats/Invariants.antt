use Prim.Native.Nat.{◌-◌}
use Rattle.layout.specs.code.Answers.{label_at}
use Rattle.layout.proofs.Reading.{Scanning}
use Rattle.layout.proofs.read.repeats.Given as goal

abbrev pub invariant-loop-i : goal.invariant-loop-i
invariant-loop-i l = Scanning l.v l.rule l.depth (label_at l.s l.l) l.s l.n l.initial.d.at l.i l.d.at

abbrev pub decreases-loop-i : goal.decreases-loop-i
decreases-loop-i l = l.n - l.i
