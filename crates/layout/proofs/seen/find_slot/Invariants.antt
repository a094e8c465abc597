use Prim.Native.Nat.{◌-◌}
use Rattle.layout.specs.code.Answers.{label_at}
use Rattle.layout.proofs.Noting.{Searching}
use Rattle.layout.proofs.seen.find_slot.Given as goal

abbrev pub invariant-loop-i : goal.invariant-loop-i
invariant-loop-i l = Searching l.v l.rule (label_at l.s l.l) l.s l.seen l.h l.i

abbrev pub decreases-loop-i : goal.decreases-loop-i
decreases-loop-i l = l.n - l.i
