use Prim.Native.Nat.{◌-◌}
use Rattle.defaults.proofs.Indexing.{Following}
use Rattle.defaults.proofs.read.find_entry.Given as goal

abbrev pub invariant-loop-i : goal.invariant-loop-i
invariant-loop-i l = Following l.version l.owner l.id l.kind l.s l.index l.n l.i l.x

abbrev pub decreases-loop-i : goal.decreases-loop-i
decreases-loop-i l = l.n - l.i
