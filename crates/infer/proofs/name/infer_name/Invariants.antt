use Prim.Native.Nat.{◌-◌}
use lib.ListN.{length}
use Rattle.infer.proofs.Names.{Inner}
use Rattle.infer.proofs.name.infer_name.Given as goal

abbrev pub invariant-loop-name : goal.invariant-loop-name
invariant-loop-name l = Inner l.s l.source.edition l.source.scope l.index l.source.stride l.plan l.initial.d.at l.d.at

abbrev pub decreases-loop-name : goal.decreases-loop-name
decreases-loop-name l = length l.plan - l.d.at
