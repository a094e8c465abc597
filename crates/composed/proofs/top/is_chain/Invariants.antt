use Rattle.walk.specs.code.Stands.{SelectorAt}
use lib.ListN.{length}
use Prim.Native.Nat.{◌-◌}
use Rattle.composed.proofs.top.is_chain.Given as goal

abbrev pub invariant-loop-input : goal.invariant-loop-input
invariant-loop-input l = SelectorAt l.plan l.d.at

abbrev pub decreases-loop-input : goal.decreases-loop-input
decreases-loop-input l = length l.plan - l.d.at
