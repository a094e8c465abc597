use Rattle.walk.specs.code.Stands.{SelectorAt}
use lib.ListN.{length}
use Prim.Native.Nat.{◌-◌}
use Rattle.composed.proofs.compose.innermost.Given as goal

abbrev pub invariant-loop-d : goal.invariant-loop-d
invariant-loop-d l = SelectorAt l.plan l.d.at

abbrev pub decreases-loop-d : goal.decreases-loop-d
decreases-loop-d l = length l.plan - l.d.at
