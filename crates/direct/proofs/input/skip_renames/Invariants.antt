use Rattle.direct.proofs.Inputs.{Inside}
use lib.ListN.{length}
use Prim.Native.Nat.{◌-◌}
use Rattle.direct.proofs.input.skip_renames.Given as goal

abbrev pub invariant-loop-input : goal.invariant-loop-input
invariant-loop-input l = Inside l.plan l.initial.d.at l.d.at

abbrev pub decreases-loop-input : goal.decreases-loop-input
decreases-loop-input l = length l.plan - l.d.at
