use Prim.Native.Nat.{◌-◌}
use Rattle.plan.specs.Read.{selector}
use Rattle.plan.proofs.Moves.{Passing}
use Rattle.plan.proofs.pass.pass_selectors.Given as goal

abbrev pub invariant-loop-i : goal.invariant-loop-i
invariant-loop-i l = Passing (selector 64) l.s l.n l.initial.d.at l.i l.d.at

abbrev pub decreases-loop-i : goal.decreases-loop-i
decreases-loop-i l = l.n - l.i
