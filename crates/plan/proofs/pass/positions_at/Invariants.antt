use Prim.Native.Nat.{◌-◌, ◌≤◌}
use Rattle.plan.specs.code.Skips.{PassTo}
use Rattle.plan.proofs.pass.positions_at.Given as goal

abbrev pub invariant-loop-count : goal.invariant-loop-count
invariant-loop-count l = (l.count ≤ l.most) × PassTo 64 l.s l.initial.to l.count l.to

abbrev pub decreases-loop-count : goal.decreases-loop-count
decreases-loop-count l = l.most - l.count
