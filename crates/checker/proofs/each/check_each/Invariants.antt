use Rattle.checker.proofs.Topping.{Going}
use Prim.Native.Nat.{◌-◌}
use Rattle.checker.proofs.each.check_each.Given as goal

abbrev pub invariant-loop-k : goal.invariant-loop-k
invariant-loop-k l = Going l.incoming l.v l.n l.plan l.count 7 l.target l.vt l.m l.initial.b.at l.d.at l.b.at l.same l.k

abbrev pub decreases-loop-k : goal.decreases-loop-k
decreases-loop-k l = l.count - l.k
