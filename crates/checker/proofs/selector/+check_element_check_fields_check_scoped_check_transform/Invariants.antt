use Prim.Native.Nat.{◌+◌, ◌*◌, ◌-◌}
use Rattle.walk.specs.code.Walks.{rank}
use Rattle.checker.proofs.Selecting.{Passing}
use Rattle.checker.proofs.selector.+check_element_check_fields_check_scoped_check_transform.Given as goal

abbrev pub decreases-check_element : goal.decreases-check_element
decreases-check_element l = 4 * rank l.w + 1

abbrev pub decreases-check_fields : goal.decreases-check_fields
decreases-check_fields l = 4 * rank l.w + 1

abbrev pub decreases-check_scoped : goal.decreases-check_scoped
decreases-check_scoped l = 4 * rank l.w + 3

abbrev pub decreases-check_transform : goal.decreases-check_transform
decreases-check_transform l = 4 * rank l.w + 2

abbrev pub invariant-check_fields-loop-k : goal.invariant-check_fields-loop-k
invariant-check_fields-loop-k l = Passing l.incoming l.v l.n l.plan l.w l.count l.scope l.c.at l.fields l.k

abbrev pub decreases-check_fields-loop-k : goal.decreases-check_fields-loop-k
decreases-check_fields-loop-k l = l.count - l.k
