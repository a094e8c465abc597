use Rattle.overflow.proofs.Scanning.{Scanning}
use Prim.Native.Nat.{◌+◌, ◌-◌, ◌*◌}
use Rattle.overflow.specs.code.Some.{some_found}
use Rattle.overflow.proofs.scan.+some_at_some_element_some_listed_some_part.Given as goal

abbrev pub decreases-some_at : goal.decreases-some_at
decreases-some_at l = (l.search.len - l.search.from) * 4 + 1

abbrev pub decreases-some_element : goal.decreases-some_element
decreases-some_element l = (l.search.len - l.search.from) * 4 + 2

abbrev pub decreases-some_listed : goal.decreases-some_listed
decreases-some_listed l = (l.search.len - l.search.from) * 4 + 3

abbrev pub decreases-some_part : goal.decreases-some_part
decreases-some_part l = (l.search.len - l.search.from) * 4 + 0

abbrev pub invariant-some_element-loop-i : goal.invariant-some_element-loop-i
invariant-some_element-loop-i l = Scanning l.v l.lay l.n l.t.at l.rec l.initial.d.at (λ x. some_found l.search x) l.i l.d.at

abbrev pub decreases-some_element-loop-i : goal.decreases-some_element-loop-i
decreases-some_element-loop-i l = l.n - l.i
