use Rattle.overflow.proofs.Seeking.{Going}
use Rattle.walk.specs.code.Walks.{rank}
use Rattle.overflow.proofs.seek.seek.Given as goal

abbrev pub invariant-loop-next : goal.invariant-loop-next
invariant-loop-next l = Going l.lay l.columns l.rec l.plan l.initial.x l.initial.asks l.x l.asks

abbrev pub decreases-loop-next : goal.decreases-loop-next
decreases-loop-next l = rank l.x
