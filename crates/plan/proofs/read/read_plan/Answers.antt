use Rattle.plan.proofs.Moves.{plan_big, plan-short, plan_marked, plan_unmarked}
use native.Mathlib.Omega.{arith}
use lib.Seq.{length-take-le}
use mathlib.Core.Path.{sym}
use Rattle.plan.proofs.read.read_plan.Goals as goal

pub returns-then-s-gt-LONGEST_PLAN : goal.returns-then-s-gt-LONGEST_PLAN
returns-then-s-gt-LONGEST_PLAN c =
    search plan_big

pub returns-then-s-lt5 : goal.returns-then-s-lt5
returns-then-s-lt5 c =
    search plan-short

pub slice_bounds-same_bytes-end : goal.slice_bounds-same_bytes-end
slice_bounds-same_bytes-end c =
    sym (length-take-le 5 c.args.s.now (omega arith))

pub returns-then-same_bytes : goal.returns-then-same_bytes
returns-then-same_bytes c =
    search plan_marked

pub returns-else-same_bytes : goal.returns-else-same_bytes
returns-else-same_bytes c =
    search plan_unmarked
