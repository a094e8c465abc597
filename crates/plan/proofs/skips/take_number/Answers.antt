-- `plan::skips::take_number` meets its contract: the counts are in no entry. Assumes nothing.
use native.Mathlib.Omega.{arith}
use lib.ListN.{length-set}
use Rattle.plan.proofs.Skipping.{skips-low, skips_high}
use Rattle.plan.proofs.skips.take_number.Goals as goal

pub returns-then-nested : goal.returns-then-nested
returns-then-nested c =
    ((λ s T. skips_high T 4605 _ (omega arith)), length-set c.args.skips.now 4605 _, omega arith)

pub returns : goal.returns
returns c =
    ((λ s T. skips-low T 1024 _ (omega arith) (omega arith)), length-set c.args.skips.now 1024 _, omega arith)
