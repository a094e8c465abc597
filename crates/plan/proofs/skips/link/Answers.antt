-- `plan::skips::link` meets its contract: what it writes is in no entry. Assumes nothing.
use native.Mathlib.Omega.{arith}
use Prim.Native.Nat.{◌+◌, ◌/◌}
use lib.ListN.{get_or, length-set}
use Rattle.plan.proofs.Skipping.{skips-low, length_two}
use Rattle.plan.proofs.skips.link.Goals as goal

pub bounds-skips-head-2 : goal.bounds-skips-head-2
bounds-skips-head-2 c =
    let l = length-set c.args.skips.now (1537 + c.args.i) (get_or c.args.skips.now (1025 + c.args.from / 128) 0) in omega (arith, l, c.requires)

pub returns : goal.returns
returns c = (
  (λ s T. skips-low (skips-low T _ _ (omega arith) (omega (arith, c.requires))) _ _ (omega arith) (omega (arith, c.requires))),
  length_two c.args.skips.now _ _ _ _,
)
