-- `plan::skips::keep_end` meets its contract: one pair more that is true. Assumes nothing.
use native.Mathlib.Omega.{arith}
use Prim.Native.Nat.{◌*◌, ◌/◌}
use mathlib.Core.Path.{refl}
use lib.ListN.{length-set}
use Rattle.plan.proofs.Skipping.{told, constant-kept, length_two}
use mathlib.Core.Path.{ap}
use mathlib.Core.Bool.{not}
use Rattle.plan.proofs.skips.keep_end.Goals as goal

pub overflow_sub-n : goal.overflow_sub-n
overflow_sub-n c =
    let h = c.is_long.ensures (told _ (ap not c.if-not-is_long.false)) in omega (arith, h)

pub bounds-skips-i-2 : goal.bounds-skips-i-2
bounds-skips-i-2 c =
    let l = length-set c.args.skips.now (c.args.at.at / 128 * 2) c.args.at.at in omega (arith, l)

pub returns : goal.returns
returns c =
    let h = c.is_long.ensures (told _ (ap not c.if-not-is_long.false)) in
    ((λ s T R. constant-kept T c.args.at.at _ _ refl (omega arith) (omega arith) (omega (arith, h)) R), length_two c.args.skips.now _ _ _ _)
