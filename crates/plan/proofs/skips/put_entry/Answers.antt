use Prim.Native.Nat.{◌+◌, ◌*◌}
use mathlib.Core.Path.{refl}
use lib.ListN.{set, length-set}
use native.Mathlib.Omega.{arith}
use Rattle.plan.proofs.Skipping.{skips-put, length-written}
use Rattle.plan.proofs.skips.put_entry.Goals as goal

pub bounds-skips-k-2 : goal.bounds-skips-k-2
bounds-skips-k-2 c =
    let l = length-set c.args.skips.now (2304 + 3 * c.args.i) c.args.from in omega (arith, l, c.requires)

pub bounds-skips-k-3 : goal.bounds-skips-k-3
bounds-skips-k-3 c =
    let k = 2304 + 3 * c.args.i in
    let l = length-set c.args.skips.now k c.args.from in
    let m = length-set (set c.args.skips.now k c.args.from) (k + 1) c.args.count in omega (arith, l, m, c.requires)

pub returns : goal.returns
returns c =
    ((λ s T P. skips-put T c.args.i _ _ _ _ refl (omega (arith, c.requires)) P), length-written c.args.skips.now _ _ _ _ _ _)
