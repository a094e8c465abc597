-- `values::leaf::number_at` meets its contract: the loop keeps `Adding`. Assumes nothing.
use Prim.Native.Nat.{◌+◌, ◌-◌}
use Rattle.values.proofs.Adding.{adding_none, adding_more, adding_below, adding_all}
use native.Mathlib.Omega.{arith}
use Rattle.values.proofs.leaf.number_at.Goals as goal

pub loop-i-init : goal.loop-i-init
loop-i-init c =
    adding_none _ _ _

pub overflow_mul-x : goal.overflow_mul-x
overflow_mul-x c =
    let z = adding_below c.loop-i.invariant c.loop-i-test.true c.requires.w_bound in omega arith

pub overflow_cast-x : goal.overflow_cast-x
overflow_cast-x c =
    omega (arith, c.type_inv.s (c.args.at + (c.loop-i.i - 1)))

pub overflow_add-x-in-loop-i : goal.overflow_add-x-in-loop-i
overflow_add-x-in-loop-i c =
    let z = adding_below c.loop-i.invariant c.loop-i-test.true c.requires.w_bound in omega
    (arith, c.type_inv.s (c.args.at + (c.loop-i.i - 1)))

pub loop-i-preserved : goal.loop-i-preserved
loop-i-preserved c =
    adding_more c.loop-i.invariant c.loop-i-test.true c.requires.w_in_bounds
    (omega (arith, c.type_inv.s (c.args.at + (c.loop-i.i - 1))))

pub returns : goal.returns
returns c =
    adding_all c.loop-i.invariant c.loop-i-test.false
