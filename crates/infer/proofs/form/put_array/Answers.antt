-- `infer::form::put_array` meets its contract. Assumes nothing.
use native.Mathlib.Omega.{arith}
use Rattle.infer.proofs.Copies.{untrue, array-put}
use Rattle.infer.proofs.form.put_array.Goals as goal

pub returns-then-out-k : goal.returns-then-out-k
returns-then-out-k c =
    λ e. untrue e

pub returns : goal.returns
returns c =
    λ e. array-put c.args.w
    c.args.out.now
    c.args.k
    (omega (arith, c.ranges.w))
    (omega (arith, c.if-out-k.false))
    c.put.ensures c.put_number.ensures
