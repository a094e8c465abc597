-- `infer::form::put_struct` meets its contract. Assumes nothing.
use native.Mathlib.Omega.{arith}
use Rattle.infer.proofs.Copies.{untrue, struct-put}
use Rattle.infer.proofs.form.put_struct.Goals as goal

pub returns-then-out-k : goal.returns-then-out-k
returns-then-out-k c =
    λ e. untrue e

pub returns : goal.returns
returns c =
    λ e. struct-put c.args.n
    c.args.out.now
    c.args.k
    (omega (arith, c.if-out-k.false))
    c.put.ensures
    c.put-2.ensures c.put-3.ensures
