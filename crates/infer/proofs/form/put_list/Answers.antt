-- `infer::form::put_list` meets its contract. Assumes nothing.
use native.Mathlib.Omega.{arith}
use Rattle.infer.proofs.Copies.{untrue, list_put}
use Rattle.infer.proofs.form.put_list.Goals as goal

pub returns-then-out-k : goal.returns-then-out-k
returns-then-out-k c =
    λ e. untrue e

pub returns : goal.returns
returns c =
    λ e. list_put c.args.out.now
    c.args.k (omega (arith, c.if-out-k.false))
    c.put.ensures
