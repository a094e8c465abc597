-- `infer::form::copy_nested` meets its contract. Assumes nothing.
use native.Mathlib.Omega.{arith}
use Rattle.infer.proofs.Copies.{copied}
use Rattle.infer.proofs.form.copy_nested.Goals as goal

pub returns : goal.returns
returns c =
    λ T. copied T (λ i. omega (
      arith,
      c.type_inv.s i,
    )) c.args.depth c.args.out.now
    c.args.k
    (c.form_size-z.ensures T)
    (omega (arith, c.if-depth-z.false))
    (omega (arith, c.if-z-gt-LONGEST.false)) (omega (arith, c.if-out-k.false))
    (c.write_form.ensures.out_after T)
