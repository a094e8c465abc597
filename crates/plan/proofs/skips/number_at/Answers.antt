-- `plan::skips::number_at` meets its contract. Assumes nothing.
use native.Mathlib.Omega.{arith}
use Rattle.plan.proofs.skips.number_at.Goals as goal

pub returns-then-k-skips : goal.returns-then-k-skips
returns-then-k-skips c =
    omega (
      arith,
      c.wide.ensures,
      c.type_inv.skips c.args.k,
    )
