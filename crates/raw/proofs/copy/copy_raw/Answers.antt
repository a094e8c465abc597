use native.Mathlib.Omega.{arith}
use Rattle.raw.proofs.Leaves.{raw-ends, raw-stored, raw-refused}
use Rattle.raw.proofs.copy.copy_raw.Goals as goal

pub overflow_sub-result : goal.overflow_sub-result
overflow_sub-result c =
    omega (
      arith,
      (raw-ends c.requires.raw_at (c.copy_value.ensures.value c.requires.raw_at.type)
          (λ i. omega (arith, c.type_inv.rec i))
          c.in-To.is).0,
    )

pub overflow_add-result : goal.overflow_add-result
overflow_add-result c =
    let (a, b) =
    raw-ends c.requires.raw_at (c.copy_value.ensures.value c.requires.raw_at.type)
    (λ i. omega (arith, c.type_inv.rec i))
    c.in-To.is in omega (
      arith,
      a,
      b,
      c.requires.rec_bound,
    )

pub returns-in-To : goal.returns-in-To
returns-in-To c =
    λ X. raw-stored X (c.copy_value.ensures.value X.type)
    (λ i. omega (arith, c.type_inv.rec i))
    c.in-To.is _ _ (c.copy_value.ensures.out_after X.type)

pub returns-in-Refused : goal.returns-in-Refused
returns-in-Refused c =
    λ X. raw-refused X (c.copy_value.ensures.value X.type) c.in-Refused.is
