-- `raw::copy::copy_constant` meets its contract: the bytes of a value that was read are its own. Assumes nothing.
use native.Mathlib.Omega.{arith}
use Rattle.raw.proofs.Leaves.{raw-ends, raw-stored, raw-refused}
use Rattle.values.proofs.Copying.{copy_stored}
use Rattle.layout.specs.Tree.{dtype_of}
use Rattle.raw.proofs.copy.copy_constant.Goals as goal

pub skip_type-requires : goal.skip_type-requires
skip_type-requires c =
    c.requires.raw_at.type

pub read_constant_value-requires : goal.read_constant_value-requires
read_constant_value-requires c =
    c.requires.raw_at.type

pub copy-requires : goal.copy-requires
copy-requires c =
    let (a, b) = raw-ends c.requires.raw_at (c.read_constant_value.ensures c.requires.raw_at.type)
    (λ i. omega (arith, c.type_inv.plan i)) c.in-To.is in
    (omega (arith, a), b, omega (arith, b, c.requires.plan_bound))

pub overflow_sub-result : goal.overflow_sub-result
overflow_sub-result c =
    let (a, b) = raw-ends c.requires.raw_at (c.read_constant_value.ensures c.requires.raw_at.type)
    (λ i. omega (
      arith,
      c.type_inv.plan
          i,
    )) c.in-To.is in
    omega (arith, a)

pub overflow_add-result : goal.overflow_add-result
overflow_add-result c =
    let (a, b) = raw-ends c.requires.raw_at (c.read_constant_value.ensures c.requires.raw_at.type)
    (λ i. omega (
      arith,
      c.type_inv.plan
          i,
    )) c.in-To.is in
    omega (arith, a, b, c.requires.plan_bound)

pub returns-in-To : goal.returns-in-To
returns-in-To c =
    λ X.
    let r = c.read_constant_value.ensures X.type in
    raw-stored X r (λ i. omega (
      arith,
      c.type_inv.plan i,
    )) c.in-To.is _ _ (copy_stored (dtype_of X.type.tree) _ _ X.type.end r
    (λ i. omega (
      arith,
      c.type_inv.plan
          i,
    )) _ _ c.in-To.is c.copy.ensures)

pub returns-in-Refused : goal.returns-in-Refused
returns-in-Refused c =
    λ X. raw-refused X (c.read_constant_value.ensures X.type) c.in-Refused.is
