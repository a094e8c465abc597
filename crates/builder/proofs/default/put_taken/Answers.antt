-- `builder::default::put_taken` meets its contract. Assumes nothing.
use Rattle.builder.proofs.Defaults.{taken_unlike, taken_stuck, taken-ends, taken_made}
use native.Mathlib.Omega.{arith}
use mathlib.Core.Path.{ap}
use mathlib.Core.Bool.{not}
use Rattle.builder.proofs.default.put_taken.Goals as goal

pub returns-then-not-same_leaf_type : goal.returns-then-not-same_leaf_type
returns-then-not-same_leaf_type c =
    λ b e P lt. taken_unlike P _ c.same_leaf_type.ensures _ _ _ (ap not c.if-not-same_leaf_type.true)

pub copy-requires : goal.copy-requires
copy-requires c =
    let (a, b) = taken-ends c.requires.value_at
    c.read_leaf_value.ensures (λ i. omega
    (arith, c.type_inv.table i))
    c.in-To.is in
    (a, b, omega (arith, c.requires.table_len_bound))

pub overflow_sub-result : goal.overflow_sub-result
overflow_sub-result c =
    let (a, b) = taken-ends c.requires.value_at c.read_leaf_value.ensures
    (λ i. omega (
      arith,
      c.type_inv.table i,
    )) c.in-To.is in
    omega arith

pub returns-in-To : goal.returns-in-To
returns-in-To c =
    λ b e P lt. taken_made P c.read_leaf_value.ensures
    (λ i. omega (
      arith,
      c.type_inv.table i,
    )) c.in-To.is _ _ _
    c.same_leaf_type.ensures
    (ap not c.if-not-same_leaf_type.false)
    c.copy.ensures
    c.requires.table_len_bound.0 lt

pub returns-in-Refused : goal.returns-in-Refused
returns-in-Refused c =
    λ b e P lt. taken_stuck P c.read_leaf_value.ensures c.in-Refused.is
