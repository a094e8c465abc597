-- `overflow::overflows::top_overflows` meets its contract: a value has an overflow just where a path to a leaf has one;
-- a table that was filled is true. Assumes nothing.
use Rattle.overflow.proofs.Columns.{top_unclean}
use Rattle.plan.proofs.Skipping.{skips-none}
use lib.ListN.{length-replicate}
use native.Mathlib.Omega.{arith}
use Prim.Native.Nat.{ℕ}
use Rattle.overflow.proofs.overflows.top_overflows.Goals as goal

pub over_type-requires : goal.over_type-requires
over_type-requires c =
    record { skips = skips-none 1; ends = c.requires.ends; top_at = c.requires.top_at; type_at = (c.requires.type_at.0, omega (arith, c.requires.type_at.1), length-replicate {A = ℕ} 64 0) }

pub returns-then-plan-lt1024 : goal.returns-then-plan-lt1024
returns-then-plan-lt1024 c =
    λ X T Q e. top_unclean (λ i. omega (arith, c.type_inv.rec i)) (λ i. omega (arith, c.type_inv.plan i)) X T e
    (c.over_type.ensures X T Q)

pub read_selectors-requires : goal.read_selectors-requires
read_selectors-requires c =
    skips-none 4608

pub over_type-requires-2 : goal.over_type-requires-2
over_type-requires-2 c =
    record { skips = c.read_selectors.ensures.skips.0; ends = c.requires.ends; top_at = c.requires.top_at; type_at = (c.requires.type_at.0, omega (arith, c.requires.type_at.1), length-replicate {A = ℕ} 64 0) }

pub returns : goal.returns
returns c =
    λ X T Q e. top_unclean (λ i. omega (arith, c.type_inv.rec i)) (λ i. omega (arith, c.type_inv.plan i)) X T e
    (c.over_type-2.ensures X T Q)
