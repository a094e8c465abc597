-- `layout::seen::first_slot` meets its contract. Assumes nothing.
use Rattle.layout.proofs.Noting.{product_lt, first_lt, first-is}
use native.Mathlib.Omega.{arith}
use Rattle.layout.proofs.seen.first_slot.Goals as goal

pub overflow_mul-result : goal.overflow_mul-result
overflow_mul-result c =
    let z = product_lt c.args.n c.args.h (omega arith) in omega (arith, z)

pub returns : goal.returns
returns c =
    record { value = first-is _ _ (omega arith); upper_bound = first_lt _ _ (omega arith) c.requires }
