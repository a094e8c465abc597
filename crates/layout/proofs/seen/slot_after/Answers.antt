-- `layout::seen::slot_after` meets its contract. Assumes nothing.
use native.Mathlib.Omega.{arith}
use Rattle.layout.proofs.Noting.{slot_on, slot-round}
use Rattle.layout.proofs.seen.slot_after.Goals as goal

pub returns-then-i-behind : goal.returns-then-i-behind
returns-then-i-behind c =
    record { value = slot_on _ _ _ c.if-i-behind.true; upper_bound = omega arith }

pub returns-else-i-behind : goal.returns-else-i-behind
returns-else-i-behind c =
    record { value = slot-round _ _ _ c.if-i-behind.false; upper_bound = omega arith }
