-- `nullness::nulls::keep_constant` meets its contract: one constant more. Assumes nothing.
use Rattle.nullness.proofs.NullsTable.{nulls_constant}
use Rattle.nullness.proofs.nulls.keep_constant.Goals as goal

pub returns-then-at-ge-LONGEST_PLAN : goal.returns-then-at-ge-LONGEST_PLAN
returns-then-at-ge-LONGEST_PLAN c =
    λ plan N C. N

pub returns-then-nulls-slot : goal.returns-then-nulls-slot
returns-then-nulls-slot c =
    λ plan N C. N

pub returns : goal.returns
returns c =
    λ plan N C. nulls_constant N c.if-nulls-slot.false C
