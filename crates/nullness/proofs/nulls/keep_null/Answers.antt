-- `nullness::nulls::keep_null` meets its contract: one bit more. Assumes nothing.
use Rattle.nullness.proofs.NullsTable.{null_lost, null-kept}
use Rattle.nullness.proofs.nulls.keep_null.Goals as goal

pub returns-then-at-ge-LONGEST_PLAN : goal.returns-then-at-ge-LONGEST_PLAN
returns-then-at-ge-LONGEST_PLAN c =
    null_lost

pub returns-then-nulls-word : goal.returns-then-nulls-word
returns-then-nulls-word c =
    null_lost

pub returns : goal.returns
returns c =
    null-kept c.if-at-ge-LONGEST_PLAN.false c.if-nulls-word.false c.power-b.ensures
