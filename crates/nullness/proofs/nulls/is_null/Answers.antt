-- `nullness::nulls::is_null` meets its contract: by the bit of the offset. Assumes nothing.
use Rattle.layout.proofs.Ways.{clash}
use Rattle.nullness.proofs.NullsTable.{bit_test}
use Rattle.nullness.proofs.nulls.is_null.Goals as goal

pub returns-then-at-ge-LONGEST_PLAN : goal.returns-then-at-ge-LONGEST_PLAN
returns-then-at-ge-LONGEST_PLAN c =
    λ e N. clash (cc)

pub returns-then-nulls-word : goal.returns-then-nulls-word
returns-then-nulls-word c =
    λ e N. clash (cc)

pub returns : goal.returns
returns c =
    bit_test c.args.nulls.now c.args.at
    c.if-at-ge-LONGEST_PLAN.false c.is_set.ensures
