-- `nullness::nulls::is_known` meets its contract: by the word of the offset. Assumes nothing.
use Rattle.layout.proofs.Ways.{clash}
use Rattle.nullness.proofs.NullsTable.{known_is}
use Rattle.nullness.proofs.nulls.is_known.Goals as goal

pub returns-then-at-ge-LONGEST_PLAN : goal.returns-then-at-ge-LONGEST_PLAN
returns-then-at-ge-LONGEST_PLAN c =
    λ e. clash (cc)

pub returns-then-nulls-slot : goal.returns-then-nulls-slot
returns-then-nulls-slot c =
    λ e. clash (cc)

pub returns : goal.returns
returns c =
    known_is c.args.nulls.now c.args.at
