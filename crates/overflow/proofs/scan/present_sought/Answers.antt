-- `overflow::scan::present_sought` meets its contract: nothing that is present is null. Assumes nothing.
use Rattle.overflow.proofs.Raw.{content-present}
use Rattle.overflow.proofs.scan.present_sought.Goals as goal

pub present_meets-requires : goal.present_meets-requires
present_meets-requires c =
    record { present_at = c.requires.present_at; small_want = rw c.in-Present.is at c.requires.small_sought }

pub returns-in-Null : goal.returns-in-Null
returns-in-Null c =
    λ X. rw c.in-Null.is (content-present _ _ _ X.content.tree X.content.reads)

pub returns-in-Present : goal.returns-in-Present
returns-in-Present c =
    λ X. rw c.in-Present.is (c.present_meets.ensures X)
