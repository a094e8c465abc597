-- `overflow::scan::present_meets` meets its contract: each want has its function. Assumes nothing.
use Rattle.overflow.specs.code.Want.{meets}
use Rattle.overflow.proofs.scan.present_meets.Goals as goal

pub is_beyond-requires : goal.is_beyond-requires
is_beyond-requires c =
    record { present_at = c.requires.present_at; small = rw c.in-Beyond.is at c.requires.small_want }

pub returns-in-Parts : goal.returns-in-Parts
returns-in-Parts c =
    unfold meets in λ X. rw c.in-Parts.is (c.is_struct.ensures X)

pub returns-in-Element : goal.returns-in-Element
returns-in-Element c =
    unfold meets in λ X. rw c.in-Element.is (c.is_filled.ensures X)

pub returns-in-Beyond : goal.returns-in-Beyond
returns-in-Beyond c =
    unfold meets in λ X. rw c.in-Beyond.is (c.is_beyond.ensures X)
