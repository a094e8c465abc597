-- `labels::fill` meets its contract. Assumes nothing.
use Rattle.labels.proofs.Filling.{cleared-from}
use Rattle.layout.proofs.Ways.{clash}
use borrow.Author.Tests.{not-false}
use native.Mathlib.Omega.{arith}
use mathlib.Core.Path.{ap}
use mathlib.Core.Bool.{not}
use Rattle.labels.proofs.fill.Goals as goal

pub returns-then-columns-gt-MOST : goal.returns-then-columns-gt-MOST
returns-then-columns-gt-MOST c =
    λ h. clash (cc)

pub returns-then-table-from : goal.returns-then-table-from
returns-then-table-from c =
    λ h. clash (cc)

pub note-requires : goal.note-requires
note-requires c =
    record { count_in_bounds = omega arith; cleared = cleared-from (omega arith) c.clear.ensures.cleared }

pub returns-then-not-note : goal.returns-then-not-note
returns-then-not-note c =
    λ h. clash (cc)

pub link-requires : goal.link-requires
link-requires c =
    record { count_le_most = c.if-columns-gt-MOST.false; count_in_bounds = omega arith; noted = c.note.ensures.noted (not-false _ (ap not c.if-not-note.false)) }
