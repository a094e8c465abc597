-- `labels::fill_in` meets its contract. Assumes nothing.
use Rattle.labels.proofs.Arena.{front_is, front_long}
use Rattle.labels.specs.code.LabelTable.{Table}
use borrow.Author.Tests.{not-false}
use lib.Seq.{length-take-le}
use Prim.Native.Nat.{ℕ}
use mathlib.Core.List.{List}
use mathlib.Core.Path.{sym, ◌∙◌, subst}
use native.Mathlib.Omega.{arith}
use mathlib.Core.Path.{ap}
use mathlib.Core.Bool.{not}
use Rattle.labels.proofs.fill_in.Goals as goal

pub returns-then-wanted-le16 : goal.returns-then-wanted-le16
returns-then-wanted-le16 c =
    record { upper_bound = omega arith; table = λ h. absurd (omega arith) }

pub returns-then-arena-len : goal.returns-then-arena-len
returns-then-arena-len c =
    record { upper_bound = omega arith; table = λ h. absurd (omega arith) }

pub slice_bounds-fill-end-2 : goal.slice_bounds-fill-end-2
slice_bounds-fill-end-2 c =
    sym (length-take-le _ c.args.arena.now c.if-arena-len.false)

pub returns-then-not-fill : goal.returns-then-not-fill
returns-then-not-fill c =
    record { upper_bound = omega arith; table = λ h. absurd (omega arith) }

pub returns : goal.returns
returns c =
    let e = c.fill.auto.table ∙ length-take-le _
    c.args.arena.now
    c.if-arena-len.false in record {
      upper_bound = front_long c.fill.new.table _ e;
      table = λ h. subst (λ (l : List ℕ). Table c.args.columns.edition c.args.columns.matching c.args.columns.depth c.args.s.now
          c.args.columns.count c.args.columns.first.at l) (sym (front_is c.fill.new.table _ e)) (c.fill.ensures (not-false _ (ap not c.if-not-fill.false)));
    }
