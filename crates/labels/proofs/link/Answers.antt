-- `labels::link` meets its contract. Assumes nothing.
use Prim.Native.Nat.{◌-◌, ◌+◌, ◌*◌}
use mathlib.Core.Path.{refl}
use native.Mathlib.Omega.{arith}
use lib.ListN.{length-set, get_or}
use Rattle.layout.proofs.Ways.{clash, label_in}
use Rattle.labels.proofs.Filling.{linking_start, linking_more, linking_end}
use borrow.Author.Rules.{rules}
use Rattle.labels.proofs.link.Goals as goal

pub loop-i-init : goal.loop-i-init
loop-i-init c = (
  refl,
  linking_start c.wide-i.ensures (omega arith)
      c.requires.noted.cleared,
)

pub slot-requires : goal.slot-requires
slot-requires c =
    record { span_in = label_in _ c.label.ensures.label_in c.in-Is.is; heads_nonzero = omega arith }

pub bounds-table-h-in-Is : goal.bounds-table-h-in-Is
bounds-table-h-in-Is c =
    let a = length-set c.loop-i.table
    (2 * (c.loop-i.i - 1))
    (get_or c.loop-i.table
    (2 * c.wide-i.result + c.slot.result) 0) in
    omega arith

pub loop-i-preserved : goal.loop-i-preserved
loop-i-preserved c = (
  search rules,
  linking_more (c.loop-i.i - 1)
      c.loop-i.invariant.1
      (omega arith)
      (omega arith)
      c.label.ensures.result_value c.wide-at.ensures
      c.in-Is.is c.slot.ensures.value c.slot.ensures.upper_bound
      (omega arith),
)

pub returns-in-Refused : goal.returns-in-Refused
returns-in-Refused c =
    λ h. clash (cc)

pub returns : goal.returns
returns c =
    λ h. linking_end c.loop-i.invariant.1 c.loop-i-test.false c.requires.count_le_most
    (omega arith)
    (omega arith) c.requires.noted
