-- `labels::note` meets its contract. Assumes nothing.
use mathlib.Core.Path.{refl}
use native.Mathlib.Omega.{arith}
use Rattle.layout.proofs.Ways.{clash}
use Rattle.labels.proofs.Filling.{noting_start, noting_more, noting_end}
use borrow.Author.Rules.{rules}
use Rattle.labels.proofs.note.Goals as goal

pub loop-i-init : goal.loop-i-init
loop-i-init c =
    (refl, noting_start c.requires.cleared)

pub returns-then-c-gt65535 : goal.returns-then-c-gt65535
returns-then-c-gt65535 c =
    record { table_len_unchanged = c.loop-i.invariant.0; noted = λ h. clash (cc) }

pub returns-in-Refused-pass_type : goal.returns-in-Refused-pass_type
returns-in-Refused-pass_type c =
    record { table_len_unchanged = search rules; noted = λ h. clash (cc) }

pub returns-in-Refused : goal.returns-in-Refused
returns-in-Refused c =
    record { table_len_unchanged = search rules; noted = λ h. clash (cc) }

pub overflow_add-i : goal.overflow_add-i
overflow_add-i c =
    omega (arith, c.loop-i-test.true, c.well_formed.1.0)

pub loop-i-preserved : goal.loop-i-preserved
loop-i-preserved c = (
  search rules,
  noting_more c.loop-i.invariant.1 (omega arith) c.loop-i-test.true
      c.label.ensures.result_value c.in-Is.is
      c.pass_type.ensures c.in-To.is
      (omega arith),
)

pub returns : goal.returns
returns c =
    record { table_len_unchanged = c.loop-i.invariant.0; noted = λ h. noting_end c.loop-i.invariant.1 c.loop-i-test.false }
