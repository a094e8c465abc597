-- `infer::form::behind` meets its contract. Assumes nothing.
use native.Mathlib.Omega.{arith}
use Rattle.infer.proofs.Copies.{behind-long, behind-short}
use Rattle.infer.proofs.form.behind.Goals as goal

pub overflow_add-head : goal.overflow_add-head
overflow_add-head c =
    let g = c.requires.1 _
    c.in-Is.is in omega arith

pub returns-then-head-len-gt-LONGEST : goal.returns-then-head-len-gt-LONGEST
returns-then-head-len-gt-LONGEST c =
    behind-long c.args.head c.in-Is.is
    c.if-head-len-gt-LONGEST.true

pub returns-else-head-len-gt-LONGEST : goal.returns-else-head-len-gt-LONGEST
returns-else-head-len-gt-LONGEST c =
    behind-short c.args.head
    c.in-Is.is (omega (arith, c.if-head-len-gt-LONGEST.false))
