-- `layout::find::column_at` meets its contract: after `k` columns the next one is the one. Assumes nothing.
use Rattle.layout.proofs.Finding.{position_past, position_stuck, position-unlabelled, position-found}
use Rattle.layout.proofs.find.column_at.Goals as goal

pub returns-then-n-k : goal.returns-then-n-k
returns-then-n-k c =
    position_past c.args.k c.requires c.if-n-k.true

pub returns-in-Is : goal.returns-in-Is
returns-in-Is c =
    position-found c.args.k c.requires c.if-n-k.false c.pass_columns.ensures c.in-To.is c.label.ensures.result_value
    c.label.ensures.label_in c.in-Is.is

pub returns-in-Refused-label : goal.returns-in-Refused-label
returns-in-Refused-label c =
    position-unlabelled c.args.k c.requires c.if-n-k.false c.pass_columns.ensures c.in-To.is c.label.ensures.result_value
    c.in-Refused-label.is

pub returns-in-Refused : goal.returns-in-Refused
returns-in-Refused c =
    position_stuck c.args.k c.requires c.if-n-k.false c.pass_columns.ensures c.in-Refused.is
