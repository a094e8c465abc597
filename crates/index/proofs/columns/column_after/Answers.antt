-- `index::columns::column_after` meets its contract: where `m` columns end, the next one stands. Assumes nothing.
use Rattle.index.proofs.Passing.{after-found, after_unlabelled, after_stuck}
use Rattle.index.proofs.columns.column_after.Goals as goal

pub returns-in-Is : goal.returns-in-Is
returns-in-Is c =
    after-found c.pass_columns.ensures c.in-To.is c.label.ensures.result_value c.args.k c.label.ensures.label_in c.in-Is.is

pub returns-in-Refused-label : goal.returns-in-Refused-label
returns-in-Refused-label c =
    after_unlabelled c.pass_columns.ensures c.in-To.is c.label.ensures.result_value c.args.k c.in-Refused-label.is

pub returns-in-Refused : goal.returns-in-Refused
returns-in-Refused c =
    after_stuck c.pass_columns.ensures c.args.k c.in-Refused.is
