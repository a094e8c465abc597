-- `checker::each::next_column` meets its contract. Assumes nothing.
use Rattle.checker.proofs.Topping.{none-next, next-labelled, next-found, next-typed}
use Rattle.checker.proofs.each.next_column.Goals as goal

pub returns-then-columns-eq0 : goal.returns-then-columns-eq0
returns-then-columns-eq0 c =
    λ Q. none-next Q c.if-columns-eq0.true

pub returns-in-To-pass_type : goal.returns-in-To-pass_type
returns-in-To-pass_type c =
    λ Q. next-found Q c.if-columns-eq0.false
    c.pass_label.ensures c.in-To.is
    c.pass_type.ensures c.in-To-pass_type.is

pub returns-in-Refused-pass_type : goal.returns-in-Refused-pass_type
returns-in-Refused-pass_type c =
    λ Q. next-typed Q c.if-columns-eq0.false
    c.pass_label.ensures c.in-To.is
    c.pass_type.ensures c.in-Refused-pass_type.is

pub returns-in-Refused : goal.returns-in-Refused
returns-in-Refused c =
    λ Q. next-labelled Q c.if-columns-eq0.false c.pass_label.ensures c.in-Refused.is
