-- `checker::each::still_same` meets its contract. Assumes nothing.
use Rattle.checker.proofs.Topping.{not-before, none-same, column-same, column-differs}
use Rattle.layout.specs.Tree.{fields_of}
use Rattle.forms.proofs.Comparing.{split}
use Rattle.checker.specs.code.Tops.{same_first}
use borrow.Author.Tests.{not-true, not-false}
use mathlib.Core.Path.{ap}
use mathlib.Core.Bool.{not}
use Rattle.checker.proofs.each.still_same.Goals as goal

pub returns-then-not-same : goal.returns-then-not-same
returns-then-not-same c =
    λ a Q N.
    not-before {b = c.args.same} (not-true c.args.same (ap not c.if-not-same.true)) (same_first a (fields_of Q.columns))

pub returns-then-columns-eq0 : goal.returns-then-columns-eq0
returns-then-columns-eq0 c =
    λ a Q N. none-same Q a c.if-columns-eq0.true c.args.same

pub same_column-requires : goal.same_column-requires
same_column-requires c =
    record {
      tables = c.requires.tables;
      named_at = c.requires.named_at;
      column_at = (split c.requires.columns_at
          c.if-columns-eq0.false).first;
    }

pub returns-in-At : goal.returns-in-At
returns-in-At c =
    λ a Q N.
    column-same Q a c.if-columns-eq0.false (c.same_column.ensures a (split Q c.if-columns-eq0.false).first N) {b = c.args.same} (not-false c.args.same
    (ap not c.if-not-same.false)) c.in-At.is

pub returns-in-Differ : goal.returns-in-Differ
returns-in-Differ c =
    λ a Q N.
    column-differs Q a c.if-columns-eq0.false (c.same_column.ensures a (split Q c.if-columns-eq0.false).first N) {b = c.args.same} (not-false c.args.same
    (ap not c.if-not-same.false)) c.in-Differ.is
