-- `builder::fields::no_extra_in` meets its contract. Assumes nothing.
use mathlib.Core.Path.{refl}
use Rattle.matching.specs.Build.{no_extra_of}
use Rattle.layout.proofs.Ways.{label_in}
use Rattle.builder.proofs.Names.{passing_start, passing_done, passing-unlabelled, column, fields_stop, fields-more}
use mathlib.Core.Path.{ap}
use mathlib.Core.Bool.{not}
use Rattle.builder.proofs.fields.no_extra_in.Goals as goal

pub loop-left-init : goal.loop-left-init
loop-left-init c =
    λ Q. passing_start (λ cs. no_extra_of c.args.build.matching cs Q.columns) c.requires.rows_at.0

pub has_counterpart-requires : goal.has_counterpart-requires
has_counterpart-requires c =
    record { columns_at = c.requires.rows_at.1.0; table_of = c.requires.table_of; span_in = label_in _ c.label.ensures.label_in c.in-Is.is }

pub returns-then-not-has_counterpart : goal.returns-then-not-has_counterpart
returns-then-not-has_counterpart c =
    λ P Q. fields_stop _ Q.columns (c.loop-left.invariant Q) c.loop-left-test.true c.label.ensures.result_value c.in-Is.is (c.has_counterpart.ensures Q)
    (ap not c.if-not-has_counterpart.true) P

pub skip_type-c-requires : goal.skip_type-c-requires
skip_type-c-requires c =
    (column (λ cs. no_extra_of c.args.build.matching cs c.requires.rows_at.1.0.columns) (c.loop-left.invariant c.requires.rows_at.1.0) c.loop-left-test.true
    c.label.ensures.result_value c.in-Is.is).head

pub returns-in-Refused : goal.returns-in-Refused
returns-in-Refused c =
    passing-unlabelled (λ cs. no_extra_of c.args.build.matching cs c.requires.rows_at.1.0.columns) (c.loop-left.invariant c.requires.rows_at.1.0) c.loop-left-test.true
    c.label.ensures.result_value c.in-Refused.is

pub loop-left-preserved : goal.loop-left-preserved
loop-left-preserved c =
    λ Q. fields-more _ Q.columns (c.loop-left.invariant Q) c.loop-left-test.true c.label.ensures.result_value c.in-Is.is (c.has_counterpart.ensures Q)
    (ap not c.if-not-has_counterpart.false) c.skip_type-c.ensures

pub returns : goal.returns
returns c =
    unfold no_extra_of in λ P Q. passing_done (λ cs. no_extra_of c.args.build.matching cs Q.columns) (c.loop-left.invariant Q) c.loop-left-test.false refl P
