-- `calls::extra::first_extra` meets its contract. Assumes nothing.
use native.Mathlib.Omega.{arith}
use Rattle.layout.proofs.Ways.{label_in}
use Rattle.calls.proofs.Seeking.{absent-is, seeking_none, seeking_all, seeking_unlabelled, column, seeking-stop, seeking-more}
use mathlib.Core.Path.{ap}
use mathlib.Core.Bool.{not}
use Rattle.calls.proofs.extra.first_extra.Goals as goal

pub loop-i-init : goal.loop-i-init
loop-i-init c =
    λ Q. seeking_none _ Q.columns c.requires.both_in.0

pub has_counterpart-requires : goal.has_counterpart-requires
has_counterpart-requires c =
    record { columns_at = c.requires.both_in.1.0; table_of = c.requires.table_of; span_in = label_in _ c.label.ensures.label_in c.in-Is.is }

pub returns-then-not-has_counterpart : goal.returns-then-not-has_counterpart
returns-then-not-has_counterpart c =
    λ P Q.
    seeking-stop (c.loop-i.invariant Q) c.loop-i-test.true
    c.label.ensures.result_value c.in-Is.is (absent-is (c.has_counterpart.ensures Q))
    (ap not c.if-not-has_counterpart.true) P

pub skip_type-c-requires : goal.skip_type-c-requires
skip_type-c-requires c =
    (column
    (c.loop-i.invariant
    c.requires.both_in.1.0)
    c.loop-i-test.true c.label.ensures.result_value
    c.in-Is.is).head

pub returns-in-Refused : goal.returns-in-Refused
returns-in-Refused c =
    λ P Q. seeking_unlabelled (c.loop-i.invariant Q) c.loop-i-test.true
    c.label.ensures.result_value c.in-Refused.is

pub overflow_add-i : goal.overflow_add-i
overflow_add-i c =
    omega (
      arith,
      c.well_formed.1.1.1.0,
      c.loop-i-test.true,
    )

pub loop-i-smaller : goal.loop-i-smaller
loop-i-smaller c =
    omega arith

pub loop-i-preserved : goal.loop-i-preserved
loop-i-preserved c =
    λ Q.
    seeking-more (c.loop-i.invariant Q)
    c.loop-i-test.true
    c.label.ensures.result_value c.in-Is.is
    (absent-is (c.has_counterpart.ensures Q))
    (ap not c.if-not-has_counterpart.false) c.skip_type-c.ensures

pub returns : goal.returns
returns c =
    λ P Q. seeking_all (c.loop-i.invariant Q) c.loop-i-test.false P
