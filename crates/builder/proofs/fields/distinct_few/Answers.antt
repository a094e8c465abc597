-- `builder::fields::distinct_few` meets its contract. Assumes nothing.
use mathlib.Core.Path.{refl}
use Rattle.matching.specs.Build.{distinct_names}
use Rattle.layout.proofs.Ways.{label_in}
use Rattle.builder.proofs.Names.{passing_start, passing_done, passing-unlabelled, column, tail_at, names_stop, names_more}
use Rattle.builder.proofs.fields.distinct_few.Goals as goal

pub loop-left-init : goal.loop-left-init
loop-left-init c =
    passing_start distinct_names c.requires

pub skip_type-e-requires : goal.skip_type-e-requires
skip_type-e-requires c =
    (column distinct_names c.loop-left.invariant c.loop-left-test.true c.label.ensures.result_value c.in-Is.is).head

pub name_among-requires : goal.name_among-requires
name_among-requires c =
    record {
      columns_at = tail_at distinct_names c.loop-left.invariant c.loop-left-test.true c.label.ensures.result_value c.in-Is.is
          (c.skip_type-e.ensures (column distinct_names c.loop-left.invariant c.loop-left-test.true c.label.ensures.result_value
          c.in-Is.is).head);
      span_in = label_in _ c.label.ensures.label_in c.in-Is.is;
    }

pub returns-then-name_among : goal.returns-then-name_among
returns-then-name_among c =
    names_stop c.loop-left.invariant c.loop-left-test.true c.label.ensures.result_value c.in-Is.is
    (c.skip_type-e.ensures (column distinct_names c.loop-left.invariant c.loop-left-test.true c.label.ensures.result_value c.in-Is.is).head)
    (tail_at distinct_names c.loop-left.invariant c.loop-left-test.true c.label.ensures.result_value c.in-Is.is
    (c.skip_type-e.ensures (column distinct_names c.loop-left.invariant c.loop-left-test.true c.label.ensures.result_value c.in-Is.is).head))
    (c.name_among.ensures (tail_at distinct_names c.loop-left.invariant c.loop-left-test.true c.label.ensures.result_value c.in-Is.is
    (c.skip_type-e.ensures (column distinct_names c.loop-left.invariant c.loop-left-test.true c.label.ensures.result_value c.in-Is.is).head)))
    c.if-name_among.true

pub returns-in-Refused : goal.returns-in-Refused
returns-in-Refused c =
    passing-unlabelled distinct_names c.loop-left.invariant c.loop-left-test.true c.label.ensures.result_value c.in-Refused.is

pub loop-left-preserved : goal.loop-left-preserved
loop-left-preserved c =
    names_more c.loop-left.invariant c.loop-left-test.true c.label.ensures.result_value c.in-Is.is
    (c.skip_type-e.ensures (column distinct_names c.loop-left.invariant c.loop-left-test.true c.label.ensures.result_value c.in-Is.is).head)
    (tail_at distinct_names c.loop-left.invariant c.loop-left-test.true c.label.ensures.result_value c.in-Is.is
    (c.skip_type-e.ensures (column distinct_names c.loop-left.invariant c.loop-left-test.true c.label.ensures.result_value c.in-Is.is).head))
    (c.name_among.ensures (tail_at distinct_names c.loop-left.invariant c.loop-left-test.true c.label.ensures.result_value c.in-Is.is
    (c.skip_type-e.ensures (column distinct_names c.loop-left.invariant c.loop-left-test.true c.label.ensures.result_value c.in-Is.is).head)))
    c.if-name_among.false

pub returns : goal.returns
returns c =
    unfold distinct_names in passing_done distinct_names c.loop-left.invariant c.loop-left-test.false refl
