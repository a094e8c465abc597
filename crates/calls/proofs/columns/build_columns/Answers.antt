-- `calls::columns::build_columns` meets its contract. `Building` holds at the head of the loop, and the arena's first
-- `used` numbers are as they were. Assumes nothing.
use mathlib.Core.Path.{refl, ◌∙◌}
use native.Mathlib.Omega.{arith}
use Rattle.defaults.specs.Lookup.{get_default_value}
use Rattle.matcher.proofs.Remaining.{table_still}
use Rattle.calls.proofs.Building.{building-none, building-all, building_unlabelled, column, column_after, column_name, column-room}
use Rattle.calls.proofs.Building.{column-made, building-stop, column_fits, building-more}
use Rattle.calls.proofs.columns.build_columns.Goals as goal

pub loop-i-init : goal.loop-i-init
loop-i-init c = (
  λ T P. building-none c.args.build.policy (get_default_value T.entries c.args.build.defaults.source_index) P.columns c.args.build.matching c.requires.both_in.1.0 (omega arith),
  refl,
  refl,
)

pub attach_field-made-requires : goal.attach_field-made-requires
attach_field-made-requires c =
    let W = c.loop-i.invariant.0 c.requires.indexed_table_at.0 c.requires.both_in.0 in record {
      sought_at = (c.requires.both_in.0, ((column W c.loop-i-test.true c.label.ensures.result_value c.in-Is.is).head, c.requires.both_in.1.1));
      indexed_table_at = c.requires.indexed_table_at;
      span_in = column_name W c.loop-i-test.true c.label.ensures.result_value c.in-Is.is c.label.ensures.label_in;
      target_len_bound = (c.requires.target_len_bound.0, c.requires.target_len_bound.1, column-room W c.loop-i-test.true c.label.ensures.result_value c.in-Is.is);
      sought_in = (
        (omega arith),
        table_still c.fill_fields-used.new.arena c.loop-i.arena c.loop-i.invariant.1 c.fill_fields-used.ensures.table,
      );
    }

pub shape_of-out-then-is_refused : goal.shape_of-out-then-is_refused
shape_of-out-then-is_refused c =
    c.attach_field-made.auto.out ∙ (c.loop-i.invariant.0 c.requires.indexed_table_at.0 c.requires.both_in.0).kept

pub shape_of-arena-then-is_refused : goal.shape_of-arena-then-is_refused
shape_of-arena-then-is_refused c =
    c.attach_field-made.auto.arena ∙ c.loop-i.invariant.2 ∙ c.fill_fields-used.auto.arena

pub returns-then-is_refused : goal.returns-then-is_refused
returns-then-is_refused c =
    λ T P Q.
    let W = c.loop-i.invariant.0 T P in
    let A = column-made W c.loop-i-test.true c.label.ensures.result_value c.in-Is.is _ _ c.inserts-insert.ensures (c.attach_field-made.ensures.attached_field
    _ T P (column W c.loop-i-test.true c.label.ensures.result_value c.in-Is.is).head (column_after W c.loop-i-test.true c.label.ensures.result_value c.in-Is.is)) in
    building-stop W c.loop-i-test.true c.label.ensures.result_value c.in-Is.is A c.is_refused.ensures c.if-is_refused.true c.failed_column.ensures Q

pub skip_type-c-requires : goal.skip_type-c-requires
skip_type-c-requires c =
    let W = c.loop-i.invariant.0 c.requires.indexed_table_at.0 c.requires.both_in.0 in
    (column W c.loop-i-test.true c.label.ensures.result_value c.in-Is.is).head

pub overflow_add-to : goal.overflow_add-to
overflow_add-to c =
    let W = c.loop-i.invariant.0 c.requires.indexed_table_at.0 c.requires.both_in.0 in
    let A = column-made W c.loop-i-test.true c.label.ensures.result_value c.in-Is.is _ _ c.inserts-insert.ensures (c.attach_field-made.ensures.attached_field
    _ c.requires.indexed_table_at.0 c.requires.both_in.0 (column W c.loop-i-test.true c.label.ensures.result_value c.in-Is.is).head (column_after W c.loop-i-test.true c.label.ensures.result_value c.in-Is.is)) in
    omega (
      arith,
      column_fits W c.loop-i-test.true c.label.ensures.result_value c.in-Is.is A c.is_refused.ensures c.if-is_refused.false c.len_of-to.ensures,
      c.requires.target_len_bound,
    )

pub shape_of-out-in-Refused : goal.shape_of-out-in-Refused
shape_of-out-in-Refused c =
    (c.loop-i.invariant.0 c.requires.indexed_table_at.0 c.requires.both_in.0).kept

pub shape_of-arena-in-Refused : goal.shape_of-arena-in-Refused
shape_of-arena-in-Refused c =
    c.loop-i.invariant.2 ∙ c.fill_fields-used.auto.arena

pub returns-in-Refused : goal.returns-in-Refused
returns-in-Refused c =
    λ T P Q. building_unlabelled (c.loop-i.invariant.0 T P) c.loop-i-test.true c.label.ensures.result_value c.in-Refused.is

pub overflow_add-i : goal.overflow_add-i
overflow_add-i c =
    omega (arith, c.well_formed.1.1.1.1.1.0, c.loop-i-test.true)

pub loop-i-smaller : goal.loop-i-smaller
loop-i-smaller c =
    omega arith

pub loop-i-preserved : goal.loop-i-preserved
loop-i-preserved c = (
  λ T P.
      let W = c.loop-i.invariant.0 T P in
      let A = column-made W c.loop-i-test.true c.label.ensures.result_value c.in-Is.is _ _ c.inserts-insert.ensures (c.attach_field-made.ensures.attached_field _ T P (column W c.loop-i-test.true c.label.ensures.result_value c.in-Is.is).head (column_after W c.loop-i-test.true c.label.ensures.result_value c.in-Is.is)) in
      building-more W c.loop-i-test.true c.label.ensures.result_value c.in-Is.is A c.is_refused.ensures c.if-is_refused.false c.skip_type-c.ensures c.len_of-to.ensures c.attach_field-made.auto.out,
  c.attach_field-made.ensures.arena_unchanged ∙ c.loop-i.invariant.1,
  c.attach_field-made.auto.arena ∙ c.loop-i.invariant.2,
)

pub overflow_sub-result : goal.overflow_sub-result
overflow_sub-result c =
    omega (arith, (c.loop-i.invariant.0 c.requires.indexed_table_at.0 c.requires.both_in.0).over)

pub shape_of-out : goal.shape_of-out
shape_of-out c =
    (c.loop-i.invariant.0 c.requires.indexed_table_at.0 c.requires.both_in.0).kept

pub shape_of-arena : goal.shape_of-arena
shape_of-arena c =
    c.loop-i.invariant.2 ∙ c.fill_fields-used.auto.arena

pub returns : goal.returns
returns c =
    λ T P Q. building-all (c.loop-i.invariant.0 T P) c.loop-i-test.false Q
