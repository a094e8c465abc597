-- The proof of the cycle of calls {build_iceberg_default_value, put_defaults}. The measure is 2 for each level left,
-- and 1 more for the fields. `Defaulting` holds at the head of the loop. Assumes nothing.
use Rattle.builder.proofs.Missing.{defaulting_none, defaulting_all, defaulting_unlabelled, field, field_room, defaulting-stop, field_fits}
use Rattle.builder.proofs.Missing.{defaulting-more}
use Rattle.builder.proofs.Defaults.{none_made, of_leaf, of_list, of_array, struct_as, struct-after, struct-refused, struct-none, struct-some}
use Rattle.builder.proofs.Defaults.{defaults_room}
use Rattle.builder.proofs.Putting.{type-after}
use Rattle.matching.specs.Default.{defaults_of}
use Rattle.forms.proofs.Writing.{extent}
use Rattle.layout.proofs.View.{deep, struct_at, never_headless}
use Rattle.layout.proofs.Ways.{head_in}
use mathlib.Core.Path.{◌∙◌}
use native.Mathlib.Omega.{arith}
use Rattle.defaults.specs.Lookup.{get_default_value}
use Rattle.builder.proofs.Present.{table-present}
use Rattle.builder.proofs.default.+build_iceberg_default_value_put_defaults.Goals as goal

pub build_iceberg_default_value-put_leaf_default-requires : goal.build_iceberg_default_value-put_leaf_default-requires
build_iceberg_default_value-put_leaf_default-requires t c =
    record {
      indexed_table_at = c.requires.indexed_table_at;
      span_in = head_in _ c.head.ensures.head_in c.in-Leaf.is;
      table_len_bound = (
        c.requires.table_len_bound.0,
        omega (
          arith,
          type-after c.requires.type_at,
          extent c.requires.type_at,
          c.requires.table_len_bound.1,
        ),
      );
    }

pub build_iceberg_default_value-overflow_sub-depth : goal.build_iceberg_default_value-overflow_sub-depth
build_iceberg_default_value-overflow_sub-depth t c =
    let z = deep c.requires.type_at in omega arith

pub build_iceberg_default_value-overflow_add-k : goal.build_iceberg_default_value-overflow_add-k
build_iceberg_default_value-overflow_add-k t c =
    omega (arith, type-after c.requires.type_at, extent c.requires.type_at, c.requires.table_len_bound.1)

pub build_iceberg_default_value-put_defaults-requires : goal.build_iceberg_default_value-put_defaults-requires
build_iceberg_default_value-put_defaults-requires t c =
    let z = deep c.requires.type_at in (
      omega arith,
      (
        (struct_at c.requires.type_at c.head.ensures.result_value c.in-Struct.is).inner,
        (
          c.requires.indexed_table_at,
          (
            c.requires.table_len_bound.0,
            omega (
              arith,
              struct-after c.requires.type_at
                  c.head.ensures.result_value c.in-Struct.is,
              c.requires.table_len_bound.1,
            ),
          ),
        ),
      ),
    )

pub build_iceberg_default_value-overflow_add-result : goal.build_iceberg_default_value-overflow_add-result
build_iceberg_default_value-overflow_add-result t c =
    let S = struct_at c.requires.type_at c.head.ensures.result_value c.in-Struct.is in
    omega (
      arith,
      defaults_room _ (defaults_of (get_default_value c.requires.indexed_table_at.0.entries c.args.build.defaults.source_index) S.inner.columns)
          (c.put_defaults.ensures c.requires.indexed_table_at.0 S.inner) c.in-Done.is,
      struct-after c.requires.type_at c.head.ensures.result_value c.in-Struct.is,
      S.ends,
      extent c.requires.type_at,
      c.requires.table_len_bound.1,
    )

pub build_iceberg_default_value-returns-then-any : goal.build_iceberg_default_value-returns-then-any
build_iceberg_default_value-returns-then-any t c =
    λ T Q.
    let S = struct_at Q c.head.ensures.result_value c.in-Struct.is in
    struct_as (get_default_value T.entries c.args.build.defaults.source_index) c.args.column.label.id Q S _ _ _ _ _ (struct-some _ _ _ _ _
    c.in-Done.is (defaults_of (get_default_value T.entries c.args.build.defaults.source_index) S.inner.columns) _
    (c.put_defaults.ensures T S.inner) c.if-any.true c.put.auto.out c.put.ensures (struct-after Q c.head.ensures.result_value
    c.in-Struct.is))

pub build_iceberg_default_value-returns-in-Leaf : goal.build_iceberg_default_value-returns-in-Leaf
build_iceberg_default_value-returns-in-Leaf t c =
    λ T Q. of_leaf (get_default_value T.entries c.args.build.defaults.source_index) c.args.column.label.id Q c.head.ensures.result_value
    c.in-Leaf.is _ _
    _ _ (c.put_leaf_default.ensures _ _ T (type-after Q))

pub build_iceberg_default_value-returns-in-Failed : goal.build_iceberg_default_value-returns-in-Failed
build_iceberg_default_value-returns-in-Failed t c =
    λ T Q.
    let S = struct_at Q c.head.ensures.result_value c.in-Struct.is in
    struct_as (get_default_value T.entries c.args.build.defaults.source_index) c.args.column.label.id Q S _ _ _ _ _ (struct-refused _ _ _
    _ _ (defaults_of
    (get_default_value T.entries c.args.build.defaults.source_index) S.inner.columns) _ (c.put_defaults.ensures T S.inner)
    c.in-Failed.is)

pub build_iceberg_default_value-returns-else-any : goal.build_iceberg_default_value-returns-else-any
build_iceberg_default_value-returns-else-any t c =
    λ T Q.
    let S = struct_at Q c.head.ensures.result_value c.in-Struct.is in
    struct_as (get_default_value T.entries c.args.build.defaults.source_index) c.args.column.label.id Q S _ _ _ _ _ (struct-none _ _ _ _ _
    c.in-Done.is (defaults_of (get_default_value T.entries c.args.build.defaults.source_index) S.inner.columns) _
    (c.put_defaults.ensures T S.inner) c.if-any.false (c.put_defaults.auto.out ∙ c.put.auto.out) c.put.ensures
    c.put_none.ensures.value c.put_none.ensures.out_after (omega (arith, S.ends, type-after Q)))

pub build_iceberg_default_value-returns-in-List : goal.build_iceberg_default_value-returns-in-List
build_iceberg_default_value-returns-in-List t c =
    λ T Q. none_made _ _ (of_list (get_default_value T.entries c.args.build.defaults.source_index) c.args.column.label.id Q
    c.head.ensures.result_value
    c.in-List.is) c.put_none-in-List.ensures.value c.put_none-in-List.ensures.out_after (type-after Q)

pub build_iceberg_default_value-returns-in-Array : goal.build_iceberg_default_value-returns-in-Array
build_iceberg_default_value-returns-in-Array t c =
    λ T Q. none_made _ _ (of_array (get_default_value T.entries c.args.build.defaults.source_index) c.args.column.label.id Q
    c.head.ensures.result_value
    c.in-Array.is) c.put_none-in-Array.ensures.value c.put_none-in-Array.ensures.out_after (type-after Q)

pub build_iceberg_default_value-returns-in-Refused : goal.build_iceberg_default_value-returns-in-Refused
build_iceberg_default_value-returns-in-Refused t c =
    λ T Q. never_headless Q c.head.ensures.result_value c.in-Refused.is

pub put_defaults-loop-i-init : goal.put_defaults-loop-i-init
put_defaults-loop-i-init t c =
    λ T. defaulting_none (get_default_value T.entries c.args.build.defaults.source_index) c.requires.columns_at c.requires.table_len_bound.1

pub put_defaults-build_iceberg_default_value-made-requires : goal.put_defaults-build_iceberg_default_value-made-requires
put_defaults-build_iceberg_default_value-made-requires t c =
    let W = c.loop-i.invariant c.requires.indexed_table_at.0 in (
      omega arith,
      (
        (field _ W c.loop-i-test.true c.label.ensures.result_value c.in-Is.is).head,
        (
          c.requires.indexed_table_at,
          (
            c.requires.table_len_bound.0,
            field_room _
                W c.loop-i-test.true c.label.ensures.result_value c.in-Is.is,
          ),
        ),
      ),
    )

pub put_defaults-shape_of-out-then-is_default_refused : goal.put_defaults-shape_of-out-then-is_default_refused
put_defaults-shape_of-out-then-is_default_refused t c =
    c.build_iceberg_default_value-made.auto.out ∙ (c.loop-i.invariant c.requires.indexed_table_at.0).kept

pub put_defaults-returns-then-is_default_refused : goal.put_defaults-returns-then-is_default_refused
put_defaults-returns-then-is_default_refused t c =
    λ T Q.
    let W = c.loop-i.invariant T in
    defaulting-stop _ W c.loop-i-test.true c.label.ensures.result_value c.in-Is.is (c.build_iceberg_default_value-made.ensures T (field _ W
    c.loop-i-test.true c.label.ensures.result_value c.in-Is.is).head) c.is_default_refused.ensures c.if-is_default_refused.true
    c.failed_default.ensures Q

pub put_defaults-skip_type-c-requires : goal.put_defaults-skip_type-c-requires
put_defaults-skip_type-c-requires t c =
    let W = c.loop-i.invariant c.requires.indexed_table_at.0 in
    (field _ W c.loop-i-test.true c.label.ensures.result_value c.in-Is.is).head

pub put_defaults-overflow_add-to : goal.put_defaults-overflow_add-to
put_defaults-overflow_add-to t c =
    let W = c.loop-i.invariant c.requires.indexed_table_at.0 in
    omega (
      arith,
      field_fits _ W c.loop-i-test.true c.label.ensures.result_value c.in-Is.is (c.build_iceberg_default_value-made.ensures c.requires.indexed_table_at.0 (field _ W
          c.loop-i-test.true c.label.ensures.result_value c.in-Is.is).head) c.is_default_refused.ensures c.if-is_default_refused.false
          c.value_len-to.ensures,
    )

pub put_defaults-shape_of-out-in-Refused : goal.put_defaults-shape_of-out-in-Refused
put_defaults-shape_of-out-in-Refused t c =
    (c.loop-i.invariant c.requires.indexed_table_at.0).kept

pub put_defaults-returns-in-Refused : goal.put_defaults-returns-in-Refused
put_defaults-returns-in-Refused t c =
    λ T Q. defaulting_unlabelled _ (c.loop-i.invariant T) c.loop-i-test.true c.label.ensures.result_value c.in-Refused.is

pub put_defaults-overflow_add-i : goal.put_defaults-overflow_add-i
put_defaults-overflow_add-i t c =
    omega (arith, c.well_formed.1.1.1.1.1.0, c.loop-i-test.true)

pub put_defaults-loop-i-smaller : goal.put_defaults-loop-i-smaller
put_defaults-loop-i-smaller t c =
    omega arith

pub put_defaults-loop-i-preserved : goal.put_defaults-loop-i-preserved
put_defaults-loop-i-preserved t c =
    λ T.
    let W = c.loop-i.invariant T in
    defaulting-more _ W c.loop-i-test.true c.label.ensures.result_value c.in-Is.is (c.build_iceberg_default_value-made.ensures T (field _ W
    c.loop-i-test.true c.label.ensures.result_value c.in-Is.is).head) c.is_default_refused.ensures c.if-is_default_refused.false (table-present
    T.entries c.args.build.defaults.source_index) c.skip_type-c.ensures c.value_len-to.ensures c.is_some.ensures
    c.either-any.ensures c.fills_required.ensures c.both-filled.ensures c.build_iceberg_default_value-made.auto.out

pub put_defaults-overflow_sub-result : goal.put_defaults-overflow_sub-result
put_defaults-overflow_sub-result t c =
    omega (arith, (c.loop-i.invariant c.requires.indexed_table_at.0).over)

pub put_defaults-shape_of-out : goal.put_defaults-shape_of-out
put_defaults-shape_of-out t c =
    (c.loop-i.invariant c.requires.indexed_table_at.0).kept

pub put_defaults-returns : goal.put_defaults-returns
put_defaults-returns t c =
    λ T Q. defaulting_all _ (c.loop-i.invariant T) c.loop-i-test.false Q
