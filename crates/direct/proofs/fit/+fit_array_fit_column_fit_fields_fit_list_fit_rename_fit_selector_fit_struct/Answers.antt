-- `fit_array`, `fit_column`, `fit_fields`, `fit_list`, `fit_rename`, `fit_selector` and `fit_struct` of `direct::fit`
-- meet their contracts. The measure is 4 for each level left, and more for the functions that call at the same level.
-- `Fitting` holds at the head of the loop. Assumes nothing.
use Rattle.direct.proofs.Rows.{column_asks, column_fits, fitting-none, fitting-all, fitting-asks, fitting-more}
use Rattle.direct.proofs.Fitting.{unknown, none-given, fit_to, gives_to, rename_asks, rename-fits, struct_asks, struct-fits, list_asks, list-fits}
use Rattle.direct.proofs.Fitting.{array_asks, array-fits}
use Rattle.direct.proofs.Opening.{both_structs, both_lists, both_arrays}
use Rattle.direct.proofs.Scoping.{taken_at}
use Rattle.walk.proofs.Heads.{is-constant, is-cast, is-rename, is_struct_mapping, is_list_mapping, is-array}
use Rattle.layout.proofs.Ways.{label_in}
use lib.Seq.{length-take-le}
use mathlib.Core.Path.{refl, sym}
use native.Mathlib.Omega.{arith}
use Rattle.direct.proofs.fit.+fit_array_fit_column_fit_fields_fit_list_fit_rename_fit_selector_fit_struct.Goals as goal

pub fit_array-take_position-requires : goal.fit_array-take_position-requires
fit_array-take_position-requires t c =
    c.requires.1.scoped

pub fit_array-fit_selector-r-requires : goal.fit_array-fit_selector-r-requires
fit_array-fit_selector-r-requires t c =
    let (a, A, L) = c.requires in
    let K = taken_at (c.take_position.ensures A.scoped L.input) c.in-At.is in
    let B = both_arrays (c.both_inside.ensures K.type A.type) c.in-Arrays.is in
    (omega arith, array_asks A L K B (c.skip_selector-e.ensures L.input))

pub fit_array-returns-in-Arrays : goal.fit_array-returns-in-Arrays
fit_array-returns-in-Arrays t c =
    λ a A L.
    let K = taken_at (c.take_position.ensures A.scoped L.input) c.in-At.is in
    let B = both_arrays (c.both_inside.ensures K.type A.type) c.in-Arrays.is in
    let h = c.skip_selector-e.ensures L.input in
    array-fits A L K B h (c.fit_selector-r.ensures (array_asks A L K B h)) c.around.ensures

pub fit_array-returns-in_default : goal.fit_array-returns-in_default
fit_array-returns-in_default t c =
    λ a A L. unknown

pub fit_array-returns-in-Absent : goal.fit_array-returns-in-Absent
fit_array-returns-in-Absent t c =
    λ a A L. unknown

pub fit_column-fit_selector-requires : goal.fit_column-fit_selector-requires
fit_column-fit_selector-requires t c =
    (omega arith, column_asks c.requires c.label.ensures.result_value c.in-Is.is)

pub fit_column-same_name-requires : goal.fit_column-same_name-requires
fit_column-same_name-requires t c =
    let F = fit_to (c.fit_selector.ensures (column_asks c.requires c.label.ensures.result_value c.in-Is.is)) c.in-Is-fit_selector.is in record { name_at = (F.name, F.named); span_in = label_in _ c.label.ensures.label_in c.in-Is.is }

pub fit_column-returns-then-same_name : goal.fit_column-returns-then-same_name
fit_column-returns-then-same_name t c =
    λ A.
    let F = fit_to (c.fit_selector.ensures (column_asks A c.label.ensures.result_value c.in-Is.is)) c.in-Is-fit_selector.is in
    column_fits A c.label.ensures.result_value c.in-Is.is F (c.same_name.ensures F.name F.named) c.if-same_name.true

pub fit_column-returns-else-same_name : goal.fit_column-returns-else-same_name
fit_column-returns-else-same_name t c =
    λ A. none-given

pub fit_column-returns-in-Unknown : goal.fit_column-returns-in-Unknown
fit_column-returns-in-Unknown t c =
    λ A. none-given

pub fit_column-returns-in-Refused : goal.fit_column-returns-in-Refused
fit_column-returns-in-Refused t c =
    λ A. none-given

pub fit_fields-loop-i-init : goal.fit_fields-loop-i-init
fit_fields-loop-i-init t c =
    fitting-none c.requires

pub fit_fields-fit_column-requires : goal.fit_fields-fit_column-requires
fit_fields-fit_column-requires t c =
    (omega arith, fitting-asks c.loop-i.invariant c.loop-i-test.true c.requires)

pub fit_fields-returns-in-Unknown : goal.fit_fields-returns-in-Unknown
fit_fields-returns-in-Unknown t c =
    λ A. none-given

pub fit_fields-overflow_add-i : goal.fit_fields-overflow_add-i
fit_fields-overflow_add-i t c =
    omega (arith, c.well_formed.1.1.1.1.1.1.0, c.loop-i-test.true)

pub fit_fields-loop-i-smaller : goal.fit_fields-loop-i-smaller
fit_fields-loop-i-smaller t c =
    omega arith

pub fit_fields-loop-i-preserved : goal.fit_fields-loop-i-preserved
fit_fields-loop-i-preserved t c =
    fitting-more c.loop-i.invariant c.loop-i-test.true c.fit_column.ensures c.in-At.is c.requires

pub fit_fields-returns : goal.fit_fields-returns
fit_fields-returns t c =
    λ A. fitting-all c.loop-i.invariant refl refl c.loop-i-test.false A

pub fit_list-take_position-requires : goal.fit_list-take_position-requires
fit_list-take_position-requires t c =
    c.requires.1.scoped

pub fit_list-fit_selector-r-requires : goal.fit_list-fit_selector-r-requires
fit_list-fit_selector-r-requires t c =
    let (a, A, L) = c.requires in
    let K = taken_at (c.take_position.ensures A.scoped L.input) c.in-At.is in
    let (I, J) = both_lists (c.both_inside.ensures K.type A.type) c.in-Lists.is in
    (omega arith, list_asks A L K I J (c.skip_selector-e.ensures L.input))

pub fit_list-returns-in-Lists : goal.fit_list-returns-in-Lists
fit_list-returns-in-Lists t c =
    λ a A L.
    let K = taken_at (c.take_position.ensures A.scoped L.input) c.in-At.is in
    let (I, J) = both_lists (c.both_inside.ensures K.type A.type) c.in-Lists.is in
    let h = c.skip_selector-e.ensures L.input in
    list-fits A L K I J h (c.fit_selector-r.ensures (list_asks A L K I J h)) c.around.ensures

pub fit_list-returns-in_default : goal.fit_list-returns-in_default
fit_list-returns-in_default t c =
    λ a A L. unknown

pub fit_list-returns-in-Absent : goal.fit_list-returns-in-Absent
fit_list-returns-in-Absent t c =
    λ a A L. unknown

pub fit_rename-fit_selector-requires : goal.fit_rename-fit_selector-requires
fit_rename-fit_selector-requires t c =
    let (a, A, R) = c.requires in (omega arith, rename_asks A R)

pub fit_rename-returns-in-Is-text : goal.fit_rename-returns-in-Is-text
fit_rename-returns-in-Is-text t c =
    λ a A R. rename-fits A R (fit_to (c.fit_selector.ensures (rename_asks A R)) c.in-Is.is) c.text.ensures.result_value c.text.ensures.text_in
    c.in-Is-text.is c.named.ensures

pub fit_rename-returns-in-Refused : goal.fit_rename-returns-in-Refused
fit_rename-returns-in-Refused t c =
    λ a A R. unknown

pub fit_rename-returns-in-Unknown : goal.fit_rename-returns-in-Unknown
fit_rename-returns-in-Unknown t c =
    λ a A R. unknown

pub fit_selector-returns-then-levels-eq0 : goal.fit_selector-returns-then-levels-eq0
fit_selector-returns-then-levels-eq0 t c =
    λ A. unknown

pub fit_selector-overflow_sub-l : goal.fit_selector-overflow_sub-l
fit_selector-overflow_sub-l t c =
    omega arith

pub fit_selector-fit_position-requires : goal.fit_selector-fit_position-requires
fit_selector-fit_position-requires t c =
    c.requires

pub fit_selector-fit_constant-requires : goal.fit_selector-fit_constant-requires
fit_selector-fit_constant-requires t c =
    record { constant_at = (c.requires.selector, is-constant (c.head.ensures c.requires.selector) c.in-Constant.is); type_at = c.requires.type }

pub fit_selector-fit_cast-requires : goal.fit_selector-fit_cast-requires
fit_selector-fit_cast-requires t c =
    (c.requires, is-cast (c.head.ensures c.requires.selector) c.in-Cast.is)

pub fit_selector-fit_rename-requires : goal.fit_selector-fit_rename-requires
fit_selector-fit_rename-requires t c =
    (omega arith, (_, c.requires, is-rename (c.head.ensures c.requires.selector) c.in-Rename.is))

pub fit_selector-fit_struct-requires : goal.fit_selector-fit_struct-requires
fit_selector-fit_struct-requires t c =
    (omega arith, (_, c.requires, is_struct_mapping (c.head.ensures c.requires.selector) c.in-Struct.is))

pub fit_selector-fit_list-requires : goal.fit_selector-fit_list-requires
fit_selector-fit_list-requires t c =
    (omega arith, (_, c.requires, is_list_mapping (c.head.ensures c.requires.selector) c.in-List.is))

pub fit_selector-fit_array-requires : goal.fit_selector-fit_array-requires
fit_selector-fit_array-requires t c =
    (omega arith, (_, c.requires, is-array (c.head.ensures c.requires.selector) c.in-Array.is))

pub fit_selector-returns-in-Position : goal.fit_selector-returns-in-Position
fit_selector-returns-in-Position t c =
    λ A. c.fit_position.ensures A

pub fit_selector-returns-in-Constant : goal.fit_selector-returns-in-Constant
fit_selector-returns-in-Constant t c =
    λ A. c.fit_constant.ensures _ c.args.source _ A (is-constant
    (c.head.ensures A.selector) c.in-Constant.is)

pub fit_selector-returns-in-Cast : goal.fit_selector-returns-in-Cast
fit_selector-returns-in-Cast t c =
    λ A. c.fit_cast.ensures A (is-cast (c.head.ensures A.selector) c.in-Cast.is)

pub fit_selector-returns-in-Rename : goal.fit_selector-returns-in-Rename
fit_selector-returns-in-Rename t c =
    λ A. c.fit_rename.ensures _ A (is-rename (c.head.ensures A.selector) c.in-Rename.is)

pub fit_selector-returns-in-Struct : goal.fit_selector-returns-in-Struct
fit_selector-returns-in-Struct t c =
    λ A. c.fit_struct.ensures _ A (is_struct_mapping (c.head.ensures A.selector) c.in-Struct.is)

pub fit_selector-returns-in-List : goal.fit_selector-returns-in-List
fit_selector-returns-in-List t c =
    λ A. c.fit_list.ensures _ A (is_list_mapping (c.head.ensures A.selector) c.in-List.is)

pub fit_selector-returns-in-Array : goal.fit_selector-returns-in-Array
fit_selector-returns-in-Array t c =
    λ A. c.fit_array.ensures _ A (is-array (c.head.ensures A.selector) c.in-Array.is)

pub fit_selector-returns-in-Refused : goal.fit_selector-returns-in-Refused
fit_selector-returns-in-Refused t c =
    λ A. unknown

pub fit_struct-take_position-requires : goal.fit_struct-take_position-requires
fit_struct-take_position-requires t c =
    c.requires.1.scoped

pub fit_struct-returns-then-fields-m : goal.fit_struct-returns-then-fields-m
fit_struct-returns-then-fields-m t c =
    λ a A S. unknown

pub fit_struct-slice_bounds-table-end : goal.fit_struct-slice_bounds-table-end
fit_struct-slice_bounds-table-end t c =
    sym (length-take-le _ _ c.index_fields-len.ensures.upper_bound)

pub fit_struct-fit_fields-requires : goal.fit_struct-fit_fields-requires
fit_struct-fit_fields-requires t c =
    let (a, A, S) = c.requires in
    let K = taken_at (c.take_position.ensures A.scoped S.input) c.in-At.is in
    let (I, J) = both_structs (c.both_inside.ensures K.type A.type) c.in-Structs.is in (
      omega (arith, c.decreases),
      struct_asks A S K I J (c.struct_fields-fields.ensures S.input S.fields) c.if-fields-m.false c.index_fields-len.ensures.indexed
          c.field_stride-stride.ensures,
    )

pub fit_struct-returns-in-At-fit_fields : goal.fit_struct-returns-in-At-fit_fields
fit_struct-returns-in-At-fit_fields t c =
    λ a A S.
    let K = taken_at (c.take_position.ensures A.scoped S.input) c.in-At.is in
    let (I, J) = both_structs (c.both_inside.ensures K.type A.type) c.in-Structs.is in
    struct-fits A S K I J (gives_to (c.fit_fields.ensures (struct_asks A S K I J (c.struct_fields-fields.ensures S.input S.fields) c.if-fields-m.false
    c.index_fields-len.ensures.indexed c.field_stride-stride.ensures)) c.in-At-fit_fields.is) c.named.ensures

pub fit_struct-returns-in-Unknown : goal.fit_struct-returns-in-Unknown
fit_struct-returns-in-Unknown t c =
    λ a A S. unknown

pub fit_struct-returns-in_default : goal.fit_struct-returns-in_default
fit_struct-returns-in_default t c =
    λ a A S. unknown

pub fit_struct-returns-in-Absent : goal.fit_struct-returns-in-Absent
fit_struct-returns-in-Absent t c =
    λ a A S. unknown
