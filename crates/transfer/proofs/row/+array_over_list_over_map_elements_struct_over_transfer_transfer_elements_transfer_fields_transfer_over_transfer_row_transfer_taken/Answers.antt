-- The functions of `transfer::row` that call each other meet their contracts, by the falling measures below. Assumes
-- nothing.
use mathlib.Core.Bool.{true, false}
use Rattle.transfer.proofs.Rows.{running_none, running-ends, running-all, running-head, running_more, going_none, going_all, going-value}
use Rattle.transfer.proofs.Rows.{going_more, selector_moved, opened_by, constant_reached, rename_reached, struct-null, struct_row, struct_reached}
use Rattle.transfer.proofs.Rows.{list-null, list-row, list_reached, array-null, array_row, array_reached, fields_at, rename-takes, input-gives}
use Rattle.transfer.proofs.Rows.{cast-given, rename-given, struct-given, list-given, array-given, taken-node}
use Rattle.transfer.proofs.Reaching.{unknown, reached_as, reached_end, reached_to, reached_null}
use Rattle.transfer.proofs.Origins.{position-value}
use Rattle.transfer.proofs.Casting.{casts-are}
use Rattle.raw.proofs.Storing.{lead-short}
use Rattle.direct.proofs.Inputs.{struct-input, list-input, array-input}
use Rattle.walk.proofs.Heads.{is_position_lem, is-constant, is-cast, is-rename, is_struct_mapping, is_list_mapping, is-array}
use Rattle.plan.specs.Run.{eval}
use Rattle.values.specs.Value.{vcons, vnil}
use native.Mathlib.Omega.{arith}
use lib.Seq.{length-take-le}
use mathlib.Core.Path.{refl, sym, ◌∙◌}
use Rattle.transfer.proofs.row.+array_over_list_over_map_elements_struct_over_transfer_transfer_elements_transfer_fields_transfer_over_transfer_row_transfer_taken.Goals as goal

pub array_over-put_nothing-requires : goal.array_over-put_nothing-requires
array_over-put_nothing-requires t c =
    c.requires.rec_len_bound.2

pub array_over-put_lead-k-requires : goal.array_over-put_lead-k-requires
array_over-put_lead-k-requires t c =
    omega (arith, c.requires.rec_len_bound.2)

pub array_over-map_elements-requires : goal.array_over-map_elements-requires
array_over-map_elements-requires t c =
    let (x, N) = c.requires.node_in in
    let (P, K) = c.requires.array_at in
    let D = opened_by (c.open_node.ensures x N) c.in-Array.is in (
      omega (arith, c.decreases),
      (
        c.requires.ends,
        (
          D.elements,
          (
            selector_moved K.element (c.skip_selector-selector.ensures K.input),
            (
              c.requires.rec_len_bound.0,
              c.requires.rec_len_bound.1,
              omega
                  (arith, c.put_lead-k.ensures.ends, lead-short false c.in-Array.m, c.requires.rec_len_bound.2),
            ),
          ),
        ),
      ),
    )

pub array_over-returns-in-Null : goal.array_over-returns-in-Null
array_over-returns-in-Null t c =
    λ ρ P K N. reached_end (c.skip_selector-end.ensures P) (reached_null (array-null ρ K (c.open_node.ensures _ N) c.in-Null.is)
    c.put_nothing.ensures)

pub array_over-returns-in-Array : goal.array_over-returns-in-Array
array_over-returns-in-Array t c =
    λ ρ P K N.
    let O = c.open_node.ensures _ N in
    reached_end (c.skip_selector-end.ensures P) (array_reached ρ K O c.in-Array.is c.put_lead-k.ensures (c.map_elements.ensures (array_row ρ K O c.in-Array.is).elements
    (selector_moved K.element (c.skip_selector-selector.ensures K.input))))

pub array_over-returns-in-Row : goal.array_over-returns-in-Row
array_over-returns-in-Row t c =
    λ ρ P K N. unknown

pub array_over-returns-in-List : goal.array_over-returns-in-List
array_over-returns-in-List t c =
    λ ρ P K N. unknown

pub array_over-returns-in-Other : goal.array_over-returns-in-Other
array_over-returns-in-Other t c =
    λ ρ P K N. unknown

pub list_over-put_nothing-requires : goal.list_over-put_nothing-requires
list_over-put_nothing-requires t c =
    c.requires.rec_len_bound.2

pub list_over-put_lead-k-requires : goal.list_over-put_lead-k-requires
list_over-put_lead-k-requires t c =
    omega (arith, c.requires.rec_len_bound.2)

pub list_over-map_elements-requires : goal.list_over-map_elements-requires
list_over-map_elements-requires t c =
    let (x, N) = c.requires.node_in in
    let (P, K) = c.requires.list_at in
    let D = opened_by (c.open_node.ensures x N) c.in-List.is in (
      omega (arith, c.decreases),
      (
        c.requires.ends,
        (
          D.elements,
          (
            selector_moved K.element (c.skip_selector-selector.ensures K.input),
            (
              c.requires.rec_len_bound.0,
              c.requires.rec_len_bound.1,
              omega
                  (arith, c.put_lead-k.ensures.ends, lead-short true c.in-List.m, c.requires.rec_len_bound.2),
            ),
          ),
        ),
      ),
    )

pub list_over-returns-in-Null : goal.list_over-returns-in-Null
list_over-returns-in-Null t c =
    λ ρ P K N. reached_end (c.skip_selector-end.ensures P) (reached_null (list-null ρ K (c.open_node.ensures _ N) c.in-Null.is)
    c.put_nothing.ensures)

pub list_over-returns-in-List : goal.list_over-returns-in-List
list_over-returns-in-List t c =
    λ ρ P K N.
    let O = c.open_node.ensures _ N in
    reached_end (c.skip_selector-end.ensures P) (list_reached ρ K O c.in-List.is c.put_lead-k.ensures (c.map_elements.ensures (list-row ρ K O c.in-List.is).elements
    (selector_moved K.element (c.skip_selector-selector.ensures K.input))))

pub list_over-returns-in-Row : goal.list_over-returns-in-Row
list_over-returns-in-Row t c =
    λ ρ P K N. unknown

pub list_over-returns-in-Array : goal.list_over-returns-in-Array
list_over-returns-in-Array t c =
    λ ρ P K N. unknown

pub list_over-returns-in-Other : goal.list_over-returns-in-Other
list_over-returns-in-Other t c =
    λ ρ P K N. unknown

pub map_elements-returns-in-Cast : goal.map_elements-returns-in-Cast
map_elements-returns-in-Cast t c =
    λ X P. casts-are X P (c.each_of.ensures P) c.in-Cast.is (c.cast_elements.ensures X)

pub struct_over-put_nothing-requires : goal.struct_over-put_nothing-requires
struct_over-put_nothing-requires t c =
    c.requires.rec_len_bound.2

pub struct_over-put_lead-k-requires : goal.struct_over-put_lead-k-requires
struct_over-put_lead-k-requires t c =
    omega (arith, c.requires.rec_len_bound.2)

pub struct_over-transfer_fields-requires : goal.struct_over-transfer_fields-requires
struct_over-transfer_fields-requires t c =
    let (x, N) = c.requires.node_in in
    let (P, K) = c.requires.struct_at in
    let D = opened_by (c.open_node.ensures x N) c.in-Row.is in (
      omega (arith, c.decreases),
      (
        c.requires.ends,
        (
          D.row,
          (
            c.field_stride.ensures,
            (
              fields_at K (c.struct_fields-f.ensures K.input K.fields),
              (c.requires.rec_len_bound.0, c.requires.rec_len_bound.1, omega (arith, c.put_lead-k.ensures.ends, c.requires.rec_len_bound.2)),
            ),
          ),
        ),
      ),
    )

pub struct_over-returns-in-Null : goal.struct_over-returns-in-Null
struct_over-returns-in-Null t c =
    λ ρ P K N. reached_end (c.skip_selector.ensures P) (reached_null (struct-null ρ K (c.open_node.ensures _ N) c.in-Null.is)
    c.put_nothing.ensures)

pub struct_over-returns-in-Row : goal.struct_over-returns-in-Row
struct_over-returns-in-Row t c =
    λ ρ P K N.
    let O = c.open_node.ensures _ N in
    reached_end K.ends.1 (struct_reached ρ K O c.in-Row.is c.put_lead-k.ensures (c.transfer_fields.ensures (struct_row ρ K O c.in-Row.is).row (fields_at K
    (c.struct_fields-f.ensures K.input K.fields))))

pub struct_over-returns-in-List : goal.struct_over-returns-in-List
struct_over-returns-in-List t c =
    λ ρ P K N. unknown

pub struct_over-returns-in-Array : goal.struct_over-returns-in-Array
struct_over-returns-in-Array t c =
    λ ρ P K N. unknown

pub struct_over-returns-in-Other : goal.struct_over-returns-in-Other
struct_over-returns-in-Other t c =
    λ ρ P K N. unknown

pub transfer-returns-then-place-eq0 : goal.transfer-returns-then-place-eq0
transfer-returns-then-place-eq0 t c =
    λ ρ P N. unknown

pub transfer-returns-then-place-gt-LONGEST : goal.transfer-returns-then-place-gt-LONGEST
transfer-returns-then-place-gt-LONGEST t c =
    λ ρ P N. unknown

pub transfer-put_node-requires : goal.transfer-put_node-requires
transfer-put_node-requires t c =
    record { ends = c.requires.ends; node_in = c.requires.node_in; rec_len_bound = (c.requires.rec_len_bound.0, c.if-place-gt-LONGEST.false) }

pub transfer-put_constant-requires : goal.transfer-put_constant-requires
transfer-put_constant-requires t c =
    let K = is-constant (c.head.ensures c.requires.selector_at) c.in-Constant.is in record { constant_raw = record { type = K.type; value = K.value }; plan_len_bound = (c.requires.rec_len_bound.1, c.if-place-gt-LONGEST.false) }

pub transfer-transfer-requires : goal.transfer-transfer-requires
transfer-transfer-requires t c =
    let K = is-rename (c.head.ensures c.requires.selector_at) c.in-Rename.is in
    (omega (arith, c.decreases, c.if-place-eq0.false), (c.requires.ends, (c.requires.node_in, (K.input, (c.requires.rec_len_bound.0, c.requires.rec_len_bound.1, omega (arith, c.if-place-gt-LONGEST.false))))))

pub transfer-transfer_cast-requires : goal.transfer-transfer_cast-requires
transfer-transfer_cast-requires t c =
    record { ends = c.requires.ends; node_in = c.requires.node_in; rec_len_bound = (c.requires.rec_len_bound.0, c.if-place-gt-LONGEST.false) }

pub transfer-transfer_taken-requires : goal.transfer-transfer_taken-requires
transfer-transfer_taken-requires t c =
    (omega (arith, c.decreases, c.if-place-eq0.false), (c.requires.ends, (c.requires.node_in, (c.requires.selector_at, (c.requires.rec_len_bound.0, c.requires.rec_len_bound.1, c.if-place-gt-LONGEST.false)))))

pub transfer-transfer_taken-requires-in-List : goal.transfer-transfer_taken-requires-in-List
transfer-transfer_taken-requires-in-List t c =
    (omega (arith, c.decreases, c.if-place-eq0.false), (c.requires.ends, (c.requires.node_in, (c.requires.selector_at, (c.requires.rec_len_bound.0, c.requires.rec_len_bound.1, c.if-place-gt-LONGEST.false)))))

pub transfer-transfer_taken-requires-in-Array : goal.transfer-transfer_taken-requires-in-Array
transfer-transfer_taken-requires-in-Array t c =
    (omega (arith, c.decreases, c.if-place-eq0.false), (c.requires.ends, (c.requires.node_in, (c.requires.selector_at, (c.requires.rec_len_bound.0, c.requires.rec_len_bound.1, c.if-place-gt-LONGEST.false)))))

pub transfer-returns-in-Position : goal.transfer-returns-in-Position
transfer-returns-in-Position t c =
    λ ρ P N. reached_end (c.skip_selector.ensures P) (reached_as (position-value P (is_position_lem (c.head.ensures P) c.in-Position.is).1 ρ)
    (c.put_node.ensures _ N))

pub transfer-returns-in-Constant : goal.transfer-returns-in-Constant
transfer-returns-in-Constant t c =
    λ ρ P N.
    let K = is-constant (c.head.ensures P) c.in-Constant.is in
    reached_end (c.skip_selector-in-Constant.ensures P) (constant_reached ρ K (c.put_constant.ensures (record { type = K.type; value = K.value })))

pub transfer-returns-in-Rename : goal.transfer-returns-in-Rename
transfer-returns-in-Rename t c =
    λ ρ P N.
    let K = is-rename (c.head.ensures P) c.in-Rename.is in
    reached_end K.ends (c.past_name.ensures _ _ _ _ _ _ K.name (rename_reached ρ K (c.transfer.ensures ρ K.input (rename-takes ρ N K))))

pub transfer-returns-in-Cast : goal.transfer-returns-in-Cast
transfer-returns-in-Cast t c =
    λ ρ P N. c.transfer_cast.ensures ρ P N

pub transfer-returns-in-Struct : goal.transfer-returns-in-Struct
transfer-returns-in-Struct t c =
    λ ρ P N. c.transfer_taken.ensures ρ P (struct-input (is_struct_mapping (c.head.ensures P) c.in-Struct.is)).parts N

pub transfer-returns-in-List : goal.transfer-returns-in-List
transfer-returns-in-List t c =
    λ ρ P N. c.transfer_taken-in-List.ensures ρ P (list-input (is_list_mapping (c.head.ensures P) c.in-List.is)).parts N

pub transfer-returns-in-Array : goal.transfer-returns-in-Array
transfer-returns-in-Array t c =
    λ ρ P N. c.transfer_taken-in-Array.ensures ρ P (array-input (is-array (c.head.ensures P) c.in-Array.is)).parts N

pub transfer-returns-in-Refused : goal.transfer-returns-in-Refused
transfer-returns-in-Refused t c =
    λ ρ P N. unknown

pub transfer_elements-taken_position-p-requires : goal.transfer_elements-taken_position-p-requires
transfer_elements-taken_position-p-requires t c =
    c.requires.selector_at

pub transfer_elements-loop-i-init : goal.transfer_elements-loop-i-init
transfer_elements-loop-i-init t c =
    (refl, c.requires.rec_len_bound.2, λ X P. going_none (λ x. eval (vcons x vnil) P.tree) X _ _)

pub transfer_elements-skip_value-next-requires : goal.transfer_elements-skip_value-next-requires
transfer_elements-skip_value-next-requires t c =
    record { ends = c.requires.ends; raw_at = going-value (λ x. eval (vcons x vnil) c.requires.selector_at.tree) c.requires.elements_in (c.loop-i.invariant.2 c.requires.elements_in c.requires.selector_at) c.loop-i-test.true }

pub transfer_elements-transfer-requires : goal.transfer_elements-transfer-requires
transfer_elements-transfer-requires t c =
    let (l, b, f) = c.loop-i.invariant in (
      omega (arith, c.decreases),
      (
        c.requires.ends,
        (
          (
            _,
            c.element_node-at.ensures _ _ _ (going-value (λ x. eval (vcons x vnil) c.requires.selector_at.tree) c.requires.elements_in (f c.requires.elements_in c.requires.selector_at)
                c.loop-i-test.true),
          ),
          (c.requires.selector_at, (c.requires.rec_len_bound.0, c.requires.rec_len_bound.1, b)),
        ),
      ),
    )

pub transfer_elements-shape_of-out-in-Unknown : goal.transfer_elements-shape_of-out-in-Unknown
transfer_elements-shape_of-out-in-Unknown t c =
    c.transfer.auto.out ∙ c.loop-i.invariant.0

pub transfer_elements-returns-in-Unknown : goal.transfer_elements-returns-in-Unknown
transfer_elements-returns-in-Unknown t c =
    λ X P. unknown

pub transfer_elements-overflow_add-i : goal.transfer_elements-overflow_add-i
transfer_elements-overflow_add-i t c =
    omega (arith, c.loop-i-test.true, c.well_formed.1.1.0)

pub transfer_elements-loop-i-smaller : goal.transfer_elements-loop-i-smaller
transfer_elements-loop-i-smaller t c =
    omega (arith, c.loop-i-test.true)

pub transfer_elements-loop-i-preserved : goal.transfer_elements-loop-i-preserved
transfer_elements-loop-i-preserved t c =
    let (l, b, f) = c.loop-i.invariant in
    let W = going-value (λ x. eval (vcons x vnil) c.requires.selector_at.tree) c.requires.elements_in (f c.requires.elements_in c.requires.selector_at) c.loop-i-test.true in
    let K = reached_to (c.transfer.ensures (vcons W.value.tree vnil) c.requires.selector_at (taken-node (vcons W.value.tree vnil) (c.taken_position-p.ensures c.requires.selector_at)
    (c.element_node-at.ensures _ _ _ W))) c.in-To.is in (
      c.transfer.auto.out ∙ l,
      omega (arith, K.1.within),
      λ X' P'.
          let W = going-value (λ x. eval (vcons x vnil) P'.tree) X' (f X' P') c.loop-i-test.true in
          going_more (λ x. eval (vcons x vnil) P'.tree) X' (f X' P') c.loop-i-test.true (c.skip_value-next.ensures W) (c.transfer.ensures (vcons W.value.tree vnil) P'
          (taken-node (vcons W.value.tree vnil) (c.taken_position-p.ensures P') (c.element_node-at.ensures _ _ _ W))) c.in-To.is,
    )

pub transfer_elements-shape_of-out : goal.transfer_elements-shape_of-out
transfer_elements-shape_of-out t c =
    c.loop-i.invariant.0

pub transfer_elements-returns : goal.transfer_elements-returns
transfer_elements-returns t c =
    λ X P.
    let (a, b) = going_all (λ x. eval (vcons x vnil) P.tree) X (c.loop-i.invariant.2 X P) c.loop-i-test.false in
    c.limited.ensures _ _ _ _ _ a b

pub transfer_fields-index_fields-m-requires : goal.transfer_fields-index_fields-m-requires
transfer_fields-index_fields-m-requires t c =
    record { ends = c.requires.ends; row_in = c.requires.row_in }

pub transfer_fields-slice_bounds-transfer_row-end : goal.transfer_fields-slice_bounds-transfer_row-end
transfer_fields-slice_bounds-transfer_row-end t c =
    sym (length-take-le _ _ c.index_fields-m.ensures.upper_bound)

pub transfer_fields-slice_bounds-transfer_row-end-2 : goal.transfer_fields-slice_bounds-transfer_row-end-2
transfer_fields-slice_bounds-transfer_row-end-2 t c =
    sym (length-take-le _ _ c.index_fields-m.ensures.upper_bound_2)

pub transfer_fields-transfer_row-requires : goal.transfer_fields-transfer_row-requires
transfer_fields-transfer_row-requires t c = (
  omega (arith, c.decreases),
  (
    c.requires.ends,
    (
      c.requires.row_in,
      (
        (c.index_fields-m.ensures.indexed_in, c.requires.stride_nonzero),
        (
          c.requires.selectors_in,
          c.requires.rec_len_bound,
        ),
      ),
    ),
  ),
)

pub transfer_fields-returns : goal.transfer_fields-returns
transfer_fields-returns t c =
    λ X S. c.transfer_row.ensures X S

pub transfer_over-returns-then-place-eq0 : goal.transfer_over-returns-then-place-eq0
transfer_over-returns-then-place-eq0 t c =
    λ ρ P N. unknown

pub transfer_over-cast_value-q-requires : goal.transfer_over-cast_value-q-requires
transfer_over-cast_value-q-requires t c =
    c.requires.node_in

pub transfer_over-put_chain-requires : goal.transfer_over-put_chain-requires
transfer_over-put_chain-requires t c =
    record { ends = c.requires.ends; node_in = c.requires.node_in; rec_len_bound = (c.requires.rec_len_bound.0, c.requires.rec_len_bound.2) }

pub transfer_over-put_node-requires : goal.transfer_over-put_node-requires
transfer_over-put_node-requires t c =
    record { ends = c.requires.ends; node_in = c.requires.node_in; rec_len_bound = (c.requires.rec_len_bound.0, c.requires.rec_len_bound.2) }

pub transfer_over-struct_over-requires : goal.transfer_over-struct_over-requires
transfer_over-struct_over-requires t c = (
  omega (arith, c.decreases, c.if-place-eq0.false),
  (
    c.requires.ends,
    (
      c.requires.node_in,
      (
        (c.requires.selector_at, is_struct_mapping (c.head.ensures c.requires.selector_at) c.in-Struct.is),
        c.requires.rec_len_bound,
      ),
    ),
  ),
)

pub transfer_over-list_over-requires : goal.transfer_over-list_over-requires
transfer_over-list_over-requires t c = (
  omega (arith, c.decreases, c.if-place-eq0.false),
  (
    c.requires.ends,
    (
      c.requires.node_in,
      (
        (c.requires.selector_at, is_list_mapping (c.head.ensures c.requires.selector_at) c.in-List.is),
        c.requires.rec_len_bound,
      ),
    ),
  ),
)

pub transfer_over-array_over-requires : goal.transfer_over-array_over-requires
transfer_over-array_over-requires t c = (
  omega (arith, c.decreases, c.if-place-eq0.false),
  (
    c.requires.ends,
    (
      c.requires.node_in,
      (
        (c.requires.selector_at, is-array (c.head.ensures c.requires.selector_at) c.in-Array.is),
        c.requires.rec_len_bound,
      ),
    ),
  ),
)

pub transfer_over-returns-in-Position : goal.transfer_over-returns-in-Position
transfer_over-returns-in-Position t c =
    λ ρ P N. unknown

pub transfer_over-returns-in-Constant : goal.transfer_over-returns-in-Constant
transfer_over-returns-in-Constant t c =
    λ ρ P N. unknown

pub transfer_over-returns-in-Cast : goal.transfer_over-returns-in-Cast
transfer_over-returns-in-Cast t c =
    λ ρ P N. let K = is-cast (c.head.ensures P) c.in-Cast.is in let G = cast-given ρ N K in reached_end (c.skip_selector.ensures P)
    (c.put_chain.ensures _ _ G (c.cast_value-q.ensures ρ P K G))

pub transfer_over-returns-in-Rename : goal.transfer_over-returns-in-Rename
transfer_over-returns-in-Rename t c =
    λ ρ P N. let K = is-rename (c.head.ensures P) c.in-Rename.is in reached_end (c.skip_selector-in-Rename.ensures P) (rename_reached ρ K
    (c.put_node.ensures _ (rename-given ρ N K)))

pub transfer_over-returns-in-Struct : goal.transfer_over-returns-in-Struct
transfer_over-returns-in-Struct t c =
    λ ρ P N. let K = is_struct_mapping (c.head.ensures P) c.in-Struct.is in c.struct_over.ensures ρ P K (struct-given ρ N K)

pub transfer_over-returns-in-List : goal.transfer_over-returns-in-List
transfer_over-returns-in-List t c =
    λ ρ P N. let K = is_list_mapping (c.head.ensures P) c.in-List.is in c.list_over.ensures ρ P K (list-given ρ N K)

pub transfer_over-returns-in-Array : goal.transfer_over-returns-in-Array
transfer_over-returns-in-Array t c =
    λ ρ P N. let K = is-array (c.head.ensures P) c.in-Array.is in c.array_over.ensures ρ P K (array-given ρ N K)

pub transfer_over-returns-in-Refused : goal.transfer_over-returns-in-Refused
transfer_over-returns-in-Refused t c =
    λ ρ P N. unknown

pub transfer_row-loop-i-init : goal.transfer_row-loop-i-init
transfer_row-loop-i-init t c =
    (refl, c.requires.rec_len_bound.2, λ X S. running_none X.values.values S _ _)

pub transfer_row-taken_position-p-requires : goal.transfer_row-taken_position-p-requires
transfer_row-taken_position-p-requires t c =
    running-head c.requires.row_in.values.values c.requires.selectors_in (c.loop-i.invariant.2 c.requires.row_in c.requires.selectors_in) c.loop-i-test.true

pub transfer_row-indexed_value-at-requires : goal.transfer_row-indexed_value-at-requires
transfer_row-indexed_value-at-requires t c =
    record { row_in = c.requires.row_in; indexed_in = c.requires.indexed_in.0; stride_nonzero = c.requires.indexed_in.1; ends = c.requires.ends }

pub transfer_row-transfer-requires : goal.transfer_row-transfer-requires
transfer_row-transfer-requires t c =
    let (l, b, f) = c.loop-i.invariant in (
      omega (arith, c.decreases),
      (
        c.requires.ends,
        (
          (_, c.indexed_value-at.ensures c.requires.row_in),
          (
            running-head c.requires.row_in.values.values c.requires.selectors_in (f c.requires.row_in c.requires.selectors_in) c.loop-i-test.true,
            (c.requires.rec_len_bound.0, c.requires.rec_len_bound.1, b),
          ),
        ),
      ),
    )

pub transfer_row-shape_of-out-in-Unknown : goal.transfer_row-shape_of-out-in-Unknown
transfer_row-shape_of-out-in-Unknown t c =
    c.transfer.auto.out ∙ c.loop-i.invariant.0

pub transfer_row-returns-in-Unknown : goal.transfer_row-returns-in-Unknown
transfer_row-returns-in-Unknown t c =
    λ X S. unknown

pub transfer_row-overflow_add-i : goal.transfer_row-overflow_add-i
transfer_row-overflow_add-i t c =
    omega (arith, c.loop-i-test.true, c.well_formed.1.1.1.1.1.1.0)

pub transfer_row-loop-i-smaller : goal.transfer_row-loop-i-smaller
transfer_row-loop-i-smaller t c =
    omega (arith, c.loop-i-test.true)

pub transfer_row-loop-i-preserved : goal.transfer_row-loop-i-preserved
transfer_row-loop-i-preserved t c =
    let (l, b, f) = c.loop-i.invariant in
    let P = running-head c.requires.row_in.values.values c.requires.selectors_in (f c.requires.row_in c.requires.selectors_in) c.loop-i-test.true in
    let K = reached_to (c.transfer.ensures c.requires.row_in.values.values P (taken-node c.requires.row_in.values.values (c.taken_position-p.ensures P)
    (c.indexed_value-at.ensures c.requires.row_in))) c.in-To.is in (
      c.transfer.auto.out ∙ l,
      omega (arith, K.1.within),
      λ X' S'.
          let P = running-head X'.values.values S' (f X' S') c.loop-i-test.true in
          running_more X'.values.values S' (f X' S') c.loop-i-test.true (c.transfer.ensures X'.values.values P (taken-node X'.values.values
          (c.taken_position-p.ensures P) (c.indexed_value-at.ensures X'))) c.in-To.is,
    )

pub transfer_row-shape_of-out : goal.transfer_row-shape_of-out
transfer_row-shape_of-out t c =
    c.loop-i.invariant.0

pub transfer_row-returns : goal.transfer_row-returns
transfer_row-returns t c =
    λ X S.
    let R = c.loop-i.invariant.2 X S in
    let (a, b) = running-all X.values.values S R c.loop-i-test.false in
    reached_end (running-ends X.values.values S R c.loop-i-test.false) (c.limited.ensures _ _ _ _ _ a b)

pub transfer_taken-transfer_over-requires : goal.transfer_taken-transfer_over-requires
transfer_taken-transfer_over-requires t c =
    (omega (arith, c.decreases), (c.requires.ends, (c.requires.node_in, (c.requires.selector_at, c.requires.rec_len_bound))))

pub transfer_taken-returns-then-is_position : goal.transfer_taken-returns-then-is_position
transfer_taken-returns-then-is_position t c =
    λ ρ P I N. c.transfer_over.ensures ρ P (input-gives ρ I (c.is_position.ensures I.input c.if-is_position.true ρ) N)

pub transfer_taken-returns : goal.transfer_taken-returns
transfer_taken-returns t c =
    λ ρ P I N. unknown
