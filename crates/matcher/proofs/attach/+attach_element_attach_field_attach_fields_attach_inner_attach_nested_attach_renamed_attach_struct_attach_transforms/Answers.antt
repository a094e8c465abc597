-- The proof of the matchers' cycle. The measure is 7 for each level left, and up to 5 more by the function. `Remaining`
-- holds at the head of the loop over target fields, and the arena's first `used` numbers are as they were. Assumes
-- nothing.
use Rattle.labels.proofs.Arena.{table_kept}
use borrow.Rule.Slice.PartMut.{take_put, same_len_mid}
use lib.Seq.{length-take-le}
use lib.ListN.{length}
use native.Mathlib.Omega.{arith}
use Rattle.matcher.proofs.Remaining.{remaining_all, remaining_none, remaining_unlabelled, field, field-name, field-after, remaining-stop}
use Rattle.matcher.proofs.Remaining.{remaining-room, remaining-more, table_still}
use mathlib.Core.Path.{refl, sym, ap, ◌∙◌}
use Rattle.layout.specs.code.Answers.{head_res, label_at}
use Rattle.layout.proofs.Ways.{head_in}
use Rattle.layout.proofs.View.{deep, leaf_at_lem, never_headless}
use Rattle.forms.proofs.Writing.{extent, text-long}
use Rattle.plan.specs.Selector.{position, list_mapping, array_mapping}
use Rattle.matching.specs.Build.{struct_part, list_part, array_part, list_selector, array_selector}
use Rattle.layout.specs.Find.{counterpart}
use Rattle.builder.specs.code.Answers.{element_of, defaults_at}
use Rattle.builder.proofs.Matching.{leaf-none, makes-refused, makes_as}
use Rattle.builder.proofs.Rows.{makes-room, list_maps, array_maps}
use Rattle.builder.proofs.Taking.{part-struct, part_no_struct, part-list, part-array, part-no_element, part-inner, part_no_inner, found_here, found-absent}
use Rattle.matcher.proofs.Cycle.{makes-to, required_unkept, nested_is, nested_null, nested_other, nested_struct, nested_inner, struct-other}
use Rattle.matcher.proofs.Cycle.{struct_faulted, struct_stops, struct-left_out, struct-kept, row_room, count_at, columns_within, rename_on}
use Rattle.matcher.proofs.Cycle.{renamed-plain, renamed-stopped, renamed-made, none-at, none_is, element_unlike, element-stopped, element-left_out}
use Rattle.matcher.proofs.Cycle.{element-kept, element_names, inner-list, inner-list-other, inner-array, inner-array-other, inner-none, sought-at}
use Rattle.matcher.proofs.Cycle.{sought-absent}
use mathlib.Core.Bool.{Bool, ◌&&◌}
use Prim.Native.Nat.{◌+◌, ◌-◌}
use mathlib.Core.Bool.{not}
use Rattle.matcher.proofs.attach.+attach_element_attach_field_attach_fields_attach_inner_attach_nested_attach_renamed_attach_struct_attach_transforms.Goals as goal

pub attach_element-returns-then-not-same_element : goal.attach_element-returns-then-not-same_element
attach_element-returns-then-not-same_element t c =
    λ from f g M P Q lt nm.
    makes-refused _ _ _ _ _ (element_unlike c.args.build.matching c.args.build.policy f (label_at c.args.target.now c.args.pair.target.label) Q.tree (label_at
    c.args.incoming.now c.args.pair.incoming.label) P.tree (c.same_element.ensures (label_at c.args.incoming.now c.args.pair.incoming.label)
    (label_at c.args.target.now c.args.pair.target.label) refl refl) (ap not c.if-not-same_element.true))

pub attach_element-put_head-requires : goal.attach_element-put_head-requires
attach_element-put_head-requires t c =
    omega (arith, extent c.requires.pair_at.1.0, c.requires.target_len_bound)

pub attach_element-overflow_add-first : goal.attach_element-overflow_add-first
attach_element-overflow_add-first t c =
    omega (arith, extent c.requires.pair_at.1.0, c.requires.target_len_bound)

pub attach_element-attach_renamed-made-requires : goal.attach_element-attach_renamed-made-requires
attach_element-attach_renamed-made-requires t c =
    (omega (arith, c.decreases), (c.requires.pair_at, ((none-at c.args.target.now, λ n. absurd (omega (arith, n))), (c.requires.pair_named, (c.requires.target_len_bound.0, c.requires.target_len_bound.0, c.requires.target_len_bound.1)))))

pub attach_element-returns-then-is_refused : goal.attach_element-returns-then-is_refused
attach_element-returns-then-is_refused t c =
    λ from f g M P Q lt nm.
    element-stopped c.args.build.matching c.args.build.policy f g (label_at c.args.target.now c.args.pair.target.label) Q.tree (label_at c.args.incoming.now
    c.args.pair.incoming.label) P.tree M (c.same_element.ensures (label_at c.args.incoming.now c.args.pair.incoming.label) (label_at c.args.target.now c.args.pair.target.label) refl refl) (ap not c.if-not-same_element.false) _ _ from _ c.put_head.ensures (none_is c.args.target.now 0) _
    (c.attach_renamed-made.ensures (from + 1) (none-at c.args.target.now) P Q (omega (arith, lt)) nm) (sym c.is_refused.ensures ∙ c.if-is_refused.true)

pub attach_element-put_position-requires : goal.attach_element-put_position-requires
attach_element-put_position-requires t c =
    omega (arith, extent c.requires.pair_at.1.0, c.requires.target_len_bound)

pub attach_element-returns-then-is_bare : goal.attach_element-returns-then-is_bare
attach_element-returns-then-is_bare t c =
    λ from f g M P Q lt nm.
    element-left_out c.args.build.matching c.args.build.policy f g (label_at c.args.target.now c.args.pair.target.label) Q.tree (label_at c.args.incoming.now
    c.args.pair.incoming.label) P.tree M (c.same_element.ensures (label_at c.args.incoming.now c.args.pair.incoming.label) (label_at c.args.target.now c.args.pair.target.label) refl refl) (ap not c.if-not-same_element.false) _ _ from _ c.put_head.ensures (none_is c.args.target.now 0) _
    (c.attach_renamed-made.ensures (from + 1) (none-at c.args.target.now) P Q (omega (arith, lt)) nm) (sym c.is_refused.ensures ∙ c.if-is_refused.false) (sym
    c.is_bare.ensures ∙ c.if-is_bare.true) (c.attach_renamed-made.auto.out ∙ c.put_head.auto.out) c.put_position.ensures (omega
    (arith, lt, extent Q))

pub attach_element-overflow_add-result : goal.attach_element-overflow_add-result
attach_element-overflow_add-result t c =
    omega (
      arith,
      makes-room _ (c.attach_renamed-made.ensures 0 (none-at c.args.target.now) c.requires.pair_at.0 c.requires.pair_at.1.0 (omega (arith, c.requires.target_len_bound)) (λ n. omega
          (arith, c.requires.target_len_bound))) (sym c.is_refused.ensures ∙ c.if-is_refused.false),
      c.len_of.ensures,
      extent c.requires.pair_at.1.0,
      c.requires.target_len_bound,
    )

pub attach_element-returns : goal.attach_element-returns
attach_element-returns t c =
    λ from f g M P Q lt nm.
    element-kept c.args.build.matching c.args.build.policy f g (label_at c.args.target.now c.args.pair.target.label) Q.tree (label_at c.args.incoming.now
    c.args.pair.incoming.label) P.tree M (c.same_element.ensures (label_at c.args.incoming.now c.args.pair.incoming.label) (label_at c.args.target.now c.args.pair.target.label) refl refl) (ap not c.if-not-same_element.false) _ _ from _ c.put_head.ensures (none_is c.args.target.now 0) _
    (c.attach_renamed-made.ensures (from + 1) (none-at c.args.target.now) P Q (omega (arith, lt)) nm) (sym c.is_refused.ensures ∙ c.if-is_refused.false) (sym
    c.is_bare.ensures ∙ c.if-is_bare.false) c.put_head.auto.out c.len_of.ensures (omega arith)

pub attach_field-slice_bounds-find_in-end : goal.attach_field-slice_bounds-find_in-end
attach_field-slice_bounds-find_in-end t c =
    omega arith

pub attach_field-slice_bounds-find_in-end-2 : goal.attach_field-slice_bounds-find_in-end-2
attach_field-slice_bounds-find_in-end-2 t c =
    sym (length-take-le c.args.sought.used c.args.arena.now c.requires.sought_in.0)

pub attach_field-find_in-requires : goal.attach_field-find_in-requires
attach_field-find_in-requires t c =
    record { columns_at = c.requires.sought_at.0; table = table_kept c.args.arena.now c.args.arena.now c.requires.sought_in.0 refl c.requires.sought_in.1; span_in = c.requires.span_in.0 }

pub attach_field-offset_bounds-arena-used : goal.attach_field-offset_bounds-arena-used
attach_field-offset_bounds-arena-used t c =
    omega (arith, c.requires.sought_in.0, c.well_formed.1.1.1.1.1.1.1.0.1)

pub attach_field-slice_bounds-attach_renamed-count : goal.attach_field-slice_bounds-attach_renamed-count
attach_field-slice_bounds-attach_renamed-count t c =
    omega arith

pub attach_field-slice_bounds-attach_renamed-start : goal.attach_field-slice_bounds-attach_renamed-start
attach_field-slice_bounds-attach_renamed-start t c =
    omega arith

pub attach_field-slice_bounds-attach_renamed-end : goal.attach_field-slice_bounds-attach_renamed-end
attach_field-slice_bounds-attach_renamed-end t c =
    omega arith

pub attach_field-attach_renamed-requires : goal.attach_field-attach_renamed-requires
attach_field-attach_renamed-requires t c =
    let H = found_here c.args.build.incoming c.args.sought.depth c.args.incoming.now (counterpart c.args.build.matching (label_at c.args.target.now c.args.sought.column.label) c.requires.sought_at.0.columns) (c.find_in.ensures c.requires.sought_at.0) c.in-At.is in
    (omega (arith, c.decreases), ((H.inner, c.requires.sought_at.1), (c.requires.indexed_table_at, ((H.inside, c.requires.span_in.0, c.requires.span_in.1), c.requires.target_len_bound))))

pub attach_field-put_missing-requires : goal.attach_field-put_missing-requires
attach_field-put_missing-requires t c =
    record { span_in = c.requires.span_in; type_at = c.requires.sought_at.1.0; indexed_table_at = c.requires.indexed_table_at; target_len_bound = c.requires.target_len_bound }

pub attach_field-shape_of-arena-in-At : goal.attach_field-shape_of-arena-in-At
attach_field-shape_of-arena-in-At t c =
    same_len_mid c.args.sought.used (length c.args.arena.now - c.args.sought.used) c.args.arena.now c.attach_renamed.new.arena c.attach_renamed.auto.arena

pub attach_field-returns-in-At : goal.attach_field-returns-in-At
attach_field-returns-in-At t c =
    record {
      attached_field = λ from T P Q lt.
          let H = found_here c.args.build.incoming c.args.sought.depth c.args.incoming.now (counterpart c.args.build.matching (label_at c.args.target.now c.args.sought.column.label) P.columns) (c.find_in.ensures P) c.in-At.is in
          makes_as _ _ _ _ _ _ (sought-at c.args.build.matching c.args.build.policy (defaults_at c.args.build.defaults T) c.args.sought.missing.insert c.args.sought.missing.number (label_at c.args.target.now c.args.sought.column.label) Q.tree (counterpart c.args.build.matching (label_at c.args.target.now c.args.sought.column.label) P.columns) H.is) (c.attach_renamed.ensures from T H.inner Q (omega (arith, lt)) (λ n. lt));
      arena_unchanged = take_put c.args.sought.used (length c.args.arena.now - c.args.sought.used) c.args.arena.now c.attach_renamed.new.arena c.requires.sought_in.0;
    }

pub attach_field-returns-in-Absent : goal.attach_field-returns-in-Absent
attach_field-returns-in-Absent t c =
    record {
      attached_field = λ from T P Q lt.
          let X = counterpart c.args.build.matching (label_at c.args.target.now c.args.sought.column.label) P.columns in
          makes_as _ _ _ _ _ _ (sought-absent c.args.build.matching c.args.build.policy (defaults_at c.args.build.defaults T) c.args.sought.missing.insert c.args.sought.missing.number (label_at c.args.target.now c.args.sought.column.label) Q.tree X (found-absent c.args.build.incoming c.args.sought.depth
          c.args.incoming.now X (c.find_in.ensures P) c.in-Absent.is)) (c.put_missing.ensures from T Q lt);
      arena_unchanged = refl;
    }

pub attach_fields-loop-i-init : goal.attach_fields-loop-i-init
attach_fields-loop-i-init t c =
    (remaining_all c.requires.rows_at.1.0 c.requires.target_len_bound.2, refl, refl)

pub attach_fields-attach_field-made-requires : goal.attach_fields-attach_field-made-requires
attach_fields-attach_field-made-requires t c = (
  omega (arith, c.decreases),
  (
    (c.requires.rows_at.0, ((field c.loop-i.invariant.0 c.loop-i-test.true c.label.ensures.result_value c.in-Is.is).head, c.requires.rows_at.1.1)),
    (
      c.requires.indexed_table_at,
      (
        field-name c.loop-i.invariant.0 c.loop-i-test.true c.label.ensures.result_value c.in-Is.is c.label.ensures.label_in,
        (
          (
            c.requires.target_len_bound.0,
            c.requires.target_len_bound.1,
            omega (
              arith,
              c.loop-i.invariant.0.room,
              field-after c.loop-i.invariant.0 c.loop-i-test.true c.label.ensures.result_value c.in-Is.is,
            ),
          ),
          (
            (omega arith),
            table_still c.fill_fields-used.new.arena c.loop-i.arena c.loop-i.invariant.1 c.fill_fields-used.ensures.table,
          ),
        ),
      ),
    ),
  ),
)

pub attach_fields-shape_of-out-then-is_refused : goal.attach_fields-shape_of-out-then-is_refused
attach_fields-shape_of-out-then-is_refused t c =
    c.attach_field-made.auto.out ∙ c.loop-i.invariant.0.kept

pub attach_fields-shape_of-arena-then-is_refused : goal.attach_fields-shape_of-arena-then-is_refused
attach_fields-shape_of-arena-then-is_refused t c =
    c.attach_field-made.auto.arena ∙ c.loop-i.invariant.2 ∙ c.fill_fields-used.auto.arena

pub attach_fields-returns-then-is_refused : goal.attach_fields-returns-then-is_refused
attach_fields-returns-then-is_refused t c =
    remaining-stop c.loop-i.invariant.0 c.loop-i-test.true c.label.ensures.result_value c.in-Is.is c.inserts-insert.ensures _ (λ T P. c.attach_field-made.ensures.attached_field c.loop-i.c.at T P (field c.loop-i.invariant.0 c.loop-i-test.true c.label.ensures.result_value c.in-Is.is
    ).head (field-after c.loop-i.invariant.0 c.loop-i-test.true c.label.ensures.result_value c.in-Is.is)) c.failed.ensures (sym c.is_refused.ensures ∙ c.if-is_refused.true)

pub attach_fields-overflow_add-to : goal.attach_fields-overflow_add-to
attach_fields-overflow_add-to t c =
    omega (
      arith,
      remaining-room c.loop-i.invariant.0 c.loop-i-test.true c.label.ensures.result_value c.in-Is.is c.inserts-insert.ensures _ (λ T P. c.attach_field-made.ensures.attached_field c.loop-i.c.at T P (field c.loop-i.invariant.0 c.loop-i-test.true c.label.ensures.result_value c.in-Is.is
          ).head (field-after c.loop-i.invariant.0 c.loop-i-test.true c.label.ensures.result_value c.in-Is.is)) (sym c.is_refused.ensures ∙ c.if-is_refused.false) c.requires.indexed_table_at.0 c.requires.rows_at.0,
      extent (field c.loop-i.invariant.0 c.loop-i-test.true c.label.ensures.result_value c.in-Is.is).head,
      c.requires.target_len_bound,
      c.len_of-to.ensures,
    )

pub attach_fields-skip_type-c-requires : goal.attach_fields-skip_type-c-requires
attach_fields-skip_type-c-requires t c =
    (field c.loop-i.invariant.0 c.loop-i-test.true c.label.ensures.result_value c.in-Is.is).head

pub attach_fields-shape_of-arena-in-Refused : goal.attach_fields-shape_of-arena-in-Refused
attach_fields-shape_of-arena-in-Refused t c =
    c.loop-i.invariant.2 ∙ c.fill_fields-used.auto.arena

pub attach_fields-returns-in-Refused : goal.attach_fields-returns-in-Refused
attach_fields-returns-in-Refused t c =
    λ T P Q. remaining_unlabelled c.loop-i.invariant.0 c.loop-i-test.true c.label.ensures.result_value c.in-Refused.is

pub attach_fields-overflow_add-i : goal.attach_fields-overflow_add-i
attach_fields-overflow_add-i t c =
    omega (arith, c.well_formed.1.1.1.1.1.0, c.loop-i-test.true)

pub attach_fields-loop-i-preserved : goal.attach_fields-loop-i-preserved
attach_fields-loop-i-preserved t c = (
  remaining-more c.loop-i.invariant.0 c.loop-i-test.true c.label.ensures.result_value c.in-Is.is c.inserts-insert.ensures _ (λ T P. c.attach_field-made.ensures.attached_field c.loop-i.c.at T P (field c.loop-i.invariant.0 c.loop-i-test.true c.label.ensures.result_value c.in-Is.is
      ).head (field-after c.loop-i.invariant.0 c.loop-i-test.true c.label.ensures.result_value c.in-Is.is)) (sym c.is_refused.ensures ∙ c.if-is_refused.false) c.requires.indexed_table_at.0 c.requires.rows_at.0 c.attach_field-made.auto.out (c.skip_type-c.ensures (field c.loop-i.invariant.0 c.loop-i-test.true c.label.ensures.result_value c.in-Is.is).head) c.len_of-to.ensures (c.both-same.ensures ∙ ap (λ (b : Bool). c.loop-i.same && b) c.is_bare.ensures),
  c.attach_field-made.ensures.arena_unchanged ∙ c.loop-i.invariant.1,
  c.attach_field-made.auto.arena ∙ c.loop-i.invariant.2,
)

pub attach_fields-shape_of-arena : goal.attach_fields-shape_of-arena
attach_fields-shape_of-arena t c =
    c.loop-i.invariant.2 ∙ c.fill_fields-used.auto.arena

pub attach_fields-returns : goal.attach_fields-returns
attach_fields-returns t c =
    remaining_none c.loop-i.invariant.0 c.loop-i-test.false

pub attach_inner-returns-in_default : goal.attach_inner-returns-in_default
attach_inner-returns-in_default t c =
    λ P Q.
    let E = part-list c.args.build.target c.args.types.depth c.args.target.now c.args.types.target.at (element_of Q.tree) Q.end (c.element_part.ensures
    c.args.types.depth Q) c.in-List.is in
    makes-refused _ _ _ _ _ (inner-list-other c.args.build.matching c.args.build.policy E.label E.type c.args.types.place.position P.tree E.is
    (part_no_inner c.args.build.incoming c.args.types.depth c.args.incoming.now c.args.types.incoming.at (list_part P.tree) P.end
    (c.list_part.ensures c.args.types.depth P) c.in_default.is))

pub attach_inner-overflow_sub-pair : goal.attach_inner-overflow_sub-pair
attach_inner-overflow_sub-pair t c =
    let z = deep c.requires.types_at.0 in omega arith

pub attach_inner-attach_element-requires : goal.attach_inner-attach_element-requires
attach_inner-attach_element-requires t c =
    let z = deep c.requires.types_at.0 in
    let E = part-list c.args.build.target c.args.types.depth c.args.target.now c.args.types.target.at (element_of c.requires.types_at.1.0.tree) c.requires.types_at.1.0.end
    (c.element_part.ensures c.args.types.depth c.requires.types_at.1.0) c.in-List.is in
    let I = part-inner c.args.build.incoming c.args.types.depth c.args.incoming.now c.args.types.incoming.at (list_part c.requires.types_at.0.tree) c.requires.types_at.0.end
    (c.list_part.ensures c.args.types.depth c.requires.types_at.0) c.in-Is.is in (
      omega (arith, c.decreases),
      (
        (I.element.inner, (E.element.inner, c.requires.types_at.1.1)),
        (
          (I.element.inside, E.element.inside, E.element.short),
          (c.requires.target_len_bound.0, omega (arith, E.element.after, c.requires.target_len_bound)),
        ),
      ),
    )

pub attach_inner-returns-in_default-array_part : goal.attach_inner-returns-in_default-array_part
attach_inner-returns-in_default-array_part t c =
    λ P Q.
    let E = part-array c.args.build.target c.args.types.depth c.args.target.now c.args.types.target.at (element_of Q.tree) Q.end
    (c.element_part.ensures c.args.types.depth Q) c.in-Array.is in
    makes-refused _ _ _ _ _ (inner-array-other c.args.build.matching c.args.build.policy E.label E.type c.args.types.place.position P.tree
    c.in-Array.width E.is (part_no_inner c.args.build.incoming c.args.types.depth c.args.incoming.now c.args.types.incoming.at (array_part
    c.in-Array.width P.tree) P.end (c.array_part.ensures c.args.types.depth P) c.in_default-array_part.is))

pub attach_inner-overflow_sub-pair-in-Array : goal.attach_inner-overflow_sub-pair-in-Array
attach_inner-overflow_sub-pair-in-Array t c =
    let z = deep c.requires.types_at.0 in omega arith

pub attach_inner-attach_element-requires-in-Array : goal.attach_inner-attach_element-requires-in-Array
attach_inner-attach_element-requires-in-Array t c =
    let z = deep c.requires.types_at.0 in
    let E = part-array c.args.build.target c.args.types.depth c.args.target.now c.args.types.target.at (element_of c.requires.types_at.1.0.tree) c.requires.types_at.1.0.end
    (c.element_part.ensures c.args.types.depth c.requires.types_at.1.0) c.in-Array.is in
    let I = part-inner c.args.build.incoming c.args.types.depth c.args.incoming.now c.args.types.incoming.at (array_part c.in-Array.width c.requires.types_at.0.tree)
    c.requires.types_at.0.end (c.array_part.ensures c.args.types.depth c.requires.types_at.0) c.in-Is-array_part.is in (
      omega (arith, c.decreases),
      (
        (I.element.inner, (E.element.inner, c.requires.types_at.1.1)),
        (
          (I.element.inside, E.element.inside, E.element.short),
          (c.requires.target_len_bound.0, omega (arith, E.element.after, c.requires.target_len_bound)),
        ),
      ),
    )

pub attach_inner-returns-in-Is : goal.attach_inner-returns-in-Is
attach_inner-returns-in-Is t c =
    λ P Q.
    let E = part-list c.args.build.target c.args.types.depth c.args.target.now c.args.types.target.at (element_of Q.tree) Q.end
    (c.element_part.ensures c.args.types.depth Q) c.in-List.is in
    let I = part-inner c.args.build.incoming c.args.types.depth c.args.incoming.now c.args.types.incoming.at (list_part P.tree) P.end
    (c.list_part.ensures c.args.types.depth P) c.in-Is.is in
    makes-to _ _ _ _ E.element.ends (inner-list c.args.build.matching c.args.build.policy E.label E.type c.args.types.place.position P.tree E.is
    I.is ∙ element_names c.args.build.matching c.args.build.policy (list_selector c.args.types.place.position) E.element.label E.element.tree
    I.element.label I.element.tree)
    (c.attach_element.ensures c.args.types.target.at (list_selector c.args.types.place.position) (λ s. list_mapping (position c.args.types.place.position)
    s) (list_maps
    c.args.types.place.position) I.element.inner E.element.inner E.element.after (E.element.named c.args.build.matching _ _
    c.requires.types_at.1.1))

pub attach_inner-returns-in-Is-array_part : goal.attach_inner-returns-in-Is-array_part
attach_inner-returns-in-Is-array_part t c =
    λ P Q.
    let E = part-array c.args.build.target c.args.types.depth c.args.target.now c.args.types.target.at (element_of Q.tree) Q.end
    (c.element_part.ensures c.args.types.depth Q) c.in-Array.is in
    let I = part-inner c.args.build.incoming c.args.types.depth c.args.incoming.now c.args.types.incoming.at (array_part c.in-Array.width P.tree)
    P.end (c.array_part.ensures c.args.types.depth P) c.in-Is-array_part.is in
    makes-to _ _ _ _ E.element.ends (inner-array c.args.build.matching c.args.build.policy E.label E.type c.args.types.place.position P.tree
    c.in-Array.width E.is I.is ∙ element_names c.args.build.matching c.args.build.policy (array_selector c.args.types.place.position)
    E.element.label E.element.tree I.element.label I.element.tree)
    (c.attach_element-in-Array.ensures c.args.types.target.at (array_selector c.args.types.place.position) (λ s. array_mapping (position
    c.args.types.place.position) s)
    (array_maps c.args.types.place.position) I.element.inner E.element.inner E.element.after (E.element.named c.args.build.matching _ _
    c.requires.types_at.1.1))

pub attach_inner-returns-in-Mismatch : goal.attach_inner-returns-in-Mismatch
attach_inner-returns-in-Mismatch t c =
    λ P Q.
    makes-refused _ _ _ _ _ (inner-none c.args.build.matching c.args.build.policy c.args.types.place.position P.tree (part-no_element c.args.build.target
    c.args.types.depth c.args.target.now c.args.types.target.at (element_of Q.tree) Q.end (c.element_part.ensures c.args.types.depth Q)
    c.in-Mismatch.is))

pub attach_nested-returns-then-is_null_incoming : goal.attach_nested-returns-then-is_null_incoming
attach_nested-returns-then-is_null_incoming t c =
    λ T P Q.
    makes_as _ _ _ _ _ _ (nested_null c.args.build.matching c.args.build.policy c.args.types.place.position Q.tree P.tree _ (c.is_null_incoming.ensures
    c.args.build.incoming c.args.types.depth P) c.if-is_null_incoming.true) (c.put_null_cast.ensures Q)

pub attach_nested-attach_struct-requires : goal.attach_nested-attach_struct-requires
attach_nested-attach_struct-requires t c =
    let S = part-struct c.args.build.target c.args.types.depth c.args.target.now c.args.types.target.at (struct_part c.requires.types_at.1.0.tree) c.requires.types_at.1.0.end
    (c.struct_part.ensures c.args.build.target c.args.types.depth c.requires.types_at.1.0) c.in-Is.is in
    (omega (arith, c.decreases), ((c.requires.types_at.0, (S.inner, c.requires.types_at.1.1)), (c.requires.indexed_table_at, (c.requires.target_len_bound.0, c.requires.target_len_bound.1, S.within, omega (arith, S.after, c.requires.target_len_bound)))))

pub attach_nested-returns-in-Is : goal.attach_nested-returns-in-Is
attach_nested-returns-in-Is t c =
    λ T P Q.
    let S = part-struct c.args.build.target c.args.types.depth c.args.target.now c.args.types.target.at (struct_part Q.tree) Q.end
    (c.struct_part.ensures c.args.build.target c.args.types.depth Q) c.in-Is.is in
    makes-to _ _ _ _ S.ends (nested_other c.args.build.matching c.args.build.policy c.args.types.place.position Q.tree P.tree _
    (c.is_null_incoming.ensures c.args.build.incoming c.args.types.depth P) c.if-is_null_incoming.false ∙ nested_struct c.args.build.matching c.args.build.policy
    (defaults_at c.args.build.defaults T) c.args.types.place.position P.tree Q.tree S.is) (c.attach_struct.ensures c.args.types.target.at T P
    S.inner S.after)

pub attach_nested-returns-in-Mismatch : goal.attach_nested-returns-in-Mismatch
attach_nested-returns-in-Mismatch t c =
    λ T P Q.
    let n = part_no_struct c.args.build.target c.args.types.depth c.args.target.now c.args.types.target.at (struct_part Q.tree) Q.end
    (c.struct_part.ensures c.args.build.target c.args.types.depth Q) c.in-Mismatch.is in
    makes_as _ _ _ _ _ _ (nested_other c.args.build.matching c.args.build.policy c.args.types.place.position Q.tree P.tree _
    (c.is_null_incoming.ensures
    c.args.build.incoming c.args.types.depth P) c.if-is_null_incoming.false ∙ nested_inner c.args.build.matching c.args.build.policy (defaults_at c.args.build.defaults T)
    c.args.types.place.position P.tree Q.tree n) (c.attach_inner.ensures P Q)

pub attach_renamed-returns-then-not-keeps_required : goal.attach_renamed-returns-then-not-keeps_required
attach_renamed-returns-then-not-keeps_required t c =
    λ from T P Q le lt.
    makes-refused _ _ _ _ _ (required_unkept c.args.build.matching c.args.build.policy (defaults_at c.args.build.defaults T) (label_at c.args.target.now
    c.args.pair.target.label) Q.tree c.args.pair.place.position (label_at c.args.incoming.now c.args.pair.incoming.label) P.tree
    (c.keeps_required.ensures c.args.build.incoming c.args.pair.depth P _ refl) (ap not c.if-not-keeps_required.true))

pub attach_renamed-attach_transforms-requires : goal.attach_renamed-attach_transforms-requires
attach_renamed-attach_transforms-requires t c =
    (omega (arith, c.decreases), (c.requires.pair_at, (c.requires.indexed_table_at, (c.requires.target_len_bound.0, c.requires.target_len_bound.1, omega (arith, c.requires.target_len_bound)))))

pub attach_renamed-returns-then-not-needs_rename : goal.attach_renamed-returns-then-not-needs_rename
attach_renamed-returns-then-not-needs_rename t c =
    λ from T P Q le lt.
    renamed-plain c.args.build.matching c.args.build.policy (defaults_at c.args.build.defaults T) (label_at c.args.target.now c.args.pair.target.label) Q.tree
    c.args.pair.place.position (label_at c.args.incoming.now c.args.pair.incoming.label) P.tree (c.keeps_required.ensures c.args.build.incoming
    c.args.pair.depth P _ refl) (ap not c.if-not-keeps_required.false) c.needs_rename.ensures _ _ from (ap not c.if-not-needs_rename.true) le (c.attach_transforms.ensures T P Q)

pub attach_renamed-overflow_add-inner : goal.attach_renamed-overflow_add-inner
attach_renamed-overflow_add-inner t c =
    omega (arith, extent c.requires.pair_at.1.0, c.requires.target_len_bound)

pub attach_renamed-attach_transforms-made-requires : goal.attach_renamed-attach_transforms-made-requires
attach_renamed-attach_transforms-made-requires t c =
    (omega (arith, c.decreases), (c.requires.pair_at, (c.requires.indexed_table_at, (c.requires.target_len_bound.0, c.requires.target_len_bound.1, omega (arith, c.requires.target_len_bound)))))

pub attach_renamed-returns-then-is_refused : goal.attach_renamed-returns-then-is_refused
attach_renamed-returns-then-is_refused t c =
    λ from T P Q le lt.
    renamed-stopped c.args.build.matching c.args.build.policy (defaults_at c.args.build.defaults T) (label_at c.args.target.now c.args.pair.target.label)
    Q.tree c.args.pair.place.position (label_at c.args.incoming.now c.args.pair.incoming.label) P.tree (c.keeps_required.ensures c.args.build.incoming
    c.args.pair.depth P _ refl) (ap not c.if-not-keeps_required.false) c.needs_rename.ensures _ _ from (c.attach_transforms-made.ensures T P Q) (sym
    c.is_refused.ensures ∙ c.if-is_refused.true)

pub attach_renamed-overflow_add-place : goal.attach_renamed-overflow_add-place
attach_renamed-overflow_add-place t c =
    omega (arith, extent c.requires.pair_at.1.0, c.requires.target_len_bound)

pub attach_renamed-overflow_add-place-2 : goal.attach_renamed-overflow_add-place-2
attach_renamed-overflow_add-place-2 t c =
    omega (
      arith,
      makes-room _ (c.attach_transforms-made.ensures c.requires.indexed_table_at.0 c.requires.pair_at.0 c.requires.pair_at.1.0) (sym c.is_refused.ensures ∙ c.if-is_refused.false),
      c.len_of-len.ensures,
      extent c.requires.pair_at.1.0,
      c.requires.target_len_bound,
    )

pub attach_renamed-write_text-n-requires : goal.attach_renamed-write_text-n-requires
attach_renamed-write_text-n-requires t c =
    record {
      span_in = (c.requires.pair_named.1, c.requires.pair_named.2);
      s_bound = omega (
        arith,
        makes-room _ (c.attach_transforms-made.ensures c.requires.indexed_table_at.0 c.requires.pair_at.0 c.requires.pair_at.1.0) (sym
            c.is_refused.ensures ∙ c.if-is_refused.false),
        c.len_of-len.ensures,
        extent c.requires.pair_at.1.0,
        c.requires.target_len_bound,
      );
    }

pub attach_renamed-overflow_add-result : goal.attach_renamed-overflow_add-result
attach_renamed-overflow_add-result t c =
    omega (
      arith,
      makes-room _ (c.attach_transforms-made.ensures c.requires.indexed_table_at.0 c.requires.pair_at.0 c.requires.pair_at.1.0) (sym c.is_refused.ensures ∙ c.if-is_refused.false),
      c.len_of-len.ensures,
      extent c.requires.pair_at.1.0,
      c.requires.target_len_bound,
    )

pub attach_renamed-overflow_add-result-2 : goal.attach_renamed-overflow_add-result-2
attach_renamed-overflow_add-result-2 t c =
    omega (
      arith,
      makes-room _ (c.attach_transforms-made.ensures c.requires.indexed_table_at.0 c.requires.pair_at.0 c.requires.pair_at.1.0) (sym c.is_refused.ensures ∙ c.if-is_refused.false),
      c.len_of-len.ensures,
      extent c.requires.pair_at.1.0,
      c.requires.target_len_bound,
      c.write_text-n.ensures.value,
      text-long c.args.target.now
          c.args.pair.target.label.name c.requires.pair_named.1,
      c.requires.pair_named.2,
    )

pub attach_renamed-returns : goal.attach_renamed-returns
attach_renamed-returns t c =
    λ from T P Q le lt.
    renamed-made c.args.build.matching c.args.build.policy (defaults_at c.args.build.defaults T) (label_at c.args.target.now c.args.pair.target.label) Q.tree
    c.args.pair.place.position (label_at c.args.incoming.now c.args.pair.incoming.label) P.tree (c.keeps_required.ensures c.args.build.incoming
    c.args.pair.depth P _ refl) (ap not c.if-not-keeps_required.false) c.needs_rename.ensures _ _ from _ _ (ap not c.if-not-needs_rename.false) c.put.auto.out
    (c.attach_transforms-made.auto.out ∙ c.put.auto.out) c.put.ensures (c.attach_transforms-made.ensures T P Q)
    (sym c.is_refused.ensures ∙ c.if-is_refused.false) c.len_of-len.ensures c.write_text-n.ensures.value c.write_text-n.ensures.out_after (omega (
      arith,
      c.write_text-n.ensures.value,
      text-long c.args.target.now c.args.pair.target.label.name c.requires.pair_named.1,
      c.requires.pair_named.2,
    ))
    (lt (rename_on c.args.build.matching (label_at c.args.target.now c.args.pair.target.label) (label_at c.args.incoming.now c.args.pair.incoming.label)
    c.needs_rename.ensures (ap not c.if-not-needs_rename.false)))

pub attach_struct-returns-in_default : goal.attach_struct-returns-in_default
attach_struct-returns-in_default t c =
    λ from T P Q lt.
    makes-refused _ _ _ _ _ (struct-other c.args.build.matching c.args.build.policy (defaults_at c.args.build.defaults T) Q.columns c.args.over.place.position
    P.tree (part_no_struct c.args.build.incoming c.args.over.depth c.args.incoming.now c.args.over.incoming.at (struct_part P.tree) P.end
    (c.struct_part.ensures c.args.build.incoming c.args.over.depth P) c.in_default.is))

pub attach_struct-overflow_sub-rows : goal.attach_struct-overflow_sub-rows
attach_struct-overflow_sub-rows t c =
    let z = deep c.requires.fields_over_at.0 in omega arith

pub attach_struct-overflow_add-rows : goal.attach_struct-overflow_add-rows
attach_struct-overflow_add-rows t c =
    omega (arith, c.requires.struct_room)

pub attach_struct-struct_fault-fault-requires : goal.attach_struct-struct_fault-fault-requires
attach_struct-struct_fault-fault-requires t c =
    let S = part-struct c.args.build.incoming c.args.over.depth c.args.incoming.now c.args.over.incoming.at (struct_part c.requires.fields_over_at.0.tree) c.requires.fields_over_at.0.end
    (c.struct_part.ensures c.args.build.incoming c.args.over.depth c.requires.fields_over_at.0) c.in-Is.is in
    (S.inner, c.requires.fields_over_at.1)

pub attach_struct-returns-then-fault-ne0 : goal.attach_struct-returns-then-fault-ne0
attach_struct-returns-then-fault-ne0 t c =
    λ from T P Q lt.
    let S = part-struct c.args.build.incoming c.args.over.depth c.args.incoming.now c.args.over.incoming.at (struct_part P.tree) P.end
    (c.struct_part.ensures c.args.build.incoming c.args.over.depth P) c.in-Is.is in
    makes-refused _ _ _ _ _ (struct_faulted c.args.build.matching c.args.build.policy (defaults_at c.args.build.defaults T) Q.columns
    c.args.over.place.position
    P.tree S.inner.columns S.is (c.struct_fault-fault.ensures S.inner Q) c.if-fault-ne0.true)

pub attach_struct-put_head-requires : goal.attach_struct-put_head-requires
attach_struct-put_head-requires t c =
    omega (arith, c.requires.struct_room)

pub attach_struct-overflow_add-place : goal.attach_struct-overflow_add-place
attach_struct-overflow_add-place t c =
    omega (arith, c.requires.struct_room)

pub attach_struct-put_short-requires : goal.attach_struct-put_short-requires
attach_struct-put_short-requires t c =
    omega (arith, c.requires.struct_room)

pub attach_struct-attach_fields-row-requires : goal.attach_struct-attach_fields-row-requires
attach_struct-attach_fields-row-requires t c =
    let z = deep c.requires.fields_over_at.0 in
    let S = part-struct c.args.build.incoming c.args.over.depth c.args.incoming.now c.args.over.incoming.at (struct_part c.requires.fields_over_at.0.tree) c.requires.fields_over_at.0.end
    (c.struct_part.ensures c.args.build.incoming c.args.over.depth c.requires.fields_over_at.0) c.in-Is.is in
    (omega (arith, c.decreases), ((S.inner, c.requires.fields_over_at.1), (c.requires.indexed_table_at, (c.requires.struct_room.0, c.requires.struct_room.1, c.requires.struct_room.3))))

pub attach_struct-returns-in_default-row : goal.attach_struct-returns-in_default-row
attach_struct-returns-in_default-row t c =
    λ from T P Q lt.
    let S = part-struct c.args.build.incoming c.args.over.depth c.args.incoming.now c.args.over.incoming.at (struct_part P.tree) P.end
    (c.struct_part.ensures c.args.build.incoming c.args.over.depth P) c.in-Is.is in
    struct_stops c.args.build.matching c.args.build.policy (defaults_at c.args.build.defaults T) Q.columns c.args.over.place.position P.tree
    S.inner.columns
    S.is (c.struct_fault-fault.ensures S.inner Q) c.if-fault-ne0.false _ _ from _ _ c.refused_row.ensures (c.attach_fields-row.ensures T S.inner Q)
    c.in_default-row.is

pub attach_struct-put_position-requires : goal.attach_struct-put_position-requires
attach_struct-put_position-requires t c =
    omega (arith, c.requires.struct_room)

pub attach_struct-shape_of-arena-then-unchanged : goal.attach_struct-shape_of-arena-then-unchanged
attach_struct-shape_of-arena-then-unchanged t c =
    c.attach_fields-row.auto.arena ∙ c.struct_fault-fault.auto.arena

pub attach_struct-returns-then-unchanged : goal.attach_struct-returns-then-unchanged
attach_struct-returns-then-unchanged t c =
    λ from T P Q lt.
    let S = part-struct c.args.build.incoming c.args.over.depth c.args.incoming.now c.args.over.incoming.at (struct_part P.tree) P.end
    (c.struct_part.ensures c.args.build.incoming c.args.over.depth P) c.in-Is.is in
    struct-left_out c.args.build.matching c.args.build.policy (defaults_at c.args.build.defaults T) Q.columns c.args.over.place.position P.tree
    S.inner.columns S.is (c.struct_fault-fault.ensures S.inner Q) c.if-fault-ne0.false _ _ from (count_at S.inner) (count_at Q)
    c.in-Done.is _ _ _ c.put_head.ensures c.put_short.ensures (c.attach_fields-row.ensures T S.inner Q) c.unchanged.ensures
    c.if-unchanged.true
    (c.attach_fields-row.auto.out ∙ c.put_short.auto.out ∙ c.put_head.auto.out) c.put_position.ensures (omega (
      arith,
      lt,
      columns_within Q c.requires.struct_room.2,
    ))

pub attach_struct-overflow_add-result : goal.attach_struct-overflow_add-result
attach_struct-overflow_add-result t c =
    let S = part-struct c.args.build.incoming c.args.over.depth c.args.incoming.now c.args.over.incoming.at (struct_part c.requires.fields_over_at.0.tree) c.requires.fields_over_at.0.end
    (c.struct_part.ensures c.args.build.incoming c.args.over.depth c.requires.fields_over_at.0) c.in-Is.is in
    omega (
      arith,
      row_room _ (c.attach_fields-row.ensures c.requires.indexed_table_at.0 S.inner c.requires.fields_over_at.1.0) c.in-Done.is,
      columns_within c.requires.fields_over_at.1.0 c.requires.struct_room.2,
      c.requires.struct_room,
    )

pub attach_struct-returns : goal.attach_struct-returns
attach_struct-returns t c =
    λ from T P Q lt.
    let S = part-struct c.args.build.incoming c.args.over.depth c.args.incoming.now c.args.over.incoming.at (struct_part P.tree) P.end
    (c.struct_part.ensures c.args.build.incoming c.args.over.depth P) c.in-Is.is in
    struct-kept c.args.build.matching c.args.build.policy (defaults_at c.args.build.defaults T) Q.columns c.args.over.place.position P.tree
    S.inner.columns
    S.is (c.struct_fault-fault.ensures S.inner Q) c.if-fault-ne0.false _ _ from (count_at S.inner) (count_at Q) c.in-Done.is _ _ _
    c.put_head.ensures c.put_short.ensures (c.attach_fields-row.ensures T S.inner Q) c.unchanged.ensures c.if-unchanged.false
    (c.put_short.auto.out ∙ c.put_head.auto.out) lt

pub attach_transforms-attach_leaf-requires : goal.attach_transforms-attach_leaf-requires
attach_transforms-attach_leaf-requires t c =
    record { types_at = c.requires.types_at; target_len_bound = (c.requires.target_len_bound.0, c.requires.target_len_bound.2); span_in = (head_in _ c.head.ensures.head_in c.in-Leaf.is, λ Q. (leaf_at_lem Q c.head.ensures.result_value c.in-Leaf.is).0) }

pub attach_transforms-returns-in-Leaf : goal.attach_transforms-returns-in-Leaf
attach_transforms-returns-in-Leaf t c =
    λ T P Q. c.attach_leaf.ensures (defaults_at c.args.build.defaults T) P Q

pub attach_transforms-returns-in-Struct : goal.attach_transforms-returns-in-Struct
attach_transforms-returns-in-Struct t c =
    λ T P Q.
    makes_as _ _ _ _ _ _ (nested_is c.args.build.matching c.args.build.policy (defaults_at c.args.build.defaults T) Q.tree c.args.types.place.position
    P.tree
    (leaf-none Q _ (sym c.head.ensures.result_value ∙ ap (head_res _) c.in-Struct.is) refl)) (c.attach_nested.ensures T P Q)

pub attach_transforms-returns-in-List : goal.attach_transforms-returns-in-List
attach_transforms-returns-in-List t c =
    λ T P Q.
    makes_as _ _ _ _ _ _ (nested_is c.args.build.matching c.args.build.policy (defaults_at c.args.build.defaults T) Q.tree c.args.types.place.position
    P.tree
    (leaf-none Q _ (sym c.head.ensures.result_value ∙ ap (head_res _) c.in-List.is) refl)) (c.attach_nested-in-List.ensures T P Q)

pub attach_transforms-returns-in-Array : goal.attach_transforms-returns-in-Array
attach_transforms-returns-in-Array t c =
    λ T P Q.
    makes_as _ _ _ _ _ _ (nested_is c.args.build.matching c.args.build.policy (defaults_at c.args.build.defaults T) Q.tree c.args.types.place.position
    P.tree
    (leaf-none Q _ (sym c.head.ensures.result_value ∙ ap (head_res _) c.in-Array.is) refl)) (c.attach_nested-in-Array.ensures T P Q)

pub attach_transforms-returns-in-Refused : goal.attach_transforms-returns-in-Refused
attach_transforms-returns-in-Refused t c =
    λ T P Q. never_headless Q c.head.ensures.result_value c.in-Refused.is
