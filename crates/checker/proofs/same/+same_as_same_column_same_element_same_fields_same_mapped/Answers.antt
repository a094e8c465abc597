-- `same_as`, `same_column`, `same_element`, `same_fields` and `same_mapped` of `checker::same` meet their contracts, by
-- the falling measures below. Assumes nothing.
use Rattle.checker.proofs.Alike.{raw-ends, codes_differ, numbers_differ, struct-there, list-there, array-there, structs_same, lists_same, arrays_same}
use Rattle.checker.proofs.Alike.{field-differs, field-goes, matching_start, matching_end, matching-first, matching-asks, matching-no}
use Rattle.checker.proofs.Alike.{matching-more}
use Rattle.checker.proofs.Fitting.{made_no_leaf, struct_asks, list_asks, array_asks}
use Rattle.checker.proofs.Children.{made_asks}
use Rattle.checker.proofs.Headed.{from_incoming, from-plan}
use Rattle.checker.proofs.Resolving.{named-typed}
use Rattle.forms.proofs.Comparing.{behind-label, never_unlabelled}
use Rattle.layout.proofs.View.{deep, label_got}
use Rattle.layout.proofs.Ways.{label_in}
use borrow.Author.Tests.{not-true, not-false}
use native.Mathlib.Omega.{arith}
use mathlib.Core.Path.{refl}
use mathlib.Core.Path.{ap}
use mathlib.Core.Bool.{not}
use Rattle.checker.proofs.same.+same_as_same_column_same_element_same_fields_same_mapped.Goals as goal

pub same_as-same_type-requires : goal.same_as-same_type-requires
same_as-same_type-requires t c =
    let (u, R) = c.requires.resolved_at in record { type_at = (from_incoming R c.in-Incoming.is).type; type_at_2 = c.requires.type_at }

pub same_as-same_type-requires-in-Plan : goal.same_as-same_type-requires-in-Plan
same_as-same_type-requires-in-Plan t c =
    let (u, R) = c.requires.resolved_at in record { type_at = (from-plan R c.in-Plan.is).type; type_at_2 = c.requires.type_at }

pub same_as-same_mapped-requires : goal.same_as-same_mapped-requires
same_as-same_mapped-requires t c = (
  omega (arith, c.decreases),
  (
    c.requires.tables,
    (
      c.requires.resolved_at,
      (
        c.in-Mapped.is,
        c.requires.type_at,
      ),
    ),
  ),
)

pub same_as-returns-in-Incoming : goal.same_as-returns-in-Incoming
same_as-returns-in-Incoming t c =
    λ u Q R. let T = from_incoming R c.in-Incoming.is in raw-ends T Q (c.same_type.ensures T.type Q)
    c.target_end.ensures

pub same_as-returns-in-Plan : goal.same_as-returns-in-Plan
same_as-returns-in-Plan t c =
    λ u Q R. let T = from-plan R c.in-Plan.is in raw-ends T Q (c.same_type-in-Plan.ensures T.type Q)
    c.target_end-in-Plan.ensures

pub same_as-returns-in-Mapped : goal.same_as-returns-in-Mapped
same_as-returns-in-Mapped t c =
    λ u Q R. c.same_mapped.ensures u Q R

pub same_column-name_at-name-requires : goal.same_column-name_at-name-requires
same_column-name_at-name-requires t c =
    record { tables = c.requires.tables; named_at = c.requires.named_at }

pub same_column-same_name-requires : goal.same_column-same_name-requires
same_column-same_name-requires t c =
    let (a, N) = c.requires.named_at in record { name_at = (_, c.name_at-name.ensures a N); span_in = label_in _ c.label.ensures.label_in c.in-Is.is }

pub same_column-returns-then-not-same_name : goal.same_column-returns-then-not-same_name
same_column-returns-then-not-same_name t c =
    λ a E N. field-differs E c.label.ensures.result_value
    c.in-Is.is a (c.same_name.ensures a.name (c.name_at-name.ensures a N))
    (not-true _ (ap not c.if-not-same_name.true))

pub same_column-resolve-r-requires : goal.same_column-resolve-r-requires
same_column-resolve-r-requires t c =
    let (a, N) = c.requires.named_at in record { tables = c.requires.tables; typed_at = (_, named-typed N) }

pub same_column-same_as-requires : goal.same_column-same_as-requires
same_column-same_as-requires t c =
    let (a, N) = c.requires.named_at in (
      omega (arith, c.decreases),
      (
        c.requires.tables,
        (
          (_, (c.resolve-r.ensures _ (named-typed N)).resolved),
          behind-label
              c.requires.column_at
              (label_got _ c.label.ensures.result_value
              c.in-Is.is),
        ),
      ),
    )

pub same_column-returns-else-not-same_name : goal.same_column-returns-else-not-same_name
same_column-returns-else-not-same_name t c =
    λ a E N. field-goes E c.label.ensures.result_value
    c.in-Is.is a
    (c.same_name.ensures a.name (c.name_at-name.ensures a N))
    (not-false _ (ap not c.if-not-same_name.false))
    (c.same_as.ensures a.type
    (behind-label E (label_got _ c.label.ensures.result_value
    c.in-Is.is)) (c.resolve-r.ensures a.type (named-typed N)).resolved)

pub same_column-returns-in-Refused : goal.same_column-returns-in-Refused
same_column-returns-in-Refused t c =
    λ a E N. never_unlabelled E c.label.ensures.result_value c.in-Refused.is

pub same_element-part-p-requires : goal.same_element-part-p-requires
same_element-part-p-requires t c =
    record { tables = c.requires.tables; resolved_at = c.requires.resolved_at }

pub same_element-same_as-requires : goal.same_element-same_as-requires
same_element-same_as-requires t c =
    let (u, a, R, P) = c.requires.resolved_at in (
      omega (arith, c.decreases),
      (
        c.requires.tables,
        (
          (_, c.part-p.ensures u a R P),
          behind-label c.requires.element_at
              (label_got _ c.element_label.ensures.result_value c.in-Is.is),
        ),
      ),
    )

pub same_element-returns-in-Is : goal.same_element-returns-in-Is
same_element-returns-in-Is t c =
    λ u a E R P. c.same_as.ensures a.type
    (behind-label E (label_got _ c.element_label.ensures.result_value c.in-Is.is))
    (c.part-p.ensures u a R P)

pub same_element-returns-in-Refused : goal.same_element-returns-in-Refused
same_element-returns-in-Refused t c =
    λ u a E R P. never_unlabelled E c.element_label.ensures.result_value c.in-Refused.is

pub same_fields-first_child-c-requires : goal.same_fields-first_child-c-requires
same_fields-first_child-c-requires t c =
    let (fs, M, e) = c.requires.mapped_at in record { skips = c.requires.tables.skips; at_bound = (made_asks M).0 }

pub same_fields-loop-k-init : goal.same_fields-loop-k-init
same_fields-loop-k-init t c =
    let (fs, M, e) = c.requires.mapped_at in matching_start M e
    c.requires.columns_at
    c.first_child-c.ensures

pub same_fields-child_at-x-requires : goal.same_fields-child_at-x-requires
same_fields-child_at-x-requires t c =
    made_asks c.loop-k.invariant.start

pub same_fields-same_column-requires : goal.same_fields-same_column-requires
same_fields-same_column-requires t c = (
  omega (arith, c.decreases),
  (
    c.requires.tables,
    (
      matching-asks c.loop-k.invariant c.loop-k-test.true c.child_at-x.ensures,
      (matching-first c.loop-k.invariant
          c.loop-k-test.true).first,
    ),
  ),
)

pub same_fields-returns-in-Differ : goal.same_fields-returns-in-Differ
same_fields-returns-in-Differ t c =
    matching-no c.loop-k.invariant c.loop-k-test.true
    c.child_at-x.ensures c.same_column.ensures c.in-Differ.is

pub same_fields-skip_by-c-requires : goal.same_fields-skip_by-c-requires
same_fields-skip_by-c-requires t c =
    c.requires.tables.skips

pub same_fields-overflow_add-k : goal.same_fields-overflow_add-k
same_fields-overflow_add-k t c =
    omega (
      arith,
      c.ranges.count,
      c.loop-k-test.true,
    )

pub same_fields-loop-k-smaller : goal.same_fields-loop-k-smaller
same_fields-loop-k-smaller t c =
    omega (arith, c.loop-k-test.true)

pub same_fields-loop-k-preserved : goal.same_fields-loop-k-preserved
same_fields-loop-k-preserved t c =
    matching-more c.loop-k.invariant
    c.loop-k-test.true c.child_at-x.ensures
    c.same_column.ensures c.in-At.is c.skip_by-c.ensures

pub same_fields-returns : goal.same_fields-returns
same_fields-returns t c =
    matching_end c.loop-k.invariant c.loop-k-test.false

pub same_mapped-type_head-h-requires : goal.same_mapped-type_head-h-requires
same_mapped-type_head-h-requires t c =
    record { tables = c.requires.tables; resolved_at = c.requires.resolved_at }

pub same_mapped-returns-then-a-b : goal.same_mapped-returns-then-a-b
same_mapped-returns-then-a-b t c =
    λ u Q R. codes_differ (c.type_head-h.ensures u R) c.code-a.ensures Q
    c.target_code-b.ensures c.if-a-b.true

pub same_mapped-returns-then-a-b-2 : goal.same_mapped-returns-then-a-b-2
same_mapped-returns-then-a-b-2 t c =
    λ u Q R. numbers_differ (c.type_head-h.ensures u R)
    c.code-a.ensures Q c.target_code-b.ensures
    c.if-a-b-2.true

pub same_mapped-overflow_sub-depth : goal.same_mapped-overflow_sub-depth
same_mapped-overflow_sub-depth t c =
    let z = deep c.requires.type_at in
    omega arith

pub same_mapped-same_fields-requires : goal.same_mapped-same_fields-requires
same_mapped-same_fields-requires t c =
    let (u, R) =
    c.requires.resolved_at
    in
    let z = deep c.requires.type_at in let H =
    c.type_head-h.ensures u R in (
      omega (
        arith,
        c.decreases,
      ),
      (
        c.requires.tables,
        (
          struct_asks H R c.requires.source_value
              c.in-Struct.is,
          (struct-there H
              c.code-a.ensures c.requires.type_at
              c.target_code-b.ensures
              c.if-a-b.false
              c.if-a-b-2.false refl
              c.head_end-at.ensures c.in-Struct.is).inner,
        ),
      ),
    )

pub same_mapped-same_element-requires : goal.same_mapped-same_element-requires
same_mapped-same_element-requires t c =
    let (u, R) =
    c.requires.resolved_at in
    let z = deep c.requires.type_at in let H = c.type_head-h.ensures u R in (
      omega (
        arith,
        c.decreases,
      ),
      (
        c.requires.tables,
        (
          list_asks H R c.in-List.is,
          (list-there H
              c.code-a.ensures c.requires.type_at
              c.target_code-b.ensures
              c.if-a-b.false c.if-a-b-2.false refl
              c.head_end-at.ensures
              c.in-List.is).element,
        ),
      ),
    )

pub same_mapped-same_element-requires-in-Array : goal.same_mapped-same_element-requires-in-Array
same_mapped-same_element-requires-in-Array t c =
    let (u, R) =
    c.requires.resolved_at in
    let z = deep c.requires.type_at in let H = c.type_head-h.ensures u R in (
      omega (
        arith,
        c.decreases,
      ),
      (
        c.requires.tables,
        (
          array_asks H R c.in-Array.is,
          (array-there H
              c.code-a.ensures c.requires.type_at
              c.target_code-b.ensures
              c.if-a-b.false c.if-a-b-2.false refl
              c.head_end-at.ensures
              c.in-Array.is).element,
        ),
      ),
    )

pub same_mapped-returns-in-Leaf : goal.same_mapped-returns-in-Leaf
same_mapped-returns-in-Leaf t c =
    λ u Q R. made_no_leaf R
    c.requires.source_value
    (c.type_head-h.ensures u R) c.in-Leaf.is

pub same_mapped-returns-in-Struct : goal.same_mapped-returns-in-Struct
same_mapped-returns-in-Struct t c =
    λ u Q R. structs_same
    (c.type_head-h.ensures u R)
    c.code-a.ensures Q
    c.target_code-b.ensures
    c.if-a-b.false
    c.if-a-b-2.false refl
    c.head_end-at.ensures R
    c.requires.source_value
    c.in-Struct.is c.same_fields.ensures

pub same_mapped-returns-in-List : goal.same_mapped-returns-in-List
same_mapped-returns-in-List t c =
    λ u Q R. lists_same (c.type_head-h.ensures u
    R)
    c.code-a.ensures Q
    c.target_code-b.ensures
    c.if-a-b.false c.if-a-b-2.false refl
    c.head_end-at.ensures R c.in-List.is c.same_element.ensures

pub same_mapped-returns-in-Array : goal.same_mapped-returns-in-Array
same_mapped-returns-in-Array t c =
    λ u Q R. arrays_same (c.type_head-h.ensures u
    R)
    c.code-a.ensures Q
    c.target_code-b.ensures
    c.if-a-b.false c.if-a-b-2.false refl
    c.head_end-at.ensures R c.in-Array.is c.same_element-in-Array.ensures
