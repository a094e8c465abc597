-- The proof of the cycle of calls {same_column, same_element, same_fields, same_type}. The measure is 4 for each level
-- left of the first type, and 1, 1, 2 and 0 more. `Comparing` holds at the head of the loop. Assumes nothing.
use mathlib.Core.Path.{refl}
use Rattle.forms.proofs.Comparing.{counted, head_in, heads_differ, leaf-both, struct_both, list-both, array_both, leaves-same, structs_same}
use Rattle.forms.proofs.Comparing.{lists_same, arrays_same, behind-label, never_unlabelled, names_differ, names_alike, comparing_none, comparing_all}
use Rattle.forms.proofs.Comparing.{comparing-no, comparing-more, left_split, right-split}
use Rattle.forms.proofs.Heads.{head_at}
use Rattle.layout.proofs.Ways.{label_in}
use Rattle.layout.proofs.View.{deep, label_got, never_headless}
use borrow.Author.Tests.{not-true, not-false}
use native.Mathlib.Omega.{arith}
use mathlib.Core.Path.{ap}
use mathlib.Core.Bool.{not}
use Rattle.forms.proofs.compare.+same_column_same_element_same_fields_same_type.Goals as goal

pub same_column-same_text-requires : goal.same_column-same_text-requires
same_column-same_text-requires t c =
    record { span_in = label_in _ c.label.ensures.label_in c.in-Is.is; span_in_2 = label_in _ c.label-in-Is.ensures.label_in c.in-Is-label.is }

pub same_column-returns-then-not-same_text : goal.same_column-returns-then-not-same_text
same_column-returns-then-not-same_text t c =
    λ E F. names_differ E F c.label.ensures.result_value c.in-Is.is c.label-in-Is.ensures.result_value c.in-Is-label.is c.same_text.ensures (not-true _
    (ap not c.if-not-same_text.true))

pub same_column-same_type-requires : goal.same_column-same_type-requires
same_column-same_type-requires t c = (
  omega arith,
  (
    behind-label c.requires.column_at (label_got _ c.label.ensures.result_value c.in-Is.is),
    behind-label c.requires.column_at_2 (label_got _
        c.label-in-Is.ensures.result_value c.in-Is-label.is),
  ),
)

pub same_column-returns-else-not-same_text : goal.same_column-returns-else-not-same_text
same_column-returns-else-not-same_text t c =
    λ E F. names_alike E F c.label.ensures.result_value c.in-Is.is c.label-in-Is.ensures.result_value c.in-Is-label.is c.same_text.ensures (not-false _
    (ap not c.if-not-same_text.false))
    (c.same_type.ensures (behind-label E (label_got _ c.label.ensures.result_value c.in-Is.is)) (behind-label F (label_got _ c.label-in-Is.ensures.result_value
    c.in-Is-label.is)))

pub same_column-returns-in-Refused-label : goal.same_column-returns-in-Refused-label
same_column-returns-in-Refused-label t c =
    λ E F. never_unlabelled F c.label-in-Is.ensures.result_value c.in-Refused-label.is

pub same_column-returns-in-Refused : goal.same_column-returns-in-Refused
same_column-returns-in-Refused t c =
    λ E F. never_unlabelled E c.label.ensures.result_value c.in-Refused.is

pub same_element-same_type-requires : goal.same_element-same_type-requires
same_element-same_type-requires t c = (
  omega arith,
  (
    behind-label c.requires.element_at (label_got _ c.element_label.ensures.result_value c.in-Is.is),
    behind-label c.requires.element_at_2 (label_got _
        c.element_label-in-Is.ensures.result_value c.in-Is-element_label.is),
  ),
)

pub same_element-returns-in-Is-element_label : goal.same_element-returns-in-Is-element_label
same_element-returns-in-Is-element_label t c =
    λ E F. c.same_type.ensures (behind-label E (label_got _ c.element_label.ensures.result_value c.in-Is.is)) (behind-label F (label_got _
    c.element_label-in-Is.ensures.result_value c.in-Is-element_label.is))

pub same_element-returns-in-Refused-element_label : goal.same_element-returns-in-Refused-element_label
same_element-returns-in-Refused-element_label t c =
    λ E F. never_unlabelled F c.element_label-in-Is.ensures.result_value c.in-Refused-element_label.is

pub same_element-returns-in-Refused : goal.same_element-returns-in-Refused
same_element-returns-in-Refused t c =
    λ E F. never_unlabelled E c.element_label.ensures.result_value c.in-Refused.is

pub same_fields-loop-i-init : goal.same_fields-loop-i-init
same_fields-loop-i-init t c =
    comparing_none c.requires.columns_at (counted c.requires.count_value c.requires.columns_at_2)

pub same_fields-same_column-requires : goal.same_fields-same_column-requires
same_fields-same_column-requires t c =
    (omega arith, ((left_split c.loop-i.invariant c.loop-i-test.true).first, (right-split c.loop-i.invariant c.loop-i-test.true).first))

pub same_fields-returns-in-No : goal.same_fields-returns-in-No
same_fields-returns-in-No t c =
    λ P Q. comparing-no c.loop-i.invariant c.loop-i-test.true (c.same_column.ensures (left_split c.loop-i.invariant c.loop-i-test.true).first (right-split c.loop-i.invariant c.loop-i-test.true).first) c.in-No.is P (counted c.requires.count_value Q)

pub same_fields-overflow_add-i : goal.same_fields-overflow_add-i
same_fields-overflow_add-i t c =
    omega (
      arith,
      c.well_formed.1.0,
      c.loop-i-test.true,
    )

pub same_fields-loop-i-smaller : goal.same_fields-loop-i-smaller
same_fields-loop-i-smaller t c =
    omega arith

pub same_fields-loop-i-preserved : goal.same_fields-loop-i-preserved
same_fields-loop-i-preserved t c =
    comparing-more c.loop-i.invariant c.loop-i-test.true (c.same_column.ensures (left_split c.loop-i.invariant c.loop-i-test.true).first (right-split c.loop-i.invariant c.loop-i-test.true).first) c.in-To.is

pub same_fields-returns : goal.same_fields-returns
same_fields-returns t c =
    λ P Q. comparing_all c.loop-i.invariant c.loop-i-test.false P (counted c.requires.count_value Q)

pub same_type-overflow_sub-p : goal.same_type-overflow_sub-p
same_type-overflow_sub-p t c =
    let H = head_at c.requires.type_at refl c.head_end-x.ensures in omega (arith, H.from)

pub same_type-overflow_sub-q : goal.same_type-overflow_sub-q
same_type-overflow_sub-q t c =
    let G = head_at c.requires.type_at_2 refl c.head_end-y.ensures in omega (arith, G.from)

pub same_type-same_text-requires : goal.same_type-same_text-requires
same_type-same_text-requires t c =
    record { span_in = head_in (head_at c.requires.type_at refl c.head_end-x.ensures); span_in_2 = head_in (head_at c.requires.type_at_2 refl c.head_end-y.ensures) }

pub same_type-returns-then-not-same_text : goal.same_type-returns-then-not-same_text
same_type-returns-then-not-same_text t c =
    λ P Q. heads_differ (head_at P refl c.head_end-x.ensures) (head_at Q refl c.head_end-y.ensures) (λ i. (c.type_inv.a i).fits) (λ i.
    (c.type_inv.b i).fits) c.same_text.ensures (not-true _ (ap not c.if-not-same_text.true))

pub same_type-overflow_sub-da : goal.same_type-overflow_sub-da
same_type-overflow_sub-da t c =
    let z = deep c.requires.type_at in omega arith

pub same_type-overflow_sub-db : goal.same_type-overflow_sub-db
same_type-overflow_sub-db t c =
    let z = deep c.requires.type_at_2 in omega arith

pub same_type-same_fields-requires : goal.same_type-same_fields-requires
same_type-same_fields-requires t c =
    let z = deep c.requires.type_at in
    let B = struct_both (head_at c.requires.type_at refl c.head_end-x.ensures) (head_at c.requires.type_at_2 refl c.head_end-y.ensures) (λ i. (c.type_inv.a i).fits) (λ
    i. (c.type_inv.b i).fits) c.same_text.ensures (not-false _ (ap not c.if-not-same_text.false)) c.head.ensures.result_value c.in-Struct.is in
    (omega arith, (B.0.inner, (B.1.inner, refl)))

pub same_type-overflow_sub-da-in-List : goal.same_type-overflow_sub-da-in-List
same_type-overflow_sub-da-in-List t c =
    let z = deep c.requires.type_at in omega arith

pub same_type-overflow_sub-db-in-List : goal.same_type-overflow_sub-db-in-List
same_type-overflow_sub-db-in-List t c =
    let z = deep c.requires.type_at_2 in omega arith

pub same_type-same_element-requires : goal.same_type-same_element-requires
same_type-same_element-requires t c =
    let z = deep c.requires.type_at in
    let B = list-both (head_at c.requires.type_at refl c.head_end-x.ensures) (head_at c.requires.type_at_2 refl c.head_end-y.ensures) (λ i. (c.type_inv.a i).fits) (λ i.
    (c.type_inv.b i).fits) c.same_text.ensures (not-false _ (ap not c.if-not-same_text.false)) c.head.ensures.result_value c.in-List.is in
    (omega arith, (B.0.element, B.1.element))

pub same_type-overflow_sub-da-in-Array : goal.same_type-overflow_sub-da-in-Array
same_type-overflow_sub-da-in-Array t c =
    let z = deep c.requires.type_at in omega arith

pub same_type-overflow_sub-db-in-Array : goal.same_type-overflow_sub-db-in-Array
same_type-overflow_sub-db-in-Array t c =
    let z = deep c.requires.type_at_2 in omega arith

pub same_type-same_element-requires-in-Array : goal.same_type-same_element-requires-in-Array
same_type-same_element-requires-in-Array t c =
    let z = deep c.requires.type_at in
    let B = array_both (head_at c.requires.type_at refl c.head_end-x.ensures) (head_at c.requires.type_at_2 refl c.head_end-y.ensures) (λ i. (c.type_inv.a i).fits) (λ i.
    (c.type_inv.b i).fits) c.same_text.ensures (not-false _ (ap not c.if-not-same_text.false)) c.head.ensures.result_value c.in-Array.is in
    (omega arith, (B.0.element, B.1.element))

pub same_type-returns-in-Leaf : goal.same_type-returns-in-Leaf
same_type-returns-in-Leaf t c =
    λ P Q. let B = leaf-both (head_at P refl c.head_end-x.ensures) (head_at Q refl c.head_end-y.ensures) (λ i. (c.type_inv.a i).fits)
    (λ i. (c.type_inv.b i).fits) c.same_text.ensures (not-false _ (ap not c.if-not-same_text.false)) c.head.ensures.result_value c.in-Leaf.is in
    leaves-same P Q B.0 B.1

pub same_type-returns-in-Struct : goal.same_type-returns-in-Struct
same_type-returns-in-Struct t c =
    λ P Q. let B = struct_both (head_at P refl c.head_end-x.ensures) (head_at Q refl c.head_end-y.ensures) (λ i. (c.type_inv.a
    i).fits) (λ i. (c.type_inv.b i).fits) c.same_text.ensures (not-false _ (ap not c.if-not-same_text.false)) c.head.ensures.result_value c.in-Struct.is
    in
    structs_same P Q B.0 B.1 (c.same_fields.ensures B.0.inner B.1.inner)

pub same_type-returns-in-List : goal.same_type-returns-in-List
same_type-returns-in-List t c =
    λ P Q. let B = list-both (head_at P refl c.head_end-x.ensures) (head_at Q refl c.head_end-y.ensures) (λ i. (c.type_inv.a i).fits)
    (λ i. (c.type_inv.b i).fits) c.same_text.ensures (not-false _ (ap not c.if-not-same_text.false)) c.head.ensures.result_value c.in-List.is
    in
    lists_same P Q B.0 B.1 (c.same_element.ensures B.0.element B.1.element)

pub same_type-returns-in-Array : goal.same_type-returns-in-Array
same_type-returns-in-Array t c =
    λ P Q. let B = array_both (head_at P refl c.head_end-x.ensures) (head_at Q refl c.head_end-y.ensures) (λ i. (c.type_inv.a
    i).fits) (λ i. (c.type_inv.b i).fits) c.same_text.ensures (not-false _ (ap not c.if-not-same_text.false)) c.head.ensures.result_value
    c.in-Array.is in
    arrays_same P Q B.0 B.1 (c.same_element-in-Array.ensures B.0.element B.1.element)

pub same_type-returns-in-Refused : goal.same_type-returns-in-Refused
same_type-returns-in-Refused t c =
    λ P Q. never_headless P c.head.ensures.result_value c.in-Refused.is
