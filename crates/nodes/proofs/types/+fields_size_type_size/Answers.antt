-- The proof of the cycle of calls {fields_size, type_size}. The measure is 2 for each level left, and 1 more for
-- columns. `Sizing` holds at the head of the loop. Assumes nothing.
use Rattle.nodes.proofs.Sizes.{sizing_none, sizing_all, sizing-unlabelled, sizing-first, sizing-fits, sizing-more, size-leaf, in_struct, in_list}
use Rattle.nodes.proofs.Sizes.{in_array, inside-fits, inside-size}
use Rattle.layout.proofs.View.{deep, struct_at, list_at, array_at, list-labelled, array-labelled, never_headless}
use native.Mathlib.Omega.{arith}
use Rattle.nodes.proofs.types.+fields_size_type_size.Goals as goal

pub fields_size-loop-i-init : goal.fields_size-loop-i-init
fields_size-loop-i-init t c =
    sizing_none c.requires

pub fields_size-type_size-t-requires : goal.fields_size-type_size-t-requires
fields_size-type_size-t-requires t c = (
  omega (arith, c.decreases),
  (sizing-first
      c.loop-i.invariant c.loop-i-test.true
      c.label.ensures.result_value c.in-Is.is c.label.ensures.label_in).head,
)

pub fields_size-overflow_add-size : goal.fields_size-overflow_add-size
fields_size-overflow_add-size t c =
    let z = sizing-fits c.loop-i.invariant
    c.loop-i-test.true c.label.ensures.result_value
    c.in-Is.is c.label.ensures.label_in c.type_size-t.ensures in omega
    arith

pub fields_size-overflow_add-size-in-Is : goal.fields_size-overflow_add-size-in-Is
fields_size-overflow_add-size-in-Is t c =
    let z = sizing-fits c.loop-i.invariant
    c.loop-i-test.true c.label.ensures.result_value
    c.in-Is.is c.label.ensures.label_in c.type_size-t.ensures in omega
    arith

pub fields_size-overflow_add-size-in-Is-2 : goal.fields_size-overflow_add-size-in-Is-2
fields_size-overflow_add-size-in-Is-2 t c =
    let z = sizing-fits c.loop-i.invariant
    c.loop-i-test.true
    c.label.ensures.result_value c.in-Is.is
    c.label.ensures.label_in c.type_size-t.ensures in omega arith

pub fields_size-returns-in-Refused : goal.fields_size-returns-in-Refused
fields_size-returns-in-Refused t c =
    λ P. sizing-unlabelled c.loop-i.invariant c.loop-i-test.true c.label.ensures.result_value c.in-Refused.is

pub fields_size-loop-i-preserved : goal.fields_size-loop-i-preserved
fields_size-loop-i-preserved t c =
    sizing-more c.loop-i.invariant c.loop-i-test.true c.label.ensures.result_value c.in-Is.is c.label.ensures.label_in c.type_size-t.ensures
    c.larger-deep.ensures

pub fields_size-returns : goal.fields_size-returns
fields_size-returns t c =
    sizing_all c.loop-i.invariant c.loop-i-test.false

pub type_size-overflow_sub-result : goal.type_size-overflow_sub-result
type_size-overflow_sub-result t c =
    (size-leaf c.requires c.head.ensures.result_value c.in-Leaf.is).0

pub type_size-overflow_sub-depth : goal.type_size-overflow_sub-depth
type_size-overflow_sub-depth t c =
    let z = deep c.requires in omega arith

pub type_size-fields_size-fields-requires : goal.type_size-fields_size-fields-requires
type_size-fields_size-fields-requires t c =
    let z = deep c.requires in (
      omega (arith, c.decreases),
      (struct_at c.requires c.head.ensures.result_value c.in-Struct.is).inner,
    )

pub type_size-overflow_sub-d : goal.type_size-overflow_sub-d
type_size-overflow_sub-d t c =
    (inside-fits (in_struct c.requires
    c.head.ensures.result_value c.in-Struct.is
    c.fields_size-fields.ensures) (omega arith) (omega arith)).0

pub type_size-around-requires : goal.type_size-around-requires
type_size-around-requires t c =
    let F = inside-fits (in_struct c.requires
    c.head.ensures.result_value c.in-Struct.is
    c.fields_size-fields.ensures) (omega arith) (omega arith) in (F.1, F.2)

pub type_size-overflow_sub-depth-in-Is : goal.type_size-overflow_sub-depth-in-Is
type_size-overflow_sub-depth-in-Is t c =
    let z = deep c.requires in omega arith

pub type_size-type_size-element-requires : goal.type_size-type_size-element-requires
type_size-type_size-element-requires t c =
    let z = deep c.requires in (
      omega (arith, c.decreases),
      (list_at
          c.requires
          c.head.ensures.result_value c.element_label.ensures.result_value
          c.in-List.is c.in-Is.is).inner,
    )

pub type_size-overflow_sub-d-in-Is : goal.type_size-overflow_sub-d-in-Is
type_size-overflow_sub-d-in-Is t c =
    (inside-fits (in_list c.requires
    c.head.ensures.result_value
    c.element_label.ensures.result_value c.in-Is.is
    c.type_size-element.ensures c.in-List.is) (omega arith)
    (omega (arith, c.ranges.depth))).0

pub type_size-around-requires-in-Is : goal.type_size-around-requires-in-Is
type_size-around-requires-in-Is t c =
    let F = inside-fits (in_list c.requires
    c.head.ensures.result_value
    c.element_label.ensures.result_value c.in-Is.is
    c.type_size-element.ensures c.in-List.is) (omega arith)
    (omega (arith, c.ranges.depth)) in (F.1, F.2)

pub type_size-overflow_sub-depth-in-Is-element_label : goal.type_size-overflow_sub-depth-in-Is-element_label
type_size-overflow_sub-depth-in-Is-element_label t c =
    let z = deep c.requires in omega arith

pub type_size-type_size-element-requires-in-Is-element_label : goal.type_size-type_size-element-requires-in-Is-element_label
type_size-type_size-element-requires-in-Is-element_label t c =
    let z = deep c.requires in (
      omega (arith, c.decreases),
      (array_at
          c.requires
          c.head.ensures.result_value c.element_label-in-Array.ensures.result_value
          c.in-Array.is c.in-Is-element_label.is).inner,
    )

pub type_size-overflow_sub-d-in-Is-element_label : goal.type_size-overflow_sub-d-in-Is-element_label
type_size-overflow_sub-d-in-Is-element_label t c =
    (inside-fits (in_array c.requires
    c.head.ensures.result_value
    c.element_label-in-Array.ensures.result_value c.in-Is-element_label.is
    c.type_size-element-in-Is-element_label.ensures c.in-Array.is) (omega arith)
    (omega (arith, c.ranges.depth))).0

pub type_size-around-requires-in-Is-element_label : goal.type_size-around-requires-in-Is-element_label
type_size-around-requires-in-Is-element_label t c =
    let F = inside-fits (in_array c.requires
    c.head.ensures.result_value
    c.element_label-in-Array.ensures.result_value c.in-Is-element_label.is
    c.type_size-element-in-Is-element_label.ensures c.in-Array.is) (omega arith)
    (omega (arith, c.ranges.depth)) in (F.1, F.2)

pub type_size-returns-in-Leaf : goal.type_size-returns-in-Leaf
type_size-returns-in-Leaf t c =
    λ P. (size-leaf P c.head.ensures.result_value c.in-Leaf.is).1

pub type_size-returns-in-Struct : goal.type_size-returns-in-Struct
type_size-returns-in-Struct t c =
    λ P. inside-size (in_struct P c.head.ensures.result_value c.in-Struct.is c.fields_size-fields.ensures) c.around.ensures

pub type_size-returns-in-Is : goal.type_size-returns-in-Is
type_size-returns-in-Is t c =
    λ P. inside-size (in_list P c.head.ensures.result_value c.element_label.ensures.result_value c.in-Is.is c.type_size-element.ensures
    c.in-List.is) c.around-in-Is.ensures

pub type_size-returns-in-Refused-element_label : goal.type_size-returns-in-Refused-element_label
type_size-returns-in-Refused-element_label t c =
    λ P. list-labelled P c.head.ensures.result_value c.element_label.ensures.result_value c.in-List.is c.in-Refused-element_label.is

pub type_size-returns-in-Is-element_label : goal.type_size-returns-in-Is-element_label
type_size-returns-in-Is-element_label t c =
    λ P. inside-size (in_array P c.head.ensures.result_value c.element_label-in-Array.ensures.result_value c.in-Is-element_label.is c.type_size-element-in-Is-element_label.ensures
    c.in-Array.is) c.around-in-Is-element_label.ensures

pub type_size-returns-in-Refused-element_label-2 : goal.type_size-returns-in-Refused-element_label-2
type_size-returns-in-Refused-element_label-2 t c =
    λ P. array-labelled P c.head.ensures.result_value c.element_label-in-Array.ensures.result_value c.in-Array.is c.in-Refused-element_label-2.is

pub type_size-returns-in-Refused : goal.type_size-returns-in-Refused
type_size-returns-in-Refused t c =
    λ P. never_headless P c.head.ensures.result_value c.in-Refused.is
