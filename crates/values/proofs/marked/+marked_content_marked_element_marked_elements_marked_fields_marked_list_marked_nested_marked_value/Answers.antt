-- The proof of the cycle of calls {marked_content, marked_element, marked_elements, marked_fields, marked_list,
-- marked_nested, marked_value}. The measure is 5 for each level left, and 1, 2, 3, 3, 4, 0 and 2 more. `Fielding` and
-- `Repeating` hold at the heads of the loops; each way has its law in `Walk`. Assumes nothing.
use Rattle.values.proofs.Walk.{content-leaf, content_no_leaf, content-struct, content-list, content-array, element-null, element-to, element-stopped}
use Rattle.values.proofs.Walk.{element-refused, repeating_none, repeating-stopped, repeating-more, repeating_all, fielding_none, fielding-first}
use Rattle.values.proofs.Walk.{fielding-refused, fielding_labelled, fielding-more, fielding_all, list_counted, list_uncounted, value-null, value-present}
use Rattle.values.proofs.Walk.{value-refused}
use Rattle.values.proofs.Numbers.{number_read}
use Rattle.values.specs.Marked.{value_marked}
use Rattle.layout.proofs.View.{deep, struct-opened, list-opened, array-opened, never_opened}
use native.Mathlib.Omega.{arith}
use Rattle.values.proofs.marked.+marked_content_marked_element_marked_elements_marked_fields_marked_list_marked_nested_marked_value.Goals as goal

pub marked_content-marked_nested-requires : goal.marked_content-marked_nested-requires
marked_content-marked_nested-requires t c =
    (omega (arith, c.decreases), (c.requires.type_at, c.requires.ends))

pub marked_content-returns-in-Is : goal.marked_content-returns-in-Is
marked_content-returns-in-Is t c =
    λ P. number_read _ _ _ (c.read_number.ensures _ _ _ P) c.in-Is.is

pub marked_content-returns-in-Other : goal.marked_content-returns-in-Other
marked_content-returns-in-Other t c =
    c.marked_nested.ensures

pub marked_element-marked_content-requires : goal.marked_element-marked_content-requires
marked_element-marked_content-requires t c =
    (omega (arith, c.decreases), (c.requires.type_at, c.requires.ends))

pub marked_element-returns-in-Null : goal.marked_element-returns-in-Null
marked_element-returns-in-Null t c =
    λ P. element-null P.end _ _ P.tree _ _ c.marked_presence.ensures c.in-Null.is

pub marked_element-returns-in-To : goal.marked_element-returns-in-To
marked_element-returns-in-To t c =
    λ P. element-to P.end _ _ P.tree _ _ c.marked_presence.ensures c.in-Present.is (c.marked_content.ensures P) c.in-To.is

pub marked_element-returns-in-Refused-marked_content : goal.marked_element-returns-in-Refused-marked_content
marked_element-returns-in-Refused-marked_content t c =
    λ P. element-stopped P.end _ _ P.tree _ _ c.marked_presence.ensures c.in-Present.is (c.marked_content.ensures P) c.in-Refused-marked_content.is

pub marked_element-returns-in-Refused : goal.marked_element-returns-in-Refused
marked_element-returns-in-Refused t c =
    λ P. element-refused P.end _ _ P.tree _ _ c.marked_presence.ensures c.in-Refused.is

pub marked_elements-loop-i-init : goal.marked_elements-loop-i-init
marked_elements-loop-i-init t c =
    repeating_none _ _ _ _ _ c.requires.type_at

pub marked_elements-marked_element-requires : goal.marked_elements-marked_element-requires
marked_elements-marked_element-requires t c =
    (omega (arith, c.decreases), (c.requires.type_at, c.requires.ends))

pub marked_elements-returns-in-Refused : goal.marked_elements-returns-in-Refused
marked_elements-returns-in-Refused t c =
    repeating-stopped c.loop-i.invariant c.loop-i-test.true c.marked_element.ensures c.in-Refused.is

pub marked_elements-overflow_add-i : goal.marked_elements-overflow_add-i
marked_elements-overflow_add-i t c =
    omega arith

pub marked_elements-loop-i-smaller : goal.marked_elements-loop-i-smaller
marked_elements-loop-i-smaller t c =
    omega arith

pub marked_elements-loop-i-preserved : goal.marked_elements-loop-i-preserved
marked_elements-loop-i-preserved t c =
    repeating-more c.loop-i.invariant c.loop-i-test.true c.marked_element.ensures c.in-To.is

pub marked_elements-pass_type-requires : goal.marked_elements-pass_type-requires
marked_elements-pass_type-requires t c =
    record { type_at = c.requires.type_at; ends = c.requires.ends }

pub marked_elements-returns : goal.marked_elements-returns
marked_elements-returns t c =
    repeating_all c.loop-i.invariant c.loop-i-test.false c.pass_type.ensures

pub marked_fields-loop-i-init : goal.marked_fields-loop-i-init
marked_fields-loop-i-init t c =
    fielding_none _ _ _ c.requires.columns_at

pub marked_fields-marked_value-requires : goal.marked_fields-marked_value-requires
marked_fields-marked_value-requires t c =
    let F = fielding-first c.loop-i.invariant c.loop-i-test.true
    c.label.ensures.result_value c.in-Is.is in (
      omega (arith, c.decreases),
      (
        F.head,
        c.requires.ends,
      ),
    )

pub marked_fields-returns-in-Refused-marked_value : goal.marked_fields-returns-in-Refused-marked_value
marked_fields-returns-in-Refused-marked_value t c =
    fielding-refused c.loop-i.invariant c.loop-i-test.true c.label.ensures.result_value c.in-Is.is c.is_required.ensures c.marked_value.ensures
    c.in-Refused-marked_value.is

pub marked_fields-returns-in-Refused : goal.marked_fields-returns-in-Refused
marked_fields-returns-in-Refused t c =
    λ P. fielding_labelled c.loop-i.invariant c.loop-i-test.true c.label.ensures.result_value c.in-Refused.is

pub marked_fields-overflow_add-i : goal.marked_fields-overflow_add-i
marked_fields-overflow_add-i t c =
    omega (arith, c.ranges.n, c.loop-i-test.true)

pub marked_fields-loop-i-smaller : goal.marked_fields-loop-i-smaller
marked_fields-loop-i-smaller t c =
    omega arith

pub marked_fields-loop-i-preserved : goal.marked_fields-loop-i-preserved
marked_fields-loop-i-preserved t c =
    fielding-more c.loop-i.invariant c.loop-i-test.true c.label.ensures.result_value c.in-Is.is c.is_required.ensures c.marked_value.ensures
    c.in-To.is

pub marked_fields-returns : goal.marked_fields-returns
marked_fields-returns t c =
    fielding_all c.loop-i.invariant c.loop-i-test.false

pub marked_list-marked_elements-requires : goal.marked_list-marked_elements-requires
marked_list-marked_elements-requires t c =
    (omega (arith, c.decreases), (c.requires.type_at, c.requires.ends))

pub marked_list-returns-in-Is : goal.marked_list-returns-in-Is
marked_list-returns-in-Is t c =
    λ P. list_counted P.end (value_marked _ _ P.tree) _ _ c.short.ensures c.in-Is.is (c.marked_elements.ensures P)

pub marked_list-returns-in-Refused : goal.marked_list-returns-in-Refused
marked_list-returns-in-Refused t c =
    λ P. list_uncounted P.end (value_marked _ _ P.tree) _ _ c.short.ensures c.in-Refused.is

pub marked_nested-overflow_sub-inner : goal.marked_nested-overflow_sub-inner
marked_nested-overflow_sub-inner t c =
    let z = deep c.requires.type_at in omega arith

pub marked_nested-marked_fields-requires : goal.marked_nested-marked_fields-requires
marked_nested-marked_fields-requires t c =
    let z = deep c.requires.type_at in
    (omega (arith, c.decreases), ((struct-opened c.parts.ensures c.requires.type_at c.in-Struct.is).inner, c.requires.ends))

pub marked_nested-marked_list-requires : goal.marked_nested-marked_list-requires
marked_nested-marked_list-requires t c =
    let z = deep c.requires.type_at in
    (omega (arith, c.decreases), ((list-opened c.parts.ensures c.requires.type_at c.in-List.is).inner, c.requires.ends))

pub marked_nested-marked_elements-requires : goal.marked_nested-marked_elements-requires
marked_nested-marked_elements-requires t c =
    let z = deep c.requires.type_at in
    (omega (arith, c.decreases), ((array-opened c.parts.ensures c.requires.type_at c.in-Array.is).inner, c.requires.ends))

pub marked_nested-returns-in-To : goal.marked_nested-returns-in-To
marked_nested-returns-in-To t c =
    λ P. content-leaf _ P _ _ c.parts.ensures c.in-Leaf.is c.read_leaf.ensures c.in-To.is

pub marked_nested-returns-in-Refused-read_leaf : goal.marked_nested-returns-in-Refused-read_leaf
marked_nested-returns-in-Refused-read_leaf t c =
    λ P. content_no_leaf _ P _ _ c.parts.ensures c.in-Leaf.is c.read_leaf.ensures c.in-Refused-read_leaf.is

pub marked_nested-returns-in-Struct : goal.marked_nested-returns-in-Struct
marked_nested-returns-in-Struct t c =
    λ P. content-struct _ P _ _ c.parts.ensures c.in-Struct.is c.marked_fields.ensures

pub marked_nested-returns-in-List : goal.marked_nested-returns-in-List
marked_nested-returns-in-List t c =
    λ P. content-list _ P _ _ c.parts.ensures c.is_required.ensures c.in-List.is c.marked_list.ensures

pub marked_nested-returns-in-Array : goal.marked_nested-returns-in-Array
marked_nested-returns-in-Array t c =
    λ P. content-array _ P _ _ c.parts.ensures c.is_required-in-Array.ensures c.in-Array.is c.marked_elements.ensures

pub marked_nested-returns-in-Refused : goal.marked_nested-returns-in-Refused
marked_nested-returns-in-Refused t c =
    λ P. never_opened c.parts.ensures P c.in-Refused.is

pub marked_value-pass_type-requires : goal.marked_value-pass_type-requires
marked_value-pass_type-requires t c =
    record { type_at = c.requires.type_at; ends = c.requires.ends }

pub marked_value-marked_content-requires : goal.marked_value-marked_content-requires
marked_value-marked_content-requires t c =
    (omega (arith, c.decreases), (c.requires.type_at, c.requires.ends))

pub marked_value-returns-in-Null : goal.marked_value-returns-in-Null
marked_value-returns-in-Null t c =
    λ P. value-null P.end _ _ P.tree _ _ c.marked_presence.ensures c.in-Null.is (c.pass_type.ensures P)

pub marked_value-returns-in-Present : goal.marked_value-returns-in-Present
marked_value-returns-in-Present t c =
    λ P. value-present P.end _ _ P.tree _ _ c.marked_presence.ensures c.in-Present.is (c.marked_content.ensures P)

pub marked_value-returns-in-Refused : goal.marked_value-returns-in-Refused
marked_value-returns-in-Refused t c =
    λ P. value-refused P.end _ _ P.tree _ _ c.marked_presence.ensures c.in-Refused.is
