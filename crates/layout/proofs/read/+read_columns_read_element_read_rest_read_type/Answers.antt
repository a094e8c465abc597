-- The proof of the cycle of calls {read_columns, read_element, read_rest, read_type}. The measure is 3 for each level
-- left, and 1, 1, 2 and 0 more. `Reading` holds at the head of the loop. Assumes nothing.
use borrow.Author.Rules.{rules}
use mathlib.Core.Path.{sym, ◌∙◌}
use native.Mathlib.Omega.{arith}
use Rattle.layout.proofs.Ways.{label_in}
use Rattle.layout.proofs.Passing.{not_plain, type_unruled, type-passed, rest-passed, element-passed}
use Rattle.layout.proofs.Noting.{keeps_same}
use Rattle.layout.proofs.Reading.{reading_none, reading_all, reading-no-label, reading-no-type, reading-repeated, reading-more}
use Rattle.layout.proofs.Reading.{reading_begins, reading-noted}
use Rattle.layout.proofs.read.+read_columns_read_element_read_rest_read_type.Goals as goal

pub read_columns-loop-i-init : goal.read_columns-loop-i-init
read_columns-loop-i-init t c =
    reading_none _ _ _ _ _ _ _ _

pub read_columns-is_repeated-requires : goal.read_columns-is_repeated-requires
read_columns-is_repeated-requires t c =
    record { span_in = label_in _ c.label.ensures.label_in c.in-Is.is; begins = reading_begins _ _ _ _ _ _ _ _ _ _ c.loop-i.invariant c.loop-i-test.true c.label.ensures.result_value c.in-Is.is (c.read_type.ensures.value, c.read_type.ensures.keeps); noted = reading-noted _ _ _ _ _ _ _ _ _ _ c.loop-i.invariant c.loop-i-test.true c.label.ensures.result_value c.in-Is.is (c.read_type.ensures.value, c.read_type.ensures.keeps) }

pub read_columns-shape_of-seen-then-is_repeated : goal.read_columns-shape_of-seen-then-is_repeated
read_columns-shape_of-seen-then-is_repeated t c =
    sym (c.loop-i.invariant.kept.long ∙ c.read_type.ensures.keeps.long ∙ c.is_repeated.ensures.keeps.long)

pub read_columns-returns-then-is_repeated : goal.read_columns-returns-then-is_repeated
read_columns-returns-then-is_repeated t c =
    let all = reading-repeated _ _ _ _ _ _ _ _ _ _ c.loop-i.invariant c.loop-i-test.true c.label.ensures.result_value c.in-Is.is (c.read_type.ensures.value, c.read_type.ensures.keeps) c.in-To.is
    (c.is_repeated.ensures.value, (c.is_repeated.ensures.keeps, c.is_repeated.ensures.notes)) c.if-is_repeated.true in record { value = all.0; keeps = all.1 }

pub read_columns-shape_of-seen-in-Refused-read_type : goal.read_columns-shape_of-seen-in-Refused-read_type
read_columns-shape_of-seen-in-Refused-read_type t c =
    sym (c.loop-i.invariant.kept.long ∙ c.read_type.ensures.keeps.long)

pub read_columns-returns-in-Refused-read_type : goal.read_columns-returns-in-Refused-read_type
read_columns-returns-in-Refused-read_type t c =
    let all = reading-no-type _ _ _ _ _ _ _ _ _ _ c.loop-i.invariant c.loop-i-test.true c.label.ensures.result_value c.in-Is.is (c.read_type.ensures.value, c.read_type.ensures.keeps) c.in-Refused-read_type.is in record { value = all.0; keeps = all.1 }

pub read_columns-shape_of-seen-in-Refused : goal.read_columns-shape_of-seen-in-Refused
read_columns-shape_of-seen-in-Refused t c =
    sym c.loop-i.invariant.kept.long

pub read_columns-returns-in-Refused : goal.read_columns-returns-in-Refused
read_columns-returns-in-Refused t c =
    let all = reading-no-label _ _ _ _ _ _ _ _ _ _ c.loop-i.invariant c.loop-i-test.true c.label.ensures.result_value c.in-Refused.is in record { value = all.0; keeps = all.1 }

pub read_columns-overflow_add-i : goal.read_columns-overflow_add-i
read_columns-overflow_add-i t c =
    omega (arith, c.ranges.n, c.loop-i-test.true)

pub read_columns-loop-i-smaller : goal.read_columns-loop-i-smaller
read_columns-loop-i-smaller t c =
    omega arith

pub read_columns-loop-i-preserved : goal.read_columns-loop-i-preserved
read_columns-loop-i-preserved t c =
    reading-more _ _ _ _ _ _ _ _ _ _ c.loop-i.invariant c.loop-i-test.true c.label.ensures.result_value c.in-Is.is (c.read_type.ensures.value, c.read_type.ensures.keeps) c.in-To.is
    (c.is_repeated.ensures.value, (c.is_repeated.ensures.keeps, c.is_repeated.ensures.notes)) c.if-is_repeated.false

pub read_columns-shape_of-seen : goal.read_columns-shape_of-seen
read_columns-shape_of-seen t c =
    sym c.loop-i.invariant.kept.long

pub read_columns-returns : goal.read_columns-returns
read_columns-returns t c =
    let all = reading_all _ _ _ _ _ _ _ _ _ _ c.loop-i.invariant c.loop-i-test.false in record { value = all.0; keeps = all.1 }

pub read_element-shape_of-seen : goal.read_element-shape_of-seen
read_element-shape_of-seen t c =
    sym c.read_type.ensures.keeps.long

pub read_element-returns-in-To : goal.read_element-returns-in-To
read_element-returns-in-To t c =
    record { value = search element-passed; keeps = c.read_type.ensures.keeps }

pub read_element-returns-in-Refused : goal.read_element-returns-in-Refused
read_element-returns-in-Refused t c =
    record { value = search element-passed; keeps = keeps_same _ }

pub read_rest-returns-in-14 : goal.read_rest-returns-in-14
read_rest-returns-in-14 t c =
    record { value = search rest-passed; keeps = keeps_same _ }

pub read_rest-shape_of-seen-in-Is : goal.read_rest-shape_of-seen-in-Is
read_rest-shape_of-seen-in-Is t c =
    sym c.read_columns.ensures.keeps.long

pub read_rest-returns-in-Is : goal.read_rest-returns-in-Is
read_rest-returns-in-Is t c =
    record { value = search rest-passed; keeps = c.read_columns.ensures.keeps }

pub read_rest-returns-in-Refused : goal.read_rest-returns-in-Refused
read_rest-returns-in-Refused t c =
    record { value = search rest-passed; keeps = keeps_same _ }

pub read_rest-shape_of-seen-in-19 : goal.read_rest-shape_of-seen-in-19
read_rest-shape_of-seen-in-19 t c =
    sym c.read_element.ensures.keeps.long

pub read_rest-returns-in-19 : goal.read_rest-returns-in-19
read_rest-returns-in-19 t c =
    record { value = search rest-passed; keeps = c.read_element.ensures.keeps }

pub read_rest-shape_of-seen-in-To : goal.read_rest-shape_of-seen-in-To
read_rest-shape_of-seen-in-To t c =
    sym c.read_element-in-To.ensures.keeps.long

pub read_rest-returns-in-To : goal.read_rest-returns-in-To
read_rest-returns-in-To t c =
    record { value = search rest-passed; keeps = c.read_element-in-To.ensures.keeps }

pub read_rest-returns-in-Refused-pass_long : goal.read_rest-returns-in-Refused-pass_long
read_rest-returns-in-Refused-pass_long t c =
    record { value = search rest-passed; keeps = keeps_same _ }

pub read_rest-returns-in-21 : goal.read_rest-returns-in-21
read_rest-returns-in-21 t c =
    record { value = search rest-passed; keeps = keeps_same _ }

pub read_rest-returns-in_default : goal.read_rest-returns-in_default
read_rest-returns-in_default t c =
    record { value = search rest-passed; keeps = keeps_same _ }

pub read_type-returns-in-Free : goal.read_type-returns-in-Free
read_type-returns-in-Free t c =
    record { value = search type_unruled; keeps = keeps_same _ }

pub read_type-returns-then-depth-eq0 : goal.read_type-returns-then-depth-eq0
read_type-returns-then-depth-eq0 t c =
    record { value = search type-passed; keeps = keeps_same _ }

pub read_type-read_rest-requires : goal.read_type-read_rest-requires
read_type-read_rest-requires t c =
    search (not_plain, rules)

pub read_type-returns-in-Known : goal.read_type-returns-in-Known
read_type-returns-in-Known t c =
    record { value = search type-passed; keeps = keeps_same _ }

pub read_type-shape_of-seen : goal.read_type-shape_of-seen
read_type-shape_of-seen t c =
    sym c.read_rest.ensures.keeps.long

pub read_type-returns-in-Unknown : goal.read_type-returns-in-Unknown
read_type-returns-in-Unknown t c =
    record { value = search type-passed; keeps = c.read_rest.ensures.keeps }

pub read_type-returns-in-Refused : goal.read_type-returns-in-Refused
read_type-returns-in-Refused t c =
    record { value = search type-passed; keeps = keeps_same _ }
