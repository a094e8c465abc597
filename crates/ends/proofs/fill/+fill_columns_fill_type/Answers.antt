-- The proof of the cycle of calls {fill_columns, fill_type}. The measure is 2 for each level left, and 1 more for
-- columns. `Skipping` and `Ends` hold at the head of the loop. Assumes nothing.
use Rattle.ends.proofs.Skipping.{skipping_none, skipping_all, skipping-first, skipping-unlabelled, skipping-more}
use Rattle.ends.proofs.Entries.{end_of, found-is}
use Rattle.layout.proofs.View.{deep, leaf_at_lem, struct_at, list_at, array_at, list-labelled, array-labelled, never_headless}
use native.Mathlib.Omega.{arith}
use mathlib.Core.Path.{refl, ◌∙◌}
use Rattle.ends.proofs.fill.+fill_columns_fill_type.Goals as goal

pub fill_columns-loop-i-init : goal.fill_columns-loop-i-init
fill_columns-loop-i-init t c =
    (skipping_none c.requires.columns_at, c.requires.ends, refl)

pub fill_columns-fill_type-d-requires : goal.fill_columns-fill_type-d-requires
fill_columns-fill_type-d-requires t c =
    let F = skipping-first c.loop-i.invariant.0 c.loop-i-test.true c.label.ensures.result_value
    c.in-Is.is in
    (omega (arith, c.decreases), (F.head, c.loop-i.invariant.1))

pub fill_columns-returns-in-Refused : goal.fill_columns-returns-in-Refused
fill_columns-returns-in-Refused t c =
    skipping-unlabelled c.loop-i.invariant.0 c.loop-i-test.true c.label.ensures.result_value c.in-Refused.is

pub fill_columns-overflow_add-i : goal.fill_columns-overflow_add-i
fill_columns-overflow_add-i t c =
    omega arith

pub fill_columns-loop-i-smaller : goal.fill_columns-loop-i-smaller
fill_columns-loop-i-smaller t c =
    omega arith

pub fill_columns-loop-i-preserved : goal.fill_columns-loop-i-preserved
fill_columns-loop-i-preserved t c = (
  skipping-more c.loop-i.invariant.0
      c.loop-i-test.true c.label.ensures.result_value
      c.in-Is.is c.fill_type-d.ensures.at_value,
  c.fill_type-d.ensures.ends_2,
  c.fill_type-d.ensures.ends_len_unchanged ∙ c.loop-i.invariant.2,
)

pub fill_columns-returns : goal.fill_columns-returns
fill_columns-returns t c =
    record { at_value = skipping_all c.loop-i.invariant.0 c.loop-i-test.false; ends_2 = c.loop-i.invariant.1; ends_len_unchanged = c.loop-i.invariant.2 }

pub fill_type-returns-in-At : goal.fill_type-returns-in-At
fill_type-returns-in-At t c =
    record { at_value = (λ P. found-is _ _ _ _ (c.plain_end.ensures _ _ P) c.in-At.is P); ends_2 = c.requires.ends; ends_len_unchanged = refl }

pub fill_type-overflow_sub-depth : goal.fill_type-overflow_sub-depth
fill_type-overflow_sub-depth t c =
    let z = deep c.requires.type_at in omega arith

pub fill_type-fill_columns-e-requires : goal.fill_type-fill_columns-e-requires
fill_type-fill_columns-e-requires t c =
    let z = deep c.requires.type_at in
    (omega (arith, c.decreases), ((struct_at c.requires.type_at c.head.ensures.result_value c.in-Struct.is).inner, c.requires.ends))

pub fill_type-overflow_sub-depth-in-Is : goal.fill_type-overflow_sub-depth-in-Is
fill_type-overflow_sub-depth-in-Is t c =
    let z = deep c.requires.type_at in omega arith

pub fill_type-fill_type-requires : goal.fill_type-fill_type-requires
fill_type-fill_type-requires t c =
    let z = deep c.requires.type_at in
    let L = list_at c.requires.type_at c.head.ensures.result_value
    c.element_label.ensures.result_value c.in-List.is
    c.in-Is.is in
    (omega (arith, c.decreases), (L.inner, c.requires.ends))

pub fill_type-overflow_sub-depth-in-Is-element_label : goal.fill_type-overflow_sub-depth-in-Is-element_label
fill_type-overflow_sub-depth-in-Is-element_label t c =
    let z = deep c.requires.type_at in omega arith

pub fill_type-fill_type-requires-in-Is-element_label : goal.fill_type-fill_type-requires-in-Is-element_label
fill_type-fill_type-requires-in-Is-element_label t c =
    let z = deep c.requires.type_at in
    let L = array_at c.requires.type_at c.head.ensures.result_value
    c.element_label-in-Array.ensures.result_value c.in-Array.is
    c.in-Is-element_label.is in
    (omega (arith, c.decreases), (L.inner, c.requires.ends))

pub fill_type-returns-in-Leaf : goal.fill_type-returns-in-Leaf
fill_type-returns-in-Leaf t c =
    record { at_value = (λ P. (leaf_at_lem P c.head.ensures.result_value c.in-Leaf.is).1); ends_2 = c.requires.ends; ends_len_unchanged = refl }

pub fill_type-returns-in-Struct : goal.fill_type-returns-in-Struct
fill_type-returns-in-Struct t c =
    let S = struct_at c.requires.type_at c.head.ensures.result_value c.in-Struct.is in record { at_value = (λ P. let Q = struct_at P c.head.ensures.result_value c.in-Struct.is in c.fill_columns-e.ensures.at_value Q.inner ∙ Q.ends); ends_2 = c.keep_end.ensures.ends _ _ c.fill_columns-e.ensures.ends_2 (end_of c.requires.type_at (c.fill_columns-e.ensures.at_value S.inner ∙ S.ends)); ends_len_unchanged = c.keep_end.ensures.ends_len_unchanged ∙ c.fill_columns-e.ensures.ends_len_unchanged }

pub fill_type-returns-in-Is : goal.fill_type-returns-in-Is
fill_type-returns-in-Is t c =
    record {
      at_value = (λ P. let L = list_at P c.head.ensures.result_value
          c.element_label.ensures.result_value c.in-List.is
          c.in-Is.is in c.fill_type.ensures.at_value L.inner ∙ L.ends);
      ends_2 = c.fill_type.ensures.ends_2;
      ends_len_unchanged = c.fill_type.ensures.ends_len_unchanged;
    }

pub fill_type-returns-in-Refused-element_label : goal.fill_type-returns-in-Refused-element_label
fill_type-returns-in-Refused-element_label t c =
    list-labelled c.requires.type_at c.head.ensures.result_value c.element_label.ensures.result_value c.in-List.is c.in-Refused-element_label.is

pub fill_type-returns-in-Is-element_label : goal.fill_type-returns-in-Is-element_label
fill_type-returns-in-Is-element_label t c =
    record {
      at_value = (λ P. let L = array_at P c.head.ensures.result_value
          c.element_label-in-Array.ensures.result_value c.in-Array.is
          c.in-Is-element_label.is in c.fill_type-in-Is-element_label.ensures.at_value L.inner ∙ L.ends);
      ends_2 = c.fill_type-in-Is-element_label.ensures.ends_2;
      ends_len_unchanged = c.fill_type-in-Is-element_label.ensures.ends_len_unchanged;
    }

pub fill_type-returns-in-Refused-element_label-2 : goal.fill_type-returns-in-Refused-element_label-2
fill_type-returns-in-Refused-element_label-2 t c =
    array-labelled c.requires.type_at c.head.ensures.result_value c.element_label-in-Array.ensures.result_value c.in-Array.is c.in-Refused-element_label-2.is

pub fill_type-returns-in-Refused : goal.fill_type-returns-in-Refused
fill_type-returns-in-Refused t c =
    never_headless c.requires.type_at c.head.ensures.result_value c.in-Refused.is
