-- The proof of the cycle of calls {write_fields, write_form, write_rest}. The measure is 3 for each level left, and 2,
-- 1 and 0 more. `Writing` holds at the head of the loop. Assumes nothing.
use Rattle.layout.specs.declared.cursor.Cursor.{Cursor}
use lib.ListN.{length}
use mathlib.Core.Path.{refl, sym, ap, ◌∙◌}
use Rattle.forms.proofs.Writing.{writing_none, writing_all, writing_more, column, column_name, unlabelled, extent, form-written, rest-leaf}
use Rattle.forms.proofs.Writing.{rest-struct, rest-list, rest-array, none-stored, rest-room, element-room, wrote, stored}
use Rattle.forms.proofs.Heads.{head_at, form-long, end-struct, end_list, end-array}
use Rattle.layout.proofs.View.{deep, struct_at, list_at, array_at, list-labelled, array-labelled, never_headless}
use native.Mathlib.Omega.{arith}
use Rattle.forms.proofs.write.+write_fields_write_form_write_rest.Goals as goal

pub write_fields-loop-i-init : goal.write_fields-loop-i-init
write_fields-loop-i-init t c =
    writing_none c.requires.columns_at c.requires.s_bound

pub write_fields-write_text-m-requires : goal.write_fields-write_text-m-requires
write_fields-write_text-m-requires t c =
    let N = column_name c.loop-i.invariant c.loop-i-test.true c.label.ensures.result_value c.in-Is.is c.label.ensures.label_in in record { span_in = N.0; s_bound = omega (arith, N.1, N.3, c.loop-i.invariant.room) }

pub write_fields-overflow_add-to : goal.write_fields-overflow_add-to
write_fields-overflow_add-to t c =
    let N = column_name c.loop-i.invariant c.loop-i-test.true c.label.ensures.result_value c.in-Is.is c.label.ensures.label_in in
    omega (arith, N.2, N.3, c.loop-i.invariant.room, c.write_text-m.ensures.value)

pub write_fields-write_form-w-requires : goal.write_fields-write_form-w-requires
write_fields-write_form-w-requires t c =
    let F = column c.loop-i.invariant c.loop-i-test.true c.label.ensures.result_value c.in-Is.is c.label.ensures.label_in in
    let N = column_name c.loop-i.invariant c.loop-i-test.true c.label.ensures.result_value c.in-Is.is c.label.ensures.label_in in
    (omega arith, (F.head, omega (arith, N.2, N.3, c.loop-i.invariant.room, c.write_text-m.ensures.value)))

pub write_fields-overflow_add-to-in-Is : goal.write_fields-overflow_add-to-in-Is
write_fields-overflow_add-to-in-Is t c =
    let N = column_name c.loop-i.invariant c.loop-i-test.true c.label.ensures.result_value c.in-Is.is c.label.ensures.label_in in
    omega (arith, N.2, N.3, c.loop-i.invariant.room, c.write_text-m.ensures.value)

pub write_fields-overflow_add-to-in-Is-2 : goal.write_fields-overflow_add-to-in-Is-2
write_fields-overflow_add-to-in-Is-2 t c =
    let F = column c.loop-i.invariant c.loop-i-test.true c.label.ensures.result_value c.in-Is.is c.label.ensures.label_in in
    let N = column_name c.loop-i.invariant c.loop-i-test.true c.label.ensures.result_value c.in-Is.is c.label.ensures.label_in in
    let E = extent F.head in
    omega (arith, N.2, E.0, E.1, c.loop-i.invariant.room, c.write_text-m.ensures.value, (c.write_form-w.ensures.len_value F.head).0)

pub write_fields-returns-in-Refused : goal.write_fields-returns-in-Refused
write_fields-returns-in-Refused t c =
    record { len_value = λ P. unlabelled c.loop-i.invariant c.loop-i-test.true c.label.ensures.result_value c.in-Refused.is; out_after = λ P. unlabelled c.loop-i.invariant c.loop-i-test.true c.label.ensures.result_value c.in-Refused.is }

pub write_fields-overflow_add-i : goal.write_fields-overflow_add-i
write_fields-overflow_add-i t c =
    omega (arith, c.ranges.n, c.loop-i-test.true)

pub write_fields-loop-i-smaller : goal.write_fields-loop-i-smaller
write_fields-loop-i-smaller t c =
    omega arith

pub write_fields-loop-i-preserved : goal.write_fields-loop-i-preserved
write_fields-loop-i-preserved t c =
    let F = column c.loop-i.invariant c.loop-i-test.true c.label.ensures.result_value c.in-Is.is c.label.ensures.label_in in
    writing_more c.loop-i.invariant c.loop-i-test.true c.label.ensures.result_value c.in-Is.is c.label.ensures.label_in c.write_text-m.ensures.value
    c.write_text-m.ensures.out_after (c.write_form-w.ensures.len_value F.head) (c.write_form-w.ensures.out_after F.head) (c.write_form-w.auto.out ∙
    c.write_text-m.auto.out)

pub write_fields-overflow_sub-result : goal.write_fields-overflow_sub-result
write_fields-overflow_sub-result t c =
    omega (arith, c.loop-i.invariant.over)

pub write_fields-returns : goal.write_fields-returns
write_fields-returns t c =
    record { len_value = λ P. let R = writing_all c.loop-i.invariant c.loop-i-test.false P in (R.0, R.1); out_after = λ P. (writing_all c.loop-i.invariant c.loop-i-test.false P).2 }

pub write_form-overflow_sub-h : goal.write_form-overflow_sub-h
write_form-overflow_sub-h t c =
    let H = head_at c.requires.type_at refl c.head_end-d.ensures in omega (arith, H.from)

pub write_form-copy-requires : goal.write_form-copy-requires
write_form-copy-requires t c =
    let H = head_at c.requires.type_at refl c.head_end-d.ensures in
    (H.from, H.to, omega (arith, H.to, H.inside, c.requires.s_bound))

pub write_form-overflow_add-k : goal.write_form-overflow_add-k
write_form-overflow_add-k t c =
    let H = head_at c.requires.type_at refl c.head_end-d.ensures in
    omega (arith, H.from, H.to, H.inside, c.requires.s_bound)

pub write_form-write_rest-rest-requires : goal.write_form-write_rest-rest-requires
write_form-write_rest-rest-requires t c =
    let H = head_at c.requires.type_at refl c.head_end-d.ensures in
    (omega arith, (c.requires.type_at, omega (arith, H.from, c.requires.s_bound, ap (λ (x : Cursor). x.at) c.head_end-d.ensures)))

pub write_form-overflow_add-result : goal.write_form-overflow_add-result
write_form-overflow_add-result t c =
    let H = head_at c.requires.type_at refl c.head_end-d.ensures in
    omega (arith, H.from, H.to, H.rest, H.ends, H.inside, c.requires.s_bound, (c.write_rest-rest.ensures.len_value c.requires.type_at).0)

pub write_form-returns : goal.write_form-returns
write_form-returns t c =
    record {
      len_value = λ P. let H = head_at P refl c.head_end-d.ensures in
          let E = c.write_rest-rest.ensures.len_value P in
          (omega (arith, H.from, H.long, E.0, form-long P), E.1);
      out_after = λ P. let H = head_at P refl c.head_end-d.ensures in
          form-written P H (λ i. (c.type_inv.s i).fits) _ _ c.copy.ensures (c.write_rest-rest.ensures.out_after P);
    }

pub write_rest-overflow_sub-depth : goal.write_rest-overflow_sub-depth
write_rest-overflow_sub-depth t c =
    let z = deep c.requires.type_at in omega arith

pub write_rest-write_fields-requires : goal.write_rest-write_fields-requires
write_rest-write_fields-requires t c =
    let z = deep c.requires.type_at in (
      omega arith,
      (
        (struct_at c.requires.type_at c.head.ensures.result_value c.in-Struct.is).inner,
        rest-room _ _ _ (end-struct _ _ _ c.head.ensures.result_value c.in-Struct.is)
            c.requires.s_bound,
      ),
    )

pub write_rest-overflow_sub-depth-in-Is : goal.write_rest-overflow_sub-depth-in-Is
write_rest-overflow_sub-depth-in-Is t c =
    let z = deep c.requires.type_at in omega arith

pub write_rest-write_form-requires : goal.write_rest-write_form-requires
write_rest-write_form-requires t c =
    let z = deep c.requires.type_at in (
      omega arith,
      (
        (list_at c.requires.type_at c.head.ensures.result_value c.element_label.ensures.result_value c.in-List.is c.in-Is.is).inner,
        element-room _ _ c.requires.type_at (end_list _ _ _ c.head.ensures.result_value c.in-List.is) c.element_label.ensures.result_value c.in-Is.is c.requires.s_bound,
      ),
    )

pub write_rest-overflow_sub-depth-in-Is-element_label : goal.write_rest-overflow_sub-depth-in-Is-element_label
write_rest-overflow_sub-depth-in-Is-element_label t c =
    let z = deep c.requires.type_at in omega arith

pub write_rest-write_form-requires-in-Is-element_label : goal.write_rest-write_form-requires-in-Is-element_label
write_rest-write_form-requires-in-Is-element_label t c =
    let z = deep c.requires.type_at in (
      omega arith,
      (
        (array_at c.requires.type_at c.head.ensures.result_value c.element_label-in-Array.ensures.result_value c.in-Array.is c.in-Is-element_label.is).inner,
        element-room _ _ c.requires.type_at (end-array _ _ _ c.head.ensures.result_value c.in-Array.is) c.element_label-in-Array.ensures.result_value c.in-Is-element_label.is c.requires.s_bound,
      ),
    )

pub write_rest-returns-in-Leaf : goal.write_rest-returns-in-Leaf
write_rest-returns-in-Leaf t c =
    record { len_value = λ P. let (a, b) = rest-leaf P c.head.ensures.result_value c.in-Leaf.is in (sym (ap length a), b); out_after = λ P. none-stored _ _ (rest-leaf P c.head.ensures.result_value c.in-Leaf.is).0 }

pub write_rest-returns-in-Struct : goal.write_rest-returns-in-Struct
write_rest-returns-in-Struct t c =
    record { len_value = λ P. let S = struct_at P c.head.ensures.result_value c.in-Struct.is in wrote (rest-struct P S) S.ends (c.write_fields.ensures.len_value S.inner); out_after = λ P. let S = struct_at P c.head.ensures.result_value c.in-Struct.is in stored _ _ (rest-struct P S) (c.write_fields.ensures.out_after S.inner) }

pub write_rest-returns-in-Is : goal.write_rest-returns-in-Is
write_rest-returns-in-Is t c =
    record {
      len_value = λ P. let L = list_at P c.head.ensures.result_value c.element_label.ensures.result_value c.in-List.is c.in-Is.is in wrote (rest-list P L) L.ends
          (c.write_form.ensures.len_value L.inner);
      out_after = λ P. let L = list_at P c.head.ensures.result_value c.element_label.ensures.result_value c.in-List.is c.in-Is.is in stored _ _ (rest-list P L)
          (c.write_form.ensures.out_after L.inner);
    }

pub write_rest-returns-in-Refused-element_label : goal.write_rest-returns-in-Refused-element_label
write_rest-returns-in-Refused-element_label t c =
    record { len_value = λ P. list-labelled P c.head.ensures.result_value c.element_label.ensures.result_value c.in-List.is c.in-Refused-element_label.is; out_after = λ P. list-labelled P c.head.ensures.result_value c.element_label.ensures.result_value c.in-List.is c.in-Refused-element_label.is }

pub write_rest-returns-in-Is-element_label : goal.write_rest-returns-in-Is-element_label
write_rest-returns-in-Is-element_label t c =
    record {
      len_value = λ P. let L = array_at P c.head.ensures.result_value c.element_label-in-Array.ensures.result_value c.in-Array.is c.in-Is-element_label.is in wrote (rest-array P L)
          L.ends (c.write_form-in-Is-element_label.ensures.len_value L.inner);
      out_after = λ P. let L = array_at P c.head.ensures.result_value c.element_label-in-Array.ensures.result_value c.in-Array.is c.in-Is-element_label.is in stored _ _ (rest-array P L)
          (c.write_form-in-Is-element_label.ensures.out_after L.inner);
    }

pub write_rest-returns-in-Refused-element_label-2 : goal.write_rest-returns-in-Refused-element_label-2
write_rest-returns-in-Refused-element_label-2 t c =
    record { len_value = λ P. array-labelled P c.head.ensures.result_value c.element_label-in-Array.ensures.result_value c.in-Array.is c.in-Refused-element_label-2.is; out_after = λ P. array-labelled P c.head.ensures.result_value c.element_label-in-Array.ensures.result_value c.in-Array.is c.in-Refused-element_label-2.is }

pub write_rest-returns-in-Refused : goal.write_rest-returns-in-Refused
write_rest-returns-in-Refused t c =
    record {
      len_value = λ P. never_headless P c.head.ensures.result_value c.in-Refused.is;
      out_after = λ P. never_headless P c.head.ensures.result_value
          c.in-Refused.is;
    }
