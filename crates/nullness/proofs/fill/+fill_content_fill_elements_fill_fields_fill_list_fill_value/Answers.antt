-- `nullness::fill::fill_value` and what it calls meet their contracts: the measure is the number of levels left; the
-- loops keep `Elements` and `Row`. Assumes nothing.
use Rattle.overflow.proofs.Scanning.{list-elements}
use Rattle.overflow.proofs.Raw.{leaf-value, struct-value, a_list_lem, array-value}
use Rattle.nodes.proofs.Node.{raw-present, list-is}
use Rattle.values.proofs.Inside.{null-at}
use Rattle.plan.proofs.Skipping.{told}
use Rattle.layout.proofs.Ways.{clash}
use native.Mathlib.Omega.{arith}
use mathlib.Core.Path.{refl, ◌∙◌}
use Rattle.nullness.proofs.NullsTable.{grown-same, grown_then}
use Rattle.nullness.proofs.Filling.{nulls_as, each_as, null_nulls, leaf_nulls, struct_nulls, list-nulls, array-nulls, elements-none}
use Rattle.nullness.proofs.Filling.{elements-all, elements-raw, elements-more, row-none, row-all, row-raw, row_more}
use mathlib.Core.Path.{ap}
use mathlib.Core.Bool.{not}
use Rattle.nullness.proofs.fill.+fill_content_fill_elements_fill_fields_fill_list_fill_value.Goals as goal

pub fill_content-fill_fields-requires : goal.fill_content-fill_fields-requires
fill_content-fill_fields-requires t c =
    (omega (arith, c.decreases), (c.requires.ends, (struct-value c.requires.present_at c.head.ensures.result_value c.in-Struct.is).row))

pub fill_content-fill_list-requires : goal.fill_content-fill_list-requires
fill_content-fill_list-requires t c = (
  omega (arith, c.decreases),
  (
    c.requires.ends,
    (list-is c.requires.present_at c.head.ensures.result_value c.element_label.ensures.result_value c.in-Is.is
        c.in-List.is).inner,
  ),
)

pub fill_content-fill_elements-requires : goal.fill_content-fill_elements-requires
fill_content-fill_elements-requires t c = (
  omega (arith, c.decreases),
  (
    c.requires.ends,
    (array-value c.requires.present_at c.head.ensures.result_value c.element_label-in-Array.ensures.result_value
        c.in-Is-element_label.is c.in-Array.is).elements,
  ),
)

pub fill_content-returns-in-Leaf : goal.fill_content-returns-in-Leaf
fill_content-returns-in-Leaf t c =
    record { grown = grown-same _; nulls_of = λ e X. leaf_nulls (leaf-value X c.head.ensures.result_value c.in-Leaf.is) }

pub fill_content-returns-in-Struct : goal.fill_content-returns-in-Struct
fill_content-returns-in-Struct t c =
    record {
      grown = c.fill_fields.ensures.grown;
      nulls_of = λ e X. let S = struct-value X c.head.ensures.result_value c.in-Struct.is in struct_nulls c.head.ensures.result_value
          c.in-Struct.is S.is (c.fill_fields.ensures.row_of e S.row);
    }

pub fill_content-returns-in-Is : goal.fill_content-returns-in-Is
fill_content-returns-in-Is t c =
    record {
      grown = c.fill_list.ensures.grown;
      nulls_of = λ e X.
          let L = list-is X c.head.ensures.result_value c.element_label.ensures.result_value c.in-Is.is c.in-List.is in
          let A = a_list_lem X c.head.ensures.result_value c.in-List.is in
          list-nulls c.head.ensures.result_value c.element_label.ensures.result_value c.in-Is.is
          (c.fill_list.ensures.each_of e L.inner A.values (L.is ∙ A.is)) c.in-List.is A.is;
    }

pub fill_content-returns-in-Refused-element_label : goal.fill_content-returns-in-Refused-element_label
fill_content-returns-in-Refused-element_label t c =
    record { grown = grown-same _; nulls_of = λ e. clash (cc) }

pub fill_content-returns-in-Is-element_label : goal.fill_content-returns-in-Is-element_label
fill_content-returns-in-Is-element_label t c =
    record {
      grown = c.fill_elements.ensures.grown;
      nulls_of = λ e X.
          let A = array-value X c.head.ensures.result_value c.element_label-in-Array.ensures.result_value c.in-Is-element_label.is c.in-Array.is in
          array-nulls c.head.ensures.result_value c.element_label-in-Array.ensures.result_value c.in-Is-element_label.is (c.fill_elements.ensures.each_of e A.elements)
          c.in-Array.is A.is;
    }

pub fill_content-returns-in-Refused-element_label-2 : goal.fill_content-returns-in-Refused-element_label-2
fill_content-returns-in-Refused-element_label-2 t c =
    record { grown = grown-same _; nulls_of = λ e. clash (cc) }

pub fill_content-returns-in-Refused : goal.fill_content-returns-in-Refused
fill_content-returns-in-Refused t c =
    record { grown = grown-same _; nulls_of = λ e. clash (cc) }

pub fill_elements-loop-i-init : goal.fill_elements-loop-i-init
fill_elements-loop-i-init t c =
    (elements-none c.requires.elements_at, grown-same _, refl)

pub fill_elements-fill_value-requires : goal.fill_elements-fill_value-requires
fill_elements-fill_value-requires t c =
    (omega (arith, c.decreases), (c.requires.ends, elements-raw c.loop-i.invariant.0 c.loop-i-test.true))

pub fill_elements-returns-then-not-fill_value : goal.fill_elements-returns-then-not-fill_value
fill_elements-returns-then-not-fill_value t c =
    record { grown = grown_then c.loop-i.invariant.1 c.fill_value.ensures.grown; each_of = λ e. clash (cc) }

pub fill_elements-read_element-requires : goal.fill_elements-read_element-requires
fill_elements-read_element-requires t c =
    record { type_at = c.requires.elements_at.type; ends = c.requires.ends }

pub fill_elements-returns-in-Refused : goal.fill_elements-returns-in-Refused
fill_elements-returns-in-Refused t c =
    record { grown = grown_then c.loop-i.invariant.1 c.fill_value.ensures.grown; each_of = λ e. clash (cc) }

pub fill_elements-loop-i-preserved : goal.fill_elements-loop-i-preserved
fill_elements-loop-i-preserved t c = (
  elements-more c.loop-i.invariant.0 c.loop-i-test.true c.fill_value.ensures.grown (c.fill_value.ensures.nulls_of (told _ (ap not c.if-not-fill_value.false)))
      c.read_element.ensures c.in-To.is,
  grown_then c.loop-i.invariant.1 c.fill_value.ensures.grown,
  c.fill_value.auto.nulls ∙ c.loop-i.invariant.2,
)

pub fill_elements-returns : goal.fill_elements-returns
fill_elements-returns t c =
    record { grown = c.loop-i.invariant.1; each_of = λ e X. elements-all c.loop-i.invariant.0 c.loop-i-test.false X }

pub fill_fields-loop-i-init : goal.fill_fields-loop-i-init
fill_fields-loop-i-init t c =
    (row-none c.requires.row_at, grown-same _, refl)

pub fill_fields-fill_value-requires : goal.fill_fields-fill_value-requires
fill_fields-fill_value-requires t c =
    (omega (arith, c.decreases), (c.requires.ends, row-raw c.loop-i.invariant.0 c.loop-i-test.true c.label.ensures.result_value c.in-Is.is))

pub fill_fields-returns-then-not-fill_value : goal.fill_fields-returns-then-not-fill_value
fill_fields-returns-then-not-fill_value t c =
    record { grown = grown_then c.loop-i.invariant.1 c.fill_value.ensures.grown; row_of = λ e. clash (cc) }

pub fill_fields-read_value-requires : goal.fill_fields-read_value-requires
fill_fields-read_value-requires t c =
    record { type_at = (row-raw c.loop-i.invariant.0 c.loop-i-test.true c.label.ensures.result_value c.in-Is.is).type; ends = c.requires.ends }

pub fill_fields-returns-in-Refused-read_value : goal.fill_fields-returns-in-Refused-read_value
fill_fields-returns-in-Refused-read_value t c =
    record { grown = grown_then c.loop-i.invariant.1 c.fill_value.ensures.grown; row_of = λ e. clash (cc) }

pub fill_fields-returns-in-Refused : goal.fill_fields-returns-in-Refused
fill_fields-returns-in-Refused t c =
    record { grown = c.loop-i.invariant.1; row_of = λ e. clash (cc) }

pub fill_fields-overflow_add-i : goal.fill_fields-overflow_add-i
fill_fields-overflow_add-i t c =
    omega (arith, c.loop-i-test.true, c.ranges)

pub fill_fields-loop-i-preserved : goal.fill_fields-loop-i-preserved
fill_fields-loop-i-preserved t c = (
  row_more c.loop-i.invariant.0 c.loop-i-test.true c.label.ensures.result_value c.in-Is.is c.fill_value.ensures.grown
      (c.fill_value.ensures.nulls_of (told _ (ap not c.if-not-fill_value.false))) c.read_value.ensures c.in-To.is,
  grown_then c.loop-i.invariant.1
      c.fill_value.ensures.grown,
  c.fill_value.auto.nulls ∙ c.loop-i.invariant.2,
)

pub fill_fields-returns : goal.fill_fields-returns
fill_fields-returns t c =
    record { grown = c.loop-i.invariant.1; row_of = λ e X. row-all c.loop-i.invariant.0 c.loop-i-test.false X }

pub fill_list-fill_elements-requires : goal.fill_list-fill_elements-requires
fill_list-fill_elements-requires t c =
    (omega (arith, c.decreases), (c.requires.ends, (list-elements c.requires.list_of c.short.ensures c.in-Is.is).elements))

pub fill_list-returns-in-Is : goal.fill_list-returns-in-Is
fill_list-returns-in-Is t c =
    record {
      grown = c.fill_elements.ensures.grown;
      each_of = λ e X vs q. let L = list-elements X c.short.ensures c.in-Is.is in each_as L.is q
          (c.fill_elements.ensures.each_of e L.elements);
    }

pub fill_list-returns-in-Refused : goal.fill_list-returns-in-Refused
fill_list-returns-in-Refused t c =
    record { grown = grown-same _; each_of = λ e. clash (cc) }

pub fill_value-returns-then-depth-eq0 : goal.fill_value-returns-then-depth-eq0
fill_value-returns-then-depth-eq0 t c =
    record { grown = grown-same _; nulls_of = λ e. clash (cc) }

pub fill_value-overflow_sub-depth : goal.fill_value-overflow_sub-depth
fill_value-overflow_sub-depth t c =
    omega (arith, c.if-depth-eq0.false)

pub fill_value-fill_content-requires : goal.fill_value-fill_content-requires
fill_value-fill_content-requires t c =
    (omega (arith, c.decreases, c.if-depth-eq0.false), (c.requires.ends, (raw-present c.requires.raw_at c.read_presence.ensures c.in-Present.is).inner))

pub fill_value-returns-in-Null : goal.fill_value-returns-in-Null
fill_value-returns-in-Null t c =
    record {
      grown = c.keep_null.ensures.grown;
      nulls_of = λ e X. null_nulls (null-at X.value c.read_presence.ensures c.in-Null.is).0
          (c.keep_null.ensures.kept e);
    }

pub fill_value-returns-in-Present : goal.fill_value-returns-in-Present
fill_value-returns-in-Present t c =
    record {
      grown = c.fill_content.ensures.grown;
      nulls_of = λ e X. let I = raw-present X c.read_presence.ensures c.in-Present.is in nulls_as I.is
          (c.fill_content.ensures.nulls_of e I.inner);
    }

pub fill_value-returns-in-Refused : goal.fill_value-returns-in-Refused
fill_value-returns-in-Refused t c =
    record { grown = grown-same _; nulls_of = λ e. clash (cc) }
