-- `overflow::scan::some_at`, `some_part`, `some_listed` and `some_element` meet their contracts: they call each other
-- with the path getting shorter; the loop keeps `Scanning`. Assumes nothing.
use Rattle.overflow.proofs.Scanning.{path-end, path_cons, at-end, same-node, leaf_step, struct_step, list_step, array_step, list-elements}
use Rattle.overflow.proofs.Scanning.{list_any, scanning_none, scanning_all, scanning_raw, scanning-found, scanning-stuck, scanning-more}
use Rattle.overflow.proofs.Raw.{leaf-value, struct-value, a_list_lem, array-value}
use Rattle.nodes.proofs.Node.{raw-present, raw_unread, list-is}
use Rattle.values.proofs.Inside.{null-at, never_uncounted}
use Rattle.layout.proofs.View.{never_headless, list-labelled, array-labelled}
use borrow.Author.Rules.{rules}
use Prim.Native.Nat.{◌<◌}
use native.Mathlib.Omega.{arith}
use lib.ListN.{length}
use mathlib.Core.Path.{◌≡◌, sym}
use Rattle.overflow.proofs.scan.+some_at_some_element_some_listed_some_part.Goals as goal

pub some_at-present_sought-requires : goal.some_at-present_sought-requires
some_at-present_sought-requires t c =
    record { present_at = (raw-present c.requires.raw_at c.read_presence.ensures c.in-Present.is).inner; small_sought = c.requires.small_search.2 }

pub some_at-some_part-requires : goal.some_at-some_part-requires
some_at-some_part-requires t c = (
  omega (arith, c.decreases),
  (
    c.requires.ends,
    (
      (raw-present c.requires.raw_at c.read_presence.ensures c.in-Present.is).inner,
      (
        c.requires.small_search,
        omega
            (arith, c.requires.small_search.0, c.if-search.false),
      ),
    ),
  ),
)

pub some_at-returns-in-Null : goal.some_at-returns-in-Null
some_at-returns-in-Null t c =
    λ X. same-node _ _ (sym (null-at X.value c.read_presence.ensures c.in-Null.is).0) (c.null_sought.ensures _ c.requires.small_search.0
    c.requires.small_search.1)

pub some_at-returns-then-search : goal.some_at-returns-then-search
some_at-returns-then-search t c =
    λ X. let I = raw-present X c.read_presence.ensures c.in-Present.is in at-end _ (path-end _ _ _ c.if-search.true) I.is (c.present_sought.ensures
    I.inner)

pub some_at-returns-else-search : goal.some_at-returns-else-search
some_at-returns-else-search t c =
    λ X. let I = raw-present X c.read_presence.ensures c.in-Present.is in same-node _ _ I.is (c.some_part.ensures I.inner)

pub some_at-returns-in-Refused : goal.some_at-returns-in-Refused
some_at-returns-in-Refused t c =
    λ X. raw_unread X c.read_presence.ensures c.in-Refused.is

pub some_element-loop-i-init : goal.some_element-loop-i-init
some_element-loop-i-init t c =
    scanning_none _ c.requires.elements_at

pub some_element-some_at-requires : goal.some_element-some_at-requires
some_element-some_at-requires t c =
    (omega (arith, c.decreases), (c.requires.ends, (scanning_raw c.loop-i.invariant c.loop-i-test.true, c.requires.small_search)))

pub some_element-returns-then-some_at : goal.some_element-returns-then-some_at
some_element-returns-then-some_at t c =
    scanning-found c.loop-i.invariant c.loop-i-test.true c.some_at.ensures c.if-some_at.true

pub some_element-returns-in-Refused : goal.some_element-returns-in-Refused
some_element-returns-in-Refused t c =
    λ X. scanning-stuck c.loop-i.invariant c.loop-i-test.true c.some_at.ensures c.read_element.ensures c.in-Refused.is

pub some_element-loop-i-preserved : goal.some_element-loop-i-preserved
some_element-loop-i-preserved t c =
    scanning-more c.loop-i.invariant c.loop-i-test.true c.some_at.ensures c.read_element.ensures c.if-some_at.false c.in-To.is

pub some_element-returns : goal.some_element-returns
some_element-returns t c =
    scanning_all c.loop-i.invariant c.loop-i-test.false

pub some_listed-some_element-requires : goal.some_listed-some_element-requires
some_listed-some_element-requires t c =
    (omega (arith, c.decreases), (c.requires.ends, ((list-elements c.requires.list_of c.short.ensures c.in-Is.is).elements, c.requires.small_search)))

pub some_listed-returns-in-Is : goal.some_listed-returns-in-Is
some_listed-returns-in-Is t c =
    λ X. let L = list-elements X c.short.ensures c.in-Is.is in list_any _ L.is (c.some_element.ensures L.elements)

pub some_listed-returns-in-Refused : goal.some_listed-returns-in-Refused
some_listed-returns-in-Refused t c =
    λ X. never_uncounted X.content c.short.ensures c.in-Refused.is

pub some_part-offset_bounds-search-from : goal.some_part-offset_bounds-search-from
some_part-offset_bounds-search-from t c =
    let h : length c.args.search.path ≡ 64 = search (rules, c.well_formed.1.1.1.1.1.0) in
    let k : c.args.search.from < 64 = omega (arith, h, c.requires.small_search.1, c.requires.small_search.0.1) in
    search (rules, k)

pub some_part-bounds-search-from : goal.some_part-bounds-search-from
some_part-bounds-search-from t c =
    let h : length c.args.search.path ≡ 64 = search (rules, c.well_formed.1.1.1.1.1.0) in
    let k : c.args.search.from < 64 = omega (arith, h, c.requires.small_search.1, c.requires.small_search.0.1) in
    search (rules, k)

pub some_part-field_at-requires : goal.some_part-field_at-requires
some_part-field_at-requires t c =
    record { row_at = (struct-value c.requires.present_at c.head.ensures.result_value c.in-Struct.is).row; ends = c.requires.ends }

pub some_part-some_at-requires : goal.some_part-some_at-requires
some_part-some_at-requires t c =
    let S = struct-value c.requires.present_at c.head.ensures.result_value c.in-Struct.is in (
      omega (arith, c.decreases, c.requires.small_search.1),
      (
        c.requires.ends,
        (
          ((c.field_at.ensures S.row).here _ _ c.in-At.is).raw,
          (
            omega (arith, c.requires.small_search.1),
            c.requires.small_search.0.1,
            c.requires.small_search.0.2,
          ),
        ),
      ),
    )

pub some_part-some_listed-requires : goal.some_part-some_listed-requires
some_part-some_listed-requires t c = (
  omega (arith, c.decreases, c.requires.small_search.1),
  (
    c.requires.ends,
    (
      (list-is c.requires.present_at c.head.ensures.result_value c.element_label.ensures.result_value
          c.in-Is.is c.in-List.is).inner,
      (omega (arith, c.requires.small_search.1), c.requires.small_search.0.1, c.requires.small_search.0.2),
    ),
  ),
)

pub some_part-some_element-requires : goal.some_part-some_element-requires
some_part-some_element-requires t c = (
  omega (arith, c.decreases, c.requires.small_search.1),
  (
    c.requires.ends,
    (
      (array-value c.requires.present_at c.head.ensures.result_value
          c.element_label-in-Array.ensures.result_value c.in-Is-element_label.is c.in-Array.is).elements,
      (
        omega (arith, c.requires.small_search.1),
        c.requires.small_search.0.1,
        c.requires.small_search.0.2,
      ),
    ),
  ),
)

pub some_part-returns-in-Leaf : goal.some_part-returns-in-Leaf
some_part-returns-in-Leaf t c =
    λ X. leaf_step _ (path_cons _ _ _ c.requires.small_search.1 c.requires.small_search.0.1) (leaf-value X c.head.ensures.result_value c.in-Leaf.is)

pub some_part-returns-in-At : goal.some_part-returns-in-At
some_part-returns-in-At t c =
    λ X. let S = struct-value X c.head.ensures.result_value c.in-Struct.is in let N = (c.field_at.ensures S.row).here _ _ c.in-At.is in struct_step _
    (path_cons _ _ _ c.requires.small_search.1 c.requires.small_search.0.1) S.is (same-node _ _ N.is (c.some_at.ensures N.raw))

pub some_part-returns-in-Null : goal.some_part-returns-in-Null
some_part-returns-in-Null t c =
    λ X. let S = struct-value X c.head.ensures.result_value c.in-Struct.is in struct_step _ (path_cons _ _ _ c.requires.small_search.1 c.requires.small_search.0.1)
    S.is (same-node _ _ (sym ((c.field_at.ensures S.row).none c.in-Null.is)) (c.null_sought.ensures _ (omega (
      arith,
      c.requires.small_search.1,
    )) c.requires.small_search.0.1))

pub some_part-returns-in-Is : goal.some_part-returns-in-Is
some_part-returns-in-Is t c =
    λ X. let L = list-is X c.head.ensures.result_value c.element_label.ensures.result_value c.in-Is.is c.in-List.is in list_step _ (path_cons _ _ _
    c.requires.small_search.1 c.requires.small_search.0.1) (a_list_lem X c.head.ensures.result_value c.in-List.is).is L.is (c.some_listed.ensures L.inner)

pub some_part-returns-in-Refused-element_label : goal.some_part-returns-in-Refused-element_label
some_part-returns-in-Refused-element_label t c =
    λ X. list-labelled X.type c.head.ensures.result_value c.element_label.ensures.result_value c.in-List.is c.in-Refused-element_label.is

pub some_part-returns-in-Is-element_label : goal.some_part-returns-in-Is-element_label
some_part-returns-in-Is-element_label t c =
    λ X. let A = array-value X c.head.ensures.result_value c.element_label-in-Array.ensures.result_value c.in-Is-element_label.is c.in-Array.is in array_step _ (path_cons _ _ _
    c.requires.small_search.1 c.requires.small_search.0.1) A.is (c.some_element.ensures A.elements)

pub some_part-returns-in-Refused-element_label-2 : goal.some_part-returns-in-Refused-element_label-2
some_part-returns-in-Refused-element_label-2 t c =
    λ X. array-labelled X.type c.head.ensures.result_value c.element_label-in-Array.ensures.result_value c.in-Array.is c.in-Refused-element_label-2.is

pub some_part-returns-in-Refused : goal.some_part-returns-in-Refused
some_part-returns-in-Refused t c =
    λ X. never_headless X.type c.head.ensures.result_value c.in-Refused.is
