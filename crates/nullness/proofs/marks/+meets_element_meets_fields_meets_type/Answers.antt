-- `nullness::marks::meets_type`, `meets_element` and `meets_fields` meet their contracts: they call each other with the
-- depth of the type falling; the loop keeps `Fieldings`. Assumes nothing.
use Rattle.nullness.proofs.Meeting.{element_place, element-met, top_fails, struct-place, list-place, array-place, leaf-meets, struct-meets, list-meets}
use Rattle.nullness.proofs.Meeting.{array-meets}
use Rattle.nullness.proofs.Meeting.{fielding_start, fielding_all, fielding_labelled, field, field-place, fielding-fails, fielding-more}
use Rattle.overflow.proofs.Paths.{step_room, step_deep}
use Rattle.nullness.proofs.Placing.{untold}
use Rattle.plan.proofs.Skipping.{told}
use Rattle.overflow.proofs.Elements.{list_element_lem, array_element_lem, element-type, element-labelled}
use Rattle.layout.proofs.View.{deep, struct_at, never_headless}
use mathlib.Core.Path.{refl}
use native.Mathlib.Omega.{arith}
use mathlib.Core.Path.{ap}
use mathlib.Core.Bool.{not}
use Rattle.nullness.proofs.marks.+meets_element_meets_fields_meets_type.Goals as goal

pub meets_element-part_path-below-requires : goal.meets_element-part_path-below-requires
meets_element-part_path-below-requires t c =
    omega (arith, c.requires.depth_bound.0, c.requires.depth_bound.1)

pub meets_element-meets_type-requires : goal.meets_element-meets_type-requires
meets_element-meets_type-requires t c =
    let S = element_place c.args.path c.requires.depth_bound.1 c.part_path-below.ensures (omega (arith, c.requires.depth_bound.0)) c.requires.element_at.1 c.element_label.ensures.result_value c.in-Is.is c.requires.element_at.2 in (
      omega (arith, c.decreases),
      (
        c.requires.skips,
        (
          c.requires.index_at,
          (
            (c.requires.element_at.0, element-type c.requires.element_at.1 c.element_label.ensures.result_value c.in-Is.is, S),
            (
              step_deep c.args.path 0 c.requires.depth_bound.1 c.part_path-below.ensures _ c.requires.depth_bound.0,
              step_room c.args.path 0 c.requires.depth_bound.1 c.part_path-below.ensures,
            ),
          ),
        ),
      ),
    )

pub meets_element-returns-in-Is : goal.meets_element-returns-in-Is
meets_element-returns-in-Is t c =
    λ P Q E. element-met c.args.path c.requires.depth_bound.1 c.part_path-below.ensures (omega (arith, c.requires.depth_bound.0)) Q
    c.element_label.ensures.result_value c.in-Is.is E _ (λ T S. c.meets_type.ensures P T S)

pub meets_element-returns-in-Refused : goal.meets_element-returns-in-Refused
meets_element-returns-in-Refused t c =
    λ P Q E. element-labelled Q c.element_label.ensures.result_value c.in-Refused.is

pub meets_fields-loop-i-init : goal.meets_fields-loop-i-init
meets_fields-loop-i-init t c =
    λ P D S. fielding_start D _

pub meets_fields-part_path-below-requires : goal.meets_fields-part_path-below-requires
meets_fields-part_path-below-requires t c =
    omega (arith, c.requires.depth_bound.0, c.requires.depth_bound.1)

pub meets_fields-meets_type-requires : goal.meets_fields-meets_type-requires
meets_fields-meets_type-requires t c =
    let F = c.loop-i.invariant c.requires.place_at.0 c.requires.place_at.1 c.requires.place_at.2 in let T = (field F c.loop-i-test.true
    c.label.ensures.result_value c.in-Is.is).head in let S = field-place F c.loop-i-test.true c.label.ensures.result_value c.in-Is.is
    c.args.path c.requires.place_at.2 c.requires.depth_bound.1 c.part_path-below.ensures (omega (arith, c.requires.depth_bound.0)) in (
      omega (arith, c.decreases),
      (
        c.requires.skips,
        (
          c.requires.index_at,
          (
            (c.requires.place_at.0, T, S),
            (
              step_deep c.args.path c.loop-i.i c.requires.depth_bound.1 c.part_path-below.ensures _ c.requires.depth_bound.0,
              step_room c.args.path c.loop-i.i c.requires.depth_bound.1
                  c.part_path-below.ensures,
            ),
          ),
        ),
      ),
    )

pub meets_fields-returns-then-not-meets_type : goal.meets_fields-returns-then-not-meets_type
meets_fields-returns-then-not-meets_type t c =
    λ P D S. fielding-fails (c.loop-i.invariant P D S) c.loop-i-test.true c.label.ensures.result_value c.in-Is.is
    c.args.path S c.requires.depth_bound.1 c.part_path-below.ensures (omega (arith, c.requires.depth_bound.0)) _ refl (λ T E. c.meets_type.ensures P T E) (untold _ (ap not c.if-not-meets_type.true))

pub meets_fields-skip_type-d-requires : goal.meets_fields-skip_type-d-requires
meets_fields-skip_type-d-requires t c =
    (field (c.loop-i.invariant c.requires.place_at.0 c.requires.place_at.1 c.requires.place_at.2) c.loop-i-test.true c.label.ensures.result_value c.in-Is.is).head

pub meets_fields-returns-in-Refused : goal.meets_fields-returns-in-Refused
meets_fields-returns-in-Refused t c =
    λ P D S. fielding_labelled (c.loop-i.invariant P D S) c.loop-i-test.true c.label.ensures.result_value c.in-Refused.is

pub meets_fields-overflow_add-i : goal.meets_fields-overflow_add-i
meets_fields-overflow_add-i t c =
    omega (arith, c.loop-i-test.true, c.well_formed.1.1.1.1.1.1.1.0)

pub meets_fields-loop-i-preserved : goal.meets_fields-loop-i-preserved
meets_fields-loop-i-preserved t c =
    λ P D S. fielding-more (c.loop-i.invariant P D S) c.loop-i-test.true c.label.ensures.result_value c.in-Is.is
    c.args.path S c.requires.depth_bound.1 c.part_path-below.ensures (omega (arith, c.requires.depth_bound.0)) _ refl (λ T E. c.meets_type.ensures P T E) (told _ (ap not c.if-not-meets_type.false))
    c.skip_type-d.ensures

pub meets_fields-returns : goal.meets_fields-returns
meets_fields-returns t c =
    λ P D S. fielding_all (c.loop-i.invariant P D S) c.loop-i-test.false

pub meets_type-meets_place-requires : goal.meets_type-meets_place-requires
meets_type-meets_place-requires t c =
    record { skips = c.requires.skips; index_at = c.requires.index_at; place_at = (c.requires.place_at.0, _, c.requires.place_at.2); len_bound = (omega (arith, c.requires.depth_bound.0), c.requires.depth_bound.1) }

pub meets_type-returns-then-not-meets_place : goal.meets_type-returns-then-not-meets_place
meets_type-returns-then-not-meets_place t c =
    λ P Q S. top_fails _ _ Q.tree (c.meets_place.ensures P _ S) (untold _ (ap not c.if-not-meets_place.true))

pub meets_type-overflow_sub-fields : goal.meets_type-overflow_sub-fields
meets_type-overflow_sub-fields t c =
    let h = deep c.requires.place_at.1 in omega (arith, h)

pub meets_type-meets_fields-requires : goal.meets_type-meets_fields-requires
meets_type-meets_fields-requires t c =
    let h = deep c.requires.place_at.1 in let I = struct_at c.requires.place_at.1 c.head.ensures.result_value c.in-Struct.is in
    (omega (arith, c.decreases, h), (c.requires.skips, (c.requires.index_at, ((c.requires.place_at.0, I.inner, struct-place c.requires.place_at.2 I.is), (omega (arith, c.requires.depth_bound.0, h), c.requires.depth_bound.1)))))

pub meets_type-overflow_sub-element : goal.meets_type-overflow_sub-element
meets_type-overflow_sub-element t c =
    let h = deep c.requires.place_at.1 in omega (arith, h)

pub meets_type-meets_element-requires : goal.meets_type-meets_element-requires
meets_type-meets_element-requires t c =
    let h = deep c.requires.place_at.1 in
    let (E, i) = list_element_lem c.requires.place_at.1 c.head.ensures.result_value c.in-List.is in
    (omega (arith, c.decreases, h), (c.requires.skips, (c.requires.index_at, ((c.requires.place_at.0, E, list-place c.requires.place_at.2 i), (omega (arith, c.requires.depth_bound.0, h), c.requires.depth_bound.1)))))

pub meets_type-overflow_sub-element-in-Array : goal.meets_type-overflow_sub-element-in-Array
meets_type-overflow_sub-element-in-Array t c =
    let h = deep c.requires.place_at.1 in omega (arith, h)

pub meets_type-meets_element-requires-in-Array : goal.meets_type-meets_element-requires-in-Array
meets_type-meets_element-requires-in-Array t c =
    let h = deep c.requires.place_at.1 in
    let (E, i) = array_element_lem c.requires.place_at.1 c.head.ensures.result_value c.in-Array.is in
    (omega (arith, c.decreases, h), (c.requires.skips, (c.requires.index_at, ((c.requires.place_at.0, E, array-place c.requires.place_at.2 i), (omega (arith, c.requires.depth_bound.0, h), c.requires.depth_bound.1)))))

pub meets_type-returns-in-Leaf : goal.meets_type-returns-in-Leaf
meets_type-returns-in-Leaf t c =
    λ P Q S. leaf-meets Q c.head.ensures.result_value S _ _ (c.meets_place.ensures P _ S) (told _ (ap not c.if-not-meets_place.false)) c.in-Leaf.is

pub meets_type-returns-in-Struct : goal.meets_type-returns-in-Struct
meets_type-returns-in-Struct t c =
    λ P Q S. struct-meets Q c.head.ensures.result_value S _ _ (c.meets_place.ensures P _ S) (told _ (ap not c.if-not-meets_place.false)) c.in-Struct.is (λ D F.
    c.meets_fields.ensures P D F)

pub meets_type-returns-in-List : goal.meets_type-returns-in-List
meets_type-returns-in-List t c =
    λ P Q S. list-meets Q c.head.ensures.result_value S _ _ (c.meets_place.ensures P _ S) (told _ (ap not c.if-not-meets_place.false)) (λ T E. c.meets_element.ensures P T E)
    c.in-List.is

pub meets_type-returns-in-Array : goal.meets_type-returns-in-Array
meets_type-returns-in-Array t c =
    λ P Q S. array-meets Q c.head.ensures.result_value S _ _ (c.meets_place.ensures P _ S) (told _ (ap not c.if-not-meets_place.false)) (λ T E. c.meets_element-in-Array.ensures P T E)
    c.in-Array.is

pub meets_type-returns-in-Refused : goal.meets_type-returns-in-Refused
meets_type-returns-in-Refused t c =
    λ P Q S. never_headless Q c.head.ensures.result_value c.in-Refused.is
