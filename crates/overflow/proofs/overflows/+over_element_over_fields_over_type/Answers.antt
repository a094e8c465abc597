-- `overflow::overflows::over_type`, `over_element` and `over_fields` meet their contracts: they call each other with
-- the depth of the type falling; the loop keeps `Fieldings`. Assumes nothing.
use Rattle.overflow.proofs.Paths.{step_top, step_leaves, step_room, step_deep, time_leaves, never_leaves, struct-leaves, list-leaves}
use Rattle.overflow.proofs.Paths.{array-leaves, element-leaves}
use Rattle.overflow.proofs.Paths.{fielding_none, fielding_all, fielding_labelled, fielding-type, fielding-found, fielding-more}
use Rattle.overflow.proofs.Elements.{list_element_lem, array_element_lem, element-type, element-labelled}
use Rattle.layout.proofs.View.{deep, struct_at, never_headless}
use native.Mathlib.Omega.{arith}
use Rattle.overflow.proofs.overflows.+over_element_over_fields_over_type.Goals as goal

pub over_element-part_path-below-requires : goal.over_element-part_path-below-requires
over_element-part_path-below-requires t c =
    omega (arith, c.requires.element_type_at.1, c.requires.element_type_at.2)

pub over_element-over_type-requires : goal.over_element-over_type-requires
over_element-over_type-requires t c = (
  omega (arith, c.decreases),
  (
    c.requires.skips,
    (
      c.requires.ends,
      (
        (
          c.requires.top_at.0,
          step_top c.args.path 0 c.requires.element_type_at.2 c.part_path-below.ensures c.requires.top_at.1,
        ),
        (
          element-type c.requires.element_type_at.0 c.element_label.ensures.result_value c.in-Is.is,
          step_deep c.args.path 0 c.requires.element_type_at.2 c.part_path-below.ensures _ c.requires.element_type_at.1,
          step_room c.args.path 0 c.requires.element_type_at.2 c.part_path-below.ensures,
        ),
      ),
    ),
  ),
)

pub over_element-returns-in-Is : goal.over_element-returns-in-Is
over_element-returns-in-Is t c =
    λ X T Q. element-leaves Q c.element_label.ensures.result_value c.in-Is.is _ (λ P. step_leaves c.args.path 0 c.requires.element_type_at.2
    c.part_path-below.ensures _ T _ (omega (arith, c.requires.element_type_at.1)) (λ S. c.over_type.ensures X S P))

pub over_element-returns-in-Refused : goal.over_element-returns-in-Refused
over_element-returns-in-Refused t c =
    λ X T Q. element-labelled Q c.element_label.ensures.result_value c.in-Refused.is

pub over_fields-loop-i-init : goal.over_fields-loop-i-init
over_fields-loop-i-init t c =
    λ X T. fielding_none _ c.requires.columns_at.0

pub over_fields-part_path-below-requires : goal.over_fields-part_path-below-requires
over_fields-part_path-below-requires t c =
    omega (arith, c.requires.columns_at.1, c.requires.columns_at.2)

pub over_fields-over_type-requires : goal.over_fields-over_type-requires
over_fields-over_type-requires t c =
    let F = c.loop-i.invariant c.requires.top_at.0 c.requires.top_at.1 in (
      omega (arith, c.decreases),
      (
        c.requires.skips,
        (
          c.requires.ends,
          (
            (
              c.requires.top_at.0,
              step_top
                  c.args.path c.loop-i.i c.requires.columns_at.2 c.part_path-below.ensures c.requires.top_at.1,
            ),
            (
              fielding-type F c.loop-i-test.true
                  c.label.ensures.result_value c.in-Is.is,
              step_deep c.args.path c.loop-i.i c.requires.columns_at.2 c.part_path-below.ensures _
                  c.requires.columns_at.1,
              step_room c.args.path c.loop-i.i c.requires.columns_at.2 c.part_path-below.ensures,
            ),
          ),
        ),
      ),
    )

pub over_fields-returns-then-over_type : goal.over_fields-returns-then-over_type
over_fields-returns-then-over_type t c =
    λ X T. fielding-found (c.loop-i.invariant X T) c.loop-i-test.true c.label.ensures.result_value c.in-Is.is (λ P. step_leaves c.args.path
    c.loop-i.i c.requires.columns_at.2 c.part_path-below.ensures _ T _ (omega (arith, c.requires.columns_at.1)) (λ S. c.over_type.ensures X S P))
    c.if-over_type.true

pub over_fields-skip_type-d-requires : goal.over_fields-skip_type-d-requires
over_fields-skip_type-d-requires t c =
    fielding-type (c.loop-i.invariant c.requires.top_at.0 c.requires.top_at.1) c.loop-i-test.true c.label.ensures.result_value c.in-Is.is

pub over_fields-returns-in-Refused : goal.over_fields-returns-in-Refused
over_fields-returns-in-Refused t c =
    λ X T Q. fielding_labelled (c.loop-i.invariant X T) c.loop-i-test.true c.label.ensures.result_value c.in-Refused.is

pub over_fields-overflow_add-i : goal.over_fields-overflow_add-i
over_fields-overflow_add-i t c =
    omega (arith, c.loop-i-test.true, c.well_formed.1.1.1.1.1.1.0)

pub over_fields-loop-i-preserved : goal.over_fields-loop-i-preserved
over_fields-loop-i-preserved t c =
    λ X T. fielding-more (c.loop-i.invariant X T) c.loop-i-test.true c.label.ensures.result_value c.in-Is.is (λ P. step_leaves c.args.path c.loop-i.i
    c.requires.columns_at.2 c.part_path-below.ensures _ T _ (omega (arith, c.requires.columns_at.1)) (λ S. c.over_type.ensures X S P)) c.if-over_type.false
    c.skip_type-d.ensures

pub over_fields-returns : goal.over_fields-returns
over_fields-returns t c =
    λ X T. fielding_all (c.loop-i.invariant X T) c.loop-i-test.false

pub over_type-over_leaf-requires : goal.over_type-over_leaf-requires
over_type-over_leaf-requires t c =
    record { skips = c.requires.skips; ends = c.requires.ends; top_at = c.requires.top_at; len_bound = (omega (arith, c.requires.type_at.1), c.requires.type_at.2) }

pub over_type-overflow_sub-fields : goal.over_type-overflow_sub-fields
over_type-overflow_sub-fields t c =
    let h = deep c.requires.type_at.0 in omega (arith, h)

pub over_type-over_fields-requires : goal.over_type-over_fields-requires
over_type-over_fields-requires t c =
    let h = deep c.requires.type_at.0 in (
      omega (arith, c.decreases, h),
      (
        c.requires.skips,
        (
          c.requires.ends,
          (
            c.requires.top_at,
            (
              (struct_at c.requires.type_at.0
                  c.head.ensures.result_value c.in-Struct.is).inner,
              omega (arith, c.requires.type_at.1, h),
              c.requires.type_at.2,
            ),
          ),
        ),
      ),
    )

pub over_type-overflow_sub-element : goal.over_type-overflow_sub-element
over_type-overflow_sub-element t c =
    let h = deep c.requires.type_at.0 in omega (arith, h)

pub over_type-over_element-requires : goal.over_type-over_element-requires
over_type-over_element-requires t c =
    let h = deep c.requires.type_at.0 in (
      omega (arith, c.decreases, h),
      (
        c.requires.skips,
        (
          c.requires.ends,
          (
            c.requires.top_at,
            (
              (list_element_lem c.requires.type_at.0 c.head.ensures.result_value c.in-List.is).0,
              omega (arith, c.requires.type_at.1, h),
              c.requires.type_at.2,
            ),
          ),
        ),
      ),
    )

pub over_type-overflow_sub-element-in-Array : goal.over_type-overflow_sub-element-in-Array
over_type-overflow_sub-element-in-Array t c =
    let h = deep c.requires.type_at.0 in omega (arith, h)

pub over_type-over_element-requires-in-Array : goal.over_type-over_element-requires-in-Array
over_type-over_element-requires-in-Array t c =
    let h = deep c.requires.type_at.0 in (
      omega (arith, c.decreases, h),
      (
        c.requires.skips,
        (
          c.requires.ends,
          (
            c.requires.top_at,
            (
              (array_element_lem c.requires.type_at.0 c.head.ensures.result_value c.in-Array.is).0,
              omega (arith, c.requires.type_at.1, h),
              c.requires.type_at.2,
            ),
          ),
        ),
      ),
    )

pub over_type-returns-in-In : goal.over_type-returns-in-In
over_type-returns-in-In t c =
    λ X T Q. time_leaves Q c.head.ensures.result_value _ c.in-Leaf.is c.time_of.ensures c.in-In.is (c.over_leaf.ensures X T)

pub over_type-returns-in-Never : goal.over_type-returns-in-Never
over_type-returns-in-Never t c =
    λ X T Q. never_leaves Q c.head.ensures.result_value _ c.in-Leaf.is c.time_of.ensures c.in-Never.is

pub over_type-returns-in-Struct : goal.over_type-returns-in-Struct
over_type-returns-in-Struct t c =
    λ X T Q. struct-leaves Q c.head.ensures.result_value _ c.in-Struct.is (c.over_fields.ensures X T)

pub over_type-returns-in-List : goal.over_type-returns-in-List
over_type-returns-in-List t c =
    λ X T Q. list-leaves Q c.head.ensures.result_value _ (c.over_element.ensures X T) c.in-List.is

pub over_type-returns-in-Array : goal.over_type-returns-in-Array
over_type-returns-in-Array t c =
    λ X T Q. array-leaves Q c.head.ensures.result_value _ (c.over_element-in-Array.ensures X T) c.in-Array.is

pub over_type-returns-in-Refused : goal.over_type-returns-in-Refused
over_type-returns-in-Refused t c =
    λ X T Q. never_headless Q c.head.ensures.result_value c.in-Refused.is
