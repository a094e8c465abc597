-- `check_element`, `check_fields`, `check_scoped` and `check_transform` of `checker::selector` meet their contracts, by
-- the falling measures below. Assumes nothing.
use mathlib.Core.Path.{sym, ◌∙◌}
use mathlib.Core.Bool.{true, false}
use native.Mathlib.Omega.{arith}
use Rattle.checker.proofs.Selecting.{checking-before, transform_is, a_transform, input_asks, input-stands, input-falls, input-refused, input-passed}
use Rattle.checker.proofs.Selecting.{rest_of, one-element, element-child_asks, element-small, element_step, element-answer, element-refused}
use Rattle.checker.proofs.Selecting.{element-passed, element-typed, element-given, mapping_asks, passing_start, passing-asks, passing-falls}
use Rattle.checker.proofs.Selecting.{passing-named, passing-refused, passing-more, passing_end}
use Rattle.checker.proofs.selector.+check_element_check_fields_check_scoped_check_transform.Goals as goal

pub check_element-child-x-requires : goal.check_element-child-x-requires
check_element-child-x-requires t c =
    let (u, e, f, E, l) = c.requires.elements in record { skips = c.requires.tables.skips; deep_bound = element-child_asks E }

pub check_element-check_scoped-requires : goal.check_element-check_scoped-requires
check_element-check_scoped-requires t c =
    let (u, e, f, E, l) = c.requires.elements in
    let S = element_step E c.child-x.ensures in (
      omega
          (arith, c.decreases, S.falls),
      (c.requires.tables, (e, _, S.checking, one-element u l)),
    )

pub check_element-list_fit-requires : goal.check_element-list_fit-requires
check_element-list_fit-requires t c =
    let (u, e, f, E, l) = c.requires.elements in let d = one-element u l in record { tables = c.requires.tables; typed_at = ((element-answer E c.child-x.ensures d c.check_scoped.ensures).known, _, element-typed E c.child-x.ensures d c.check_scoped.ensures c.in-Passed.is, (element-passed E c.child-x.ensures d c.check_scoped.ensures c.in-Passed.is).sized); head_bound = element-small E }

pub check_element-returns-in-Passed : goal.check_element-returns-in-Passed
check_element-returns-in-Passed t c =
    λ u e f name E l. element-given E c.child-x.ensures (one-element u l)
    c.check_scoped.ensures c.in-Passed.is c.list_fit.ensures
    c.fitting.ensures name

pub check_element-returns-in-Refused : goal.check_element-returns-in-Refused
check_element-returns-in-Refused t c =
    λ u e f name E l. element-refused E c.child-x.ensures (one-element u l)
    c.check_scoped.ensures name c.in-Refused.is

pub check_fields-first_child-c-requires : goal.check_fields-first_child-c-requires
check_fields-first_child-c-requires t c =
    let (i, ss, fs, M, e, d) = c.requires.mapping_at in record { skips = c.requires.tables.skips; at_bound = (mapping_asks M).0 }

pub check_fields-loop-k-init : goal.check_fields-loop-k-init
check_fields-loop-k-init t c =
    let (i, ss, fs, M, e, d) = c.requires.mapping_at in passing_start M e d c.first_child-c.ensures

pub check_fields-child_at-x-requires : goal.check_fields-child_at-x-requires
check_fields-child_at-x-requires t c =
    mapping_asks c.loop-k.invariant.start

pub check_fields-check_scoped-requires : goal.check_fields-check_scoped-requires
check_fields-check_scoped-requires t c = (
  omega (
    arith,
    c.decreases,
    passing-falls c.loop-k.invariant c.loop-k-test.true
        c.child_at-x.ensures,
  ),
  (
    c.requires.tables,
    passing-asks c.loop-k.invariant c.loop-k-test.true
        c.child_at-x.ensures,
  ),
)

pub check_fields-add_field-fields-requires : goal.check_fields-add_field-fields-requires
check_fields-add_field-fields-requires t c =
    record {
      tables = c.requires.tables;
      named_at = passing-named c.loop-k.invariant c.loop-k-test.true
          c.child_at-x.ensures c.check_scoped.ensures
          c.in-Passed.is;
      bounded = c.loop-k.invariant.small;
    }

pub check_fields-skip_by-c-requires : goal.check_fields-skip_by-c-requires
check_fields-skip_by-c-requires t c =
    c.requires.tables.skips

pub check_fields-overflow_add-k : goal.check_fields-overflow_add-k
check_fields-overflow_add-k t c =
    omega (
      arith,
      c.ranges.count,
      c.loop-k-test.true,
    )

pub check_fields-loop-k-smaller : goal.check_fields-loop-k-smaller
check_fields-loop-k-smaller t c =
    omega (arith, c.loop-k-test.true)

pub check_fields-loop-k-preserved : goal.check_fields-loop-k-preserved
check_fields-loop-k-preserved t c =
    passing-more c.loop-k.invariant
    c.loop-k-test.true c.child_at-x.ensures
    c.check_scoped.ensures c.in-Passed.is c.add_field-fields.ensures
    c.skip_by-c.ensures

pub check_fields-returns-in-Refused : goal.check_fields-returns-in-Refused
check_fields-returns-in-Refused t c =
    passing-refused c.loop-k.invariant
    c.loop-k-test.true c.child_at-x.ensures
    c.check_scoped.ensures c.in-Refused.is

pub check_fields-around-requires : goal.check_fields-around-requires
check_fields-around-requires t c =
    λ s d q. let (m, k) = c.loop-k.invariant.small s d q in (omega (arith, k), omega (arith, m))

pub check_fields-returns : goal.check_fields-returns
check_fields-returns t c =
    passing_end c.loop-k.invariant c.loop-k-test.false c.around.ensures
    c.fitting.ensures

pub check_scoped-check_transform-requires : goal.check_scoped-check_transform-requires
check_scoped-check_transform-requires t c =
    let (s, Δ, C, d) = c.requires.checking_at in (
      omega (arith, c.decreases),
      (c.requires.tables, (s, Δ, C, d, transform_is C (c.is_transform.ensures C.standing.here) c.if-is_transform.true)),
    )

pub check_scoped-returns-then-is_transform : goal.check_scoped-returns-then-is_transform
check_scoped-returns-then-is_transform t c =
    λ s Δ C d. let h = transform_is C (c.is_transform.ensures C.standing.here) c.if-is_transform.true in
    c.check_transform.ensures s Δ C d h

pub check_scoped-returns : goal.check_scoped-returns
check_scoped-returns t c =
    λ s Δ C d. let h = transform_is C (c.is_transform.ensures C.standing.here) c.if-is_transform.false in
    record { known = false; is = c.check_source.ensures _ _ _ s Δ C d.count h }

pub check_transform-to_input-x-requires : goal.check_transform-to_input-x-requires
check_transform-to_input-x-requires t c =
    let (s, Δ, C, d, h) = c.requires.checking_at in checking-before C

pub check_transform-check_scoped-requires : goal.check_transform-check_scoped-requires
check_transform-check_scoped-requires t c =
    let (s, Δ, C, d, h) = c.requires.checking_at in
    let T = (a_transform C h).transforms in (
      omega (
        arith,
        c.decreases,
        input-falls C T
            c.to_input-x.ensures,
      ),
      (c.requires.tables, input_asks C T c.to_input-x.ensures d),
    )

pub check_transform-input_within-within-requires : goal.check_transform-input_within-within-requires
check_transform-input_within-within-requires t c =
    let (s, Δ, C, d, h) = c.requires.checking_at in
    input-stands C (a_transform C h).transforms c.to_input-x.ensures

pub check_transform-check_input-requires : goal.check_transform-check_input-requires
check_transform-check_input-requires t c =
    let (s, Δ, C, d, h) = c.requires.checking_at in record {
      tables = c.requires.tables;
      passed_input = (
        s,
        Δ,
        input-passed C (a_transform C h).transforms c.to_input-x.ensures d
            c.check_scoped.ensures c.in-Passed.is c.input_within-within.ensures,
      );
    }

pub check_transform-check_fields-requires : goal.check_transform-check_fields-requires
check_transform-check_fields-requires t c =
    let (s, Δ, C, d, h) =
    c.requires.checking_at in
    let F = rest_of (c.check_input.ensures s Δ
    (input-passed C (a_transform C h).transforms c.to_input-x.ensures d
    c.check_scoped.ensures
    c.in-Passed.is c.input_within-within.ensures))
    c.in-Fields.is in (
      omega (arith, c.decreases),
      (
        c.requires.tables,
        (
          F.input,
          F.parts,
          F.scope,
          F.mapping,
          F.counted,
          F.columns,
        ),
      ),
    )

pub check_transform-check_element-requires : goal.check_transform-check_element-requires
check_transform-check_element-requires t c =
    let (s, Δ, C, d, h) =
    c.requires.checking_at in
    let E = rest_of (c.check_input.ensures s Δ
    (input-passed C (a_transform C h).transforms c.to_input-x.ensures d
    c.check_scoped.ensures
    c.in-Passed.is c.input_within-within.ensures)) c.in-Element.is
    in (
      omega (arith, c.decreases),
      (
        c.requires.tables,
        (
          E.element,
          E.selector,
          E.makes,
          E.elements,
          E.limited,
        ),
      ),
    )

pub check_transform-returns-in-Passed-check_input : goal.check_transform-returns-in-Passed-check_input
check_transform-returns-in-Passed-check_input t c =
    λ s Δ C d h. rest_of (c.check_input.ensures s Δ
    (input-passed C (a_transform C h).transforms c.to_input-x.ensures d
    c.check_scoped.ensures
    c.in-Passed.is c.input_within-within.ensures)) c.in-Passed-check_input.is

pub check_transform-returns-in-Refused-check_input : goal.check_transform-returns-in-Refused-check_input
check_transform-returns-in-Refused-check_input t c =
    λ s Δ C d h. rest_of (c.check_input.ensures s Δ
    (input-passed C (a_transform C h).transforms c.to_input-x.ensures d
    c.check_scoped.ensures
    c.in-Passed.is c.input_within-within.ensures)) c.in-Refused-check_input.is

pub check_transform-returns-in-Fields : goal.check_transform-returns-in-Fields
check_transform-returns-in-Fields t c =
    λ s Δ C d h. let F = rest_of (c.check_input.ensures s Δ
    (input-passed C (a_transform C h).transforms c.to_input-x.ensures d
    c.check_scoped.ensures
    c.in-Passed.is c.input_within-within.ensures))
    c.in-Fields.is in
    record { known = true; is = c.check_fields.ensures F.input F.parts F.scope F.name F.mapping F.counted F.columns ∙ sym F.left }

pub check_transform-returns-in-Element : goal.check_transform-returns-in-Element
check_transform-returns-in-Element t c =
    λ s Δ C d h. let E = rest_of (c.check_input.ensures s Δ
    (input-passed C (a_transform C h).transforms c.to_input-x.ensures d
    c.check_scoped.ensures
    c.in-Passed.is c.input_within-within.ensures))
    c.in-Element.is in
    record { known = true; is = c.check_element.ensures E.element E.selector E.makes E.name E.elements E.limited ∙ sym E.left }

pub check_transform-returns-in-Refused : goal.check_transform-returns-in-Refused
check_transform-returns-in-Refused t c =
    λ s Δ C d h. input-refused C (a_transform C h).transforms c.to_input-x.ensures d
    c.check_scoped.ensures c.in-Refused.is
