-- `column_fit`, `element_fit`, `fields_fit`, `mapped_fit`, `sized_fit` and `type_fit` of `checker::limits` meet their
-- contracts, by the falling measures below. Assumes nothing.
use native.Mathlib.Omega.{arith}
use mathlib.Core.Path.{refl, ap, ◌∙◌}
use mathlib.Core.Bool.{false}
use Rattle.checker.specs.code.Limits.{around_of}
use Rattle.checker.proofs.Resolving.{named-typed}
use Rattle.checker.proofs.Children.{made_asks}
use Rattle.checker.proofs.Headed.{from_incoming, from-plan}
use Rattle.checker.proofs.Fitting.{fit_long, fit_bounded, fit_around, fit_none, struct-short, struct_asks, struct_bounded, struct-fits, list_asks}
use Rattle.checker.proofs.Fitting.{array_asks, list-fits, array-fits, made_no_leaf, sized-is, column-over, column_fits, fitting-start}
use Rattle.checker.proofs.Fitting.{fitting-end, fitting-asks, fitting-over, fitting-small, fitting-more}
use Rattle.checker.proofs.limits.+column_fit_element_fit_fields_fit_mapped_fit_sized_fit_type_fit.Goals as goal

pub column_fit-name_at-name-requires : goal.column_fit-name_at-name-requires
column_fit-name_at-name-requires t c =
    let (b, a, N, e) = c.requires.named_at in record { tables = c.requires.tables; named_at = (a, N) }

pub column_fit-returns-then-room-len : goal.column_fit-returns-then-room-len
column_fit-returns-then-room-len t c =
    λ b a N e. column-over a (c.name_at-name.ensures a N) _ _ c.if-room-len.true

pub column_fit-overflow_sub-room : goal.column_fit-overflow_sub-room
column_fit-overflow_sub-room t c =
    omega (arith, c.if-room-len.false)

pub column_fit-overflow_sub-room-2 : goal.column_fit-overflow_sub-room-2
column_fit-overflow_sub-room-2 t c =
    omega (arith, c.if-room-len.false)

pub column_fit-sized_fit-f-requires : goal.column_fit-sized_fit-f-requires
column_fit-sized_fit-f-requires t c =
    let (b, a, N, e) = c.requires.named_at in (
      omega
          (arith, c.decreases),
      (c.requires.tables, (b, a.type, named-typed N, e)),
    )

pub column_fit-overflow_add-len : goal.column_fit-overflow_add-len
column_fit-overflow_add-len t c =
    omega (arith, c.if-room-len.false, c.ranges.room)

pub column_fit-joined-requires : goal.column_fit-joined-requires
column_fit-joined-requires t c =
    let (b, a, N, e) = c.requires.named_at in λ s d q. omega (
      arith,
      (fit_bounded _ _ _ _
          (c.sized_fit-f.ensures b a.type (named-typed N) e) s d q).1,
      c.if-room-len.false,
      c.ranges.room,
    )

pub column_fit-returns : goal.column_fit-returns
column_fit-returns t c =
    λ b a N e. column_fits a (c.name_at-name.ensures a N) _ _ c.if-room-len.false
    (c.sized_fit-f.ensures b a.type (named-typed N) e) c.joined.ensures

pub element_fit-returns-then-room-head : goal.element_fit-returns-then-room-head
element_fit-returns-then-room-head t c =
    λ u a R P. fit_long _ _ _ _ (omega (arith, c.if-room-head.true))

pub element_fit-part-p-requires : goal.element_fit-part-p-requires
element_fit-part-p-requires t c =
    record { tables = c.requires.tables; resolved_at = c.requires.resolved_at }

pub element_fit-overflow_sub-levels : goal.element_fit-overflow_sub-levels
element_fit-overflow_sub-levels t c =
    omega (arith, c.requires.levels_nonzero)

pub element_fit-type_fit-f-requires : goal.element_fit-type_fit-f-requires
element_fit-type_fit-f-requires t c =
    let (u, a, R, P) = c.requires.resolved_at in (
      omega
          (arith, c.decreases, c.requires.levels_nonzero),
      (c.requires.tables, (_, c.part-p.ensures u a R P)),
    )

pub element_fit-around-requires : goal.element_fit-around-requires
element_fit-around-requires t c =
    let (u, a, R, P) = c.requires.resolved_at in λ s d q. let B = fit_bounded _ _ _ _
    (c.type_fit-f.ensures a.type (c.part-p.ensures u a R P)) s d q in (
      omega
          (arith, B.1, c.if-room-head.false, c.ranges.room),
      omega
          (arith, B.0, c.requires.levels_nonzero, c.ranges.levels),
    )

pub element_fit-returns : goal.element_fit-returns
element_fit-returns t c =
    λ u a R P. c.around.ensures ∙ ap (around_of c.args.head)
    (c.type_fit-f.ensures a.type (c.part-p.ensures u a R P)) ∙ fit_around
    c.args.head _ _ c.args.levels
    c.args.room c.requires.levels_nonzero
    c.if-room-head.false

pub fields_fit-first_child-c-requires : goal.fields_fit-first_child-c-requires
fields_fit-first_child-c-requires t c =
    let (fs, M, e) = c.requires.mapped_at in record { skips = c.requires.tables.skips; at_bound = (made_asks M).0 }

pub fields_fit-loop-k-init : goal.fields_fit-loop-k-init
fields_fit-loop-k-init t c =
    let (fs, M, e) = c.requires.mapped_at in fitting-start M e c.first_child-c.ensures

pub fields_fit-child_at-x-requires : goal.fields_fit-child_at-x-requires
fields_fit-child_at-x-requires t c =
    made_asks c.loop-k.invariant.start

pub fields_fit-overflow_sub-room : goal.fields_fit-overflow_sub-room
fields_fit-overflow_sub-room t c =
    omega (arith, c.loop-k.invariant.small)

pub fields_fit-column_fit-requires : goal.fields_fit-column_fit-requires
fields_fit-column_fit-requires t c = (
  omega (arith, c.decreases),
  let (a, N) = fitting-asks
      c.loop-k.invariant c.loop-k-test.true c.child_at-x.ensures in
      (c.requires.tables, (false, a, N, refl)),
)

pub fields_fit-overflow_add-size : goal.fields_fit-overflow_add-size
fields_fit-overflow_add-size t c =
    omega (
      arith,
      fitting-small c.loop-k.invariant
          c.loop-k-test.true c.child_at-x.ensures
          c.column_fit.ensures
          c.in-Within.is,
      c.ranges.room,
    )

pub fields_fit-returns-in-Over : goal.fields_fit-returns-in-Over
fields_fit-returns-in-Over t c =
    fitting-over c.loop-k.invariant c.loop-k-test.true
    c.child_at-x.ensures c.column_fit.ensures c.in-Over.is

pub fields_fit-skip_by-c-requires : goal.fields_fit-skip_by-c-requires
fields_fit-skip_by-c-requires t c =
    c.requires.tables.skips

pub fields_fit-overflow_add-k : goal.fields_fit-overflow_add-k
fields_fit-overflow_add-k t c =
    omega (
      arith,
      c.ranges.count,
      c.loop-k-test.true,
    )

pub fields_fit-loop-k-smaller : goal.fields_fit-loop-k-smaller
fields_fit-loop-k-smaller t c =
    omega (arith, c.loop-k-test.true)

pub fields_fit-loop-k-preserved : goal.fields_fit-loop-k-preserved
fields_fit-loop-k-preserved t c =
    fitting-more c.loop-k.invariant
    c.loop-k-test.true c.child_at-x.ensures
    c.column_fit.ensures c.in-Within.is refl c.larger-deep.ensures
    c.skip_by-c.ensures

pub fields_fit-returns : goal.fields_fit-returns
fields_fit-returns t c =
    fitting-end c.loop-k.invariant c.loop-k-test.false

pub mapped_fit-returns-then-levels-eq0 : goal.mapped_fit-returns-then-levels-eq0
mapped_fit-returns-then-levels-eq0 t c =
    λ u R. fit_none u _ _ c.if-levels-eq0.true

pub mapped_fit-type_head-requires : goal.mapped_fit-type_head-requires
mapped_fit-type_head-requires t c =
    record { tables = c.requires.tables; resolved_at = c.requires.resolved_at }

pub mapped_fit-returns-then-room-lt3 : goal.mapped_fit-returns-then-room-lt3
mapped_fit-returns-then-room-lt3 t c =
    λ u R. struct-short (c.type_head.ensures u R) _ _ c.in-Struct.is
    c.if-room-lt3.true

pub mapped_fit-overflow_sub-levels : goal.mapped_fit-overflow_sub-levels
mapped_fit-overflow_sub-levels t c =
    omega (arith, c.if-levels-eq0.false)

pub mapped_fit-fields_fit-f-requires : goal.mapped_fit-fields_fit-f-requires
mapped_fit-fields_fit-f-requires t c =
    let (u, R) = c.requires.resolved_at in (
      omega (
        arith,
        c.decreases,
        c.if-levels-eq0.false,
      ),
      (
        c.requires.tables,
        struct_asks (c.type_head.ensures u R) R
            c.requires.source_value c.in-Struct.is,
      ),
    )

pub mapped_fit-around-requires : goal.mapped_fit-around-requires
mapped_fit-around-requires t c =
    let (u, R) = c.requires.resolved_at in
    λ s d q.
    let (m, k) = struct_bounded (c.type_head.ensures u R)
    c.args.levels
    c.args.room R
    c.requires.source_value
    c.in-Struct.is
    c.fields_fit-f.ensures s d q in (
      omega
          (arith, k, c.if-room-lt3.false, c.ranges.room),
      omega (
        arith,
        m,
        c.if-levels-eq0.false,
        c.ranges.levels,
      ),
    )

pub mapped_fit-element_fit-requires : goal.mapped_fit-element_fit-requires
mapped_fit-element_fit-requires t c =
    let (u, R) = c.requires.resolved_at in (
      omega
          (arith, c.decreases),
      (
        c.requires.tables,
        (
          list_asks (c.type_head.ensures u R) R
              c.in-List.is,
          omega (arith, c.if-levels-eq0.false),
        ),
      ),
    )

pub mapped_fit-element_fit-requires-in-Array : goal.mapped_fit-element_fit-requires-in-Array
mapped_fit-element_fit-requires-in-Array t c =
    let (u, R) = c.requires.resolved_at in (
      omega
          (arith, c.decreases),
      (
        c.requires.tables,
        (
          array_asks (c.type_head.ensures u R) R
              c.in-Array.is,
          omega (arith, c.if-levels-eq0.false),
        ),
      ),
    )

pub mapped_fit-returns-in-Leaf : goal.mapped_fit-returns-in-Leaf
mapped_fit-returns-in-Leaf t c =
    λ u R. made_no_leaf R c.requires.source_value
    (c.type_head.ensures u R)
    c.in-Leaf.is

pub mapped_fit-returns-else-room-lt3 : goal.mapped_fit-returns-else-room-lt3
mapped_fit-returns-else-room-lt3 t c =
    λ u R. struct-fits (c.type_head.ensures u R)
    c.args.levels
    c.args.room R
    c.requires.source_value
    c.in-Struct.is c.fields_fit-f.ensures c.around.ensures (omega
    (arith, c.if-levels-eq0.false)) c.if-room-lt3.false

pub mapped_fit-returns-in-List : goal.mapped_fit-returns-in-List
mapped_fit-returns-in-List t c =
    λ u R. list-fits (c.type_head.ensures u R) R _ _ c.in-List.is
    c.element_fit.ensures

pub mapped_fit-returns-in-Array : goal.mapped_fit-returns-in-Array
mapped_fit-returns-in-Array t c =
    λ u R. array-fits (c.type_head.ensures u R) R _ _ c.in-Array.is
    c.element_fit-in-Array.ensures

pub sized_fit-resolve-r-requires : goal.sized_fit-resolve-r-requires
sized_fit-resolve-r-requires t c =
    let (b, u, X, e) = c.requires.typed_at in record { tables = c.requires.tables; typed_at = (u, X) }

pub sized_fit-type_fit-requires : goal.sized_fit-type_fit-requires
sized_fit-type_fit-requires t c =
    let (b, u, X, e) = c.requires.typed_at in (
      omega
          (arith, c.decreases),
      (c.requires.tables, (u, (c.resolve-r.ensures u X).resolved)),
    )

pub sized_fit-returns-in-Is : goal.sized_fit-returns-in-Is
sized_fit-returns-in-Is t c =
    λ b u X e. sized-is b u _ _ e c.in-Is.is c.size_fit.ensures

pub sized_fit-returns-in-Unknown : goal.sized_fit-returns-in-Unknown
sized_fit-returns-in-Unknown t c =
    λ b u X e. c.type_fit.ensures u (c.resolve-r.ensures u X).resolved

pub type_fit-raw_fit-requires : goal.type_fit-raw_fit-requires
type_fit-raw_fit-requires t c =
    let (u, R) = c.requires.resolved_at in (u, from_incoming R c.in-Incoming.is)

pub type_fit-raw_fit-requires-in-Plan : goal.type_fit-raw_fit-requires-in-Plan
type_fit-raw_fit-requires-in-Plan t c =
    let (u, R) = c.requires.resolved_at in (u, from-plan R c.in-Plan.is)

pub type_fit-mapped_fit-requires : goal.type_fit-mapped_fit-requires
type_fit-mapped_fit-requires t c = (
  omega (arith, c.decreases),
  (c.requires.tables, (c.requires.resolved_at, c.in-Mapped.is)),
)

pub type_fit-returns-in-Incoming : goal.type_fit-returns-in-Incoming
type_fit-returns-in-Incoming t c =
    λ u R. c.raw_fit.ensures u (from_incoming R c.in-Incoming.is)

pub type_fit-returns-in-Plan : goal.type_fit-returns-in-Plan
type_fit-returns-in-Plan t c =
    λ u R. c.raw_fit-in-Plan.ensures u (from-plan R c.in-Plan.is)

pub type_fit-returns-in-Mapped : goal.type_fit-returns-in-Mapped
type_fit-returns-in-Mapped t c =
    λ u R. c.mapped_fit.ensures u R
