use Rattle.transfer.proofs.Rows.{running_none, running-ends, running-all, running-head, running_more}
use Rattle.transfer.proofs.Reaching.{unknown, reached_end, reached_to}
use native.Mathlib.Omega.{arith}
use mathlib.Core.Path.{refl, ◌∙◌}
use Rattle.composed.proofs.top.transfer_tops.Goals as goal

pub loop-i-init : goal.loop-i-init
loop-i-init c =
    (refl, c.requires.rec_len_bound.2, λ X S. running_none X.values.values S _ _)

pub transfer_top-requires : goal.transfer_top-requires
transfer_top-requires c =
    let (l, b, f) = c.loop-i.invariant in record { ends = c.requires.ends; row_in = c.requires.row_in; indexed_in = c.requires.indexed_in; selector_at = running-head c.requires.row_in.values.values c.requires.selectors_in (f c.requires.row_in c.requires.selectors_in) c.loop-i-test.true; rec_len_bound = (c.requires.rec_len_bound.0, c.requires.rec_len_bound.1, b) }

pub shape_of-out-in-Unknown : goal.shape_of-out-in-Unknown
shape_of-out-in-Unknown c =
    c.transfer_top.auto.out ∙ c.loop-i.invariant.0

pub returns-in-Unknown : goal.returns-in-Unknown
returns-in-Unknown c =
    λ X S. unknown

pub overflow_add-i : goal.overflow_add-i
overflow_add-i c =
    omega (arith, c.loop-i-test.true, c.well_formed.1.1.1.1.1.1.0)

pub loop-i-smaller : goal.loop-i-smaller
loop-i-smaller c =
    omega (arith, c.loop-i-test.true)

pub loop-i-preserved : goal.loop-i-preserved
loop-i-preserved c =
    let (l, b, f) = c.loop-i.invariant in
    let P = running-head c.requires.row_in.values.values c.requires.selectors_in (f c.requires.row_in c.requires.selectors_in) c.loop-i-test.true in
    let K = reached_to (c.transfer_top.ensures c.requires.row_in P) c.in-To.is in (
      c.transfer_top.auto.out ∙ l,
      omega (arith, K.1.within),
      λ X' S'.
          let P = running-head X'.values.values S' (f X' S') c.loop-i-test.true in
          running_more X'.values.values S' (f X' S') c.loop-i-test.true (c.transfer_top.ensures X' P) c.in-To.is,
    )

pub shape_of-out : goal.shape_of-out
shape_of-out c =
    c.loop-i.invariant.0

pub returns : goal.returns
returns c =
    λ X S.
    let R = c.loop-i.invariant.2 X S in
    let (a, b) = running-all X.values.values S R c.loop-i-test.false in
    reached_end (running-ends X.values.values S R c.loop-i-test.false) (c.limited.ensures _ _ _ _ _ a b)
