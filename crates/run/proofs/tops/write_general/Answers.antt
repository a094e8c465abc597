use Rattle.run.proofs.Following.{follows_past, follows_emits, clean_of, top_asks, top-overflowing, top-given}
use native.Mathlib.Omega.{arith}
use borrow.Author.Rules.{rules}
use Rattle.run.proofs.tops.write_general.Goals as goal

pub returns-then-top_overflows : goal.returns-then-top_overflows
returns-then-top_overflows c =
    λ A. top-overflowing (c.top_overflows.ensures A.row A.selector A.type A.is) c.if-top_overflows.true

pub returns-then-len-gt-LONGEST : goal.returns-then-len-gt-LONGEST
returns-then-len-gt-LONGEST c =
    λ A.
    top-given (c.skip_selector-end.ensures A.selector.here)
    (clean_of _ (c.top_overflows.ensures A.row A.selector A.type A.is) c.if-top_overflows.false)
    (follows_past _ c.if-len-gt-LONGEST.true c.if-len-gt-LONGEST.true)

pub emit_top-to-requires : goal.emit_top-to-requires
emit_top-to-requires c =
    record {
      ends = c.requires.ends;
      emit_top_at = top_asks c.requires.top_in (λ i. omega (arith, c.type_inv.rec i)) (λ i. omega (arith, c.type_inv.plan i))
          (clean_of _ (c.top_overflows.ensures c.requires.top_in.row c.requires.top_in.selector c.requires.top_in.type c.requires.top_in.is) c.if-top_overflows.false);
      k_le_longest = c.if-len-gt-LONGEST.false;
    }

pub returns : goal.returns
returns c =
    λ A.
    let d = clean_of _ (c.top_overflows.ensures A.row A.selector A.type A.is) c.if-top_overflows.false in
    top-given (c.skip_selector-end.ensures A.selector.here) d (follows_emits c.if-len-gt-LONGEST.false
    (c.emit_top-to.ensures (top_asks A (λ i. omega (arith, c.type_inv.rec i))
    (λ i. omega (arith, c.type_inv.plan i)) d)))
