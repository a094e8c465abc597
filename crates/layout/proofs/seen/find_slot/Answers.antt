-- `layout::seen::find_slot` meets its contract: the loop keeps `Searching`. Assumes nothing.
use mathlib.Core.Path.{refl}
use native.Mathlib.Omega.{arith}
use Rattle.layout.proofs.Noting.{searching_none, searched_none, searching_full, searching-empty, searching-met, searching-more}
use Rattle.layout.proofs.Noting.{searched_first}
use Rattle.layout.proofs.seen.find_slot.Goals as goal

pub returns-then-n-eq0 : goal.returns-then-n-eq0
returns-then-n-eq0 c =
    searched_none _ _ _ _ _ _ c.if-n-eq0.true

pub returns-then-seen-first-eq0 : goal.returns-then-seen-first-eq0
returns-then-seen-first-eq0 c =
    searched_first _ _ _ _ _ _ c.first_slot-first.ensures.value c.first_slot-first.ensures.upper_bound c.if-seen-first-eq0.true

pub loop-i-init : goal.loop-i-init
loop-i-init c =
    searching_none _ _ _ _ _ _

pub slot_after-k-requires : goal.slot_after-k-requires
slot_after-k-requires c =
    record { first_lt_n = c.first_slot-first.ensures.upper_bound; i_lt_n = c.loop-i-test.true }

pub returns-then-x-eq0 : goal.returns-then-x-eq0
returns-then-x-eq0 c =
    searching-empty _ _ _ _ _ _ _ c.loop-i.invariant c.loop-i-test.true c.first_slot-first.ensures.value c.slot_after-k.ensures.value
    refl c.slot_after-k.ensures.upper_bound c.if-x-eq0.true

pub returns-then-may_repeat : goal.returns-then-may_repeat
returns-then-may_repeat c =
    searching-met _ _ _ _ _ _ _ c.loop-i.invariant c.loop-i-test.true c.first_slot-first.ensures.value c.slot_after-k.ensures.value
    refl c.if-x-eq0.false c.may_repeat.ensures c.if-may_repeat.true refl

pub overflow_add-i : goal.overflow_add-i
overflow_add-i c =
    omega arith

pub loop-i-smaller : goal.loop-i-smaller
loop-i-smaller c =
    omega arith

pub loop-i-preserved : goal.loop-i-preserved
loop-i-preserved c =
    searching-more _ _ _ _ _ _ _ c.loop-i.invariant c.loop-i-test.true c.first_slot-first.ensures.value c.slot_after-k.ensures.value
    refl c.if-x-eq0.false c.may_repeat.ensures c.if-may_repeat.false

pub returns : goal.returns
returns c =
    searching_full _ _ _ _ _ _ _ c.loop-i.invariant c.loop-i-test.false refl
