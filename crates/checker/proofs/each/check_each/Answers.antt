-- `checker::each::check_each` meets its contract. Assumes nothing.
use Rattle.checker.proofs.Topping.{going_start, going-asks, going-columns, going_at, going-fits, going_more, going-refused}
use Rattle.checker.proofs.Topping.{going-differs, going-short, going-passed}
use Rattle.checker.proofs.Tabled.{table-columns}
use mathlib.Core.Path.{ap}
use borrow.Author.Tests.{not-true, not-false}
use native.Mathlib.Omega.{arith}
use Rattle.layout.specs.declared.cursor.Cursor.{Cursor}
use mathlib.Core.Bool.{not}
use Rattle.checker.proofs.each.check_each.Goals as goal
use Rattle.checker.proofs.each.check_each.Goals.{in-At, in-Unknown+in-Passed}

pub loop-k-init : goal.loop-k-init
loop-k-init c =
    let (Γ, ss, T) = c.requires.tops_at in going_start T c.requires.columns_at

pub slice_bounds-fit_first-count : goal.slice_bounds-fit_first-count
slice_bounds-fit_first-count c =
    c.requires.tables.room

pub slice_bounds-fit_first-start : goal.slice_bounds-fit_first-start
slice_bounds-fit_first-start c =
    c.requires.tables.room

pub fit_first-requires : goal.fit_first-requires
fit_first-requires c =
    record {
      top_at = going-asks c.loop-k.invariant c.loop-k-test.true;
      columns_at = going-columns c.loop-k.invariant c.loop-k-test.true
          c.left_of-left.ensures;
      indexed = table-columns c.requires.tables;
    }

pub check_top-requires : goal.check_top-requires
check_top-requires c =
    record {
      tables = c.requires.tables;
      top_at = going-asks c.loop-k.invariant c.loop-k-test.true;
      columns_at = going-columns c.loop-k.invariant c.loop-k-test.true
          c.left_of-left.ensures;
    }

pub returns-in-Refused : goal.returns-in-Refused
returns-in-Refused c =
    going-refused c.loop-k.invariant
    c.loop-k-test.true
    c.left_of-left.ensures c.check_top.ensures
    c.in-Refused.is

pub overflow_add-k : goal.overflow_add-k
overflow_add-k c =
    omega (
      arith,
      c.ranges.count,
      c.loop-k-test.true,
    )

pub loop-k-smaller : goal.loop-k-smaller
loop-k-smaller c =
    omega (arith, c.loop-k-test.true)

pub loop-k-preserved : goal.loop-k-preserved
loop-k-preserved c =
    elim c.match-fit_first.branch [
      | in-At w ↦
          going_at (going-fits c.loop-k.invariant c.loop-k-test.true c.left_of-left.ensures c.fit_first.ensures w.in-At.is)
          {d = c.match-fit_first.d} {b = c.match-fit_first.b} {s = c.match-fit_first.same}
          (ap (λ (i : Cursor). i.at) w.d-is) (ap (λ (i : Cursor). i.at) w.b-is) w.same-is
      | in-Unknown+in-Passed w ↦
          going_at (going_more c.loop-k.invariant c.loop-k-test.true c.left_of-left.ensures w.check_top.ensures w.in-Passed.is)
          {d = c.match-fit_first.d} {b = c.match-fit_first.b} {s = c.match-fit_first.same}
          (ap (λ (i : Cursor). i.at) w.d-is) (ap (λ (i : Cursor). i.at) w.b-is) w.same-is
    ]

pub returns-then-not-same : goal.returns-then-not-same
returns-then-not-same c =
    λ Γ ss Q T. going-differs c.loop-k.invariant c.loop-k-test.false Γ ss Q T
    (not-true c.loop-k.same (ap not c.if-not-same.true))

pub returns-then-count-m : goal.returns-then-count-m
returns-then-count-m c =
    λ Γ ss Q T. going-short c.loop-k.invariant c.loop-k-test.false Γ ss Q T c.if-count-m.true

pub returns : goal.returns
returns c =
    λ Γ ss Q T. going-passed c.loop-k.invariant c.loop-k-test.false Γ ss Q T
    (not-false c.loop-k.same (ap not c.if-not-same.false)) c.if-count-m.false
