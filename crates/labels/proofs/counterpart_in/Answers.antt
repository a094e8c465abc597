-- `labels::counterpart_in` meets its contract. Assumes nothing.
use Rattle.labels.proofs.Seeking.{behind}
use mathlib.Core.Path.{refl, sym, ◌∙◌}
use native.Mathlib.Omega.{arith}
use Rattle.layout.specs.code.Answers.{label_at}
use Rattle.layout.proofs.Ways.{label_in}
use Rattle.labels.proofs.Seeking.{seeking_start, seeking_none, inside, seeking_unlabelled, seeking-found, seeking-more, seeking-falls}
use Rattle.labels.proofs.counterpart_in.Goals as goal

pub loop-x-init : goal.loop-x-init
loop-x-init c =
    λ at how g T heads e P.
    seeking_start (T.chains P heads e) (label_at c.args.t.now
    c.args.l)
    c.args.columns.matching c.slot.ensures.value
    (sym c.match_rule-rule.ensures ∙ g) c.slot.ensures.upper_bound
    (omega arith) refl (omega arith)

pub bounds-table-k : goal.bounds-table-k
bounds-table-k c =
    let a = inside c.requires.table (behind c.requires.table) c.requires.columns_at
    (c.loop-x.invariant _ _ c.match_rule-rule.ensures c.requires.table _ (behind c.requires.table)
    c.requires.columns_at) c.loop-x-test.true in
    omega (arith, a.0)

pub same_label-requires : goal.same_label-requires
same_label-requires c =
    record { len_in_bounds = label_in _ c.label.ensures.label_in c.in-Is.is; len_in_bounds_2 = c.requires.span_in }

pub returns-then-same_label : goal.returns-then-same_label
returns-then-same_label c =
    λ Q. seeking-found c.requires.table (behind c.requires.table) c.requires.columns_at (c.loop-x.invariant _ _
    c.match_rule-rule.ensures c.requires.table _
    (behind c.requires.table) c.requires.columns_at) c.loop-x-test.true
    c.label.ensures.result_value c.wide-at.ensures
    c.wide-k.ensures c.in-Is.is
    c.label.ensures.label_in
    c.match_rule-rule.ensures
    c.same_label.ensures c.if-same_label.true refl Q

pub returns-in-Refused : goal.returns-in-Refused
returns-in-Refused c =
    seeking_unlabelled c.requires.table (behind c.requires.table) c.requires.columns_at (c.loop-x.invariant _ _
    c.match_rule-rule.ensures c.requires.table _ (behind c.requires.table)
    c.requires.columns_at)
    c.loop-x-test.true c.label.ensures.result_value
    c.wide-at.ensures c.wide-k.ensures c.in-Refused.is

pub bounds-table-k-in-loop-x : goal.bounds-table-k-in-loop-x
bounds-table-k-in-loop-x c =
    let a = inside c.requires.table (behind c.requires.table) c.requires.columns_at
    (c.loop-x.invariant _ _
    c.match_rule-rule.ensures
    c.requires.table _ (behind c.requires.table) c.requires.columns_at) c.loop-x-test.true
    in
    omega (arith, a.0)

pub loop-x-smaller : goal.loop-x-smaller
loop-x-smaller c =
    let b = seeking-falls c.requires.table (behind c.requires.table) c.requires.columns_at
    (c.loop-x.invariant _ _
    c.match_rule-rule.ensures
    c.requires.table _ (behind c.requires.table) c.requires.columns_at) c.loop-x-test.true
    c.label.ensures.result_value
    c.wide-at.ensures
    c.wide-k.ensures c.in-Is.is
    c.match_rule-rule.ensures
    c.same_label.ensures c.if-same_label.false in
    omega arith

pub loop-x-preserved : goal.loop-x-preserved
loop-x-preserved c =
    λ at how g T heads e P. seeking-more T e P (c.loop-x.invariant _
    how g T _ e P) c.loop-x-test.true
    c.label.ensures.result_value
    c.wide-at.ensures
    c.wide-k.ensures c.in-Is.is g
    c.same_label.ensures c.if-same_label.false

pub returns : goal.returns
returns c =
    λ Q. seeking_none c.requires.table (behind c.requires.table) c.requires.columns_at
    (c.loop-x.invariant _ _ c.match_rule-rule.ensures c.requires.table _ (behind c.requires.table)
    c.requires.columns_at) c.loop-x-test.false Q
