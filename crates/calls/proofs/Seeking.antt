-- The loop that looks for an extra column: what is answered of the columns that are left is answered of all. Assumes
-- nothing.
use Prim.Native.Nat.{ℕ, ◌+◌, ◌-◌, ◌≤◌, ◌<◌}
use mathlib.Core.Path.{◌≡◌, sym, ap, ◌∙◌}
use mathlib.Core.Bool.{Bool, true, false, not}
use mathlib.Core.List.{[]}
use native.Mathlib.Omega.{arith}
use Rattle.layout.specs.Bytes.{Bytes}
use Rattle.layout.specs.Parser.{ok, choose}
use Rattle.layout.specs.Tree.{Columns}
use Rattle.layout.specs.Layout.{label, columns, type, deepest}
use Rattle.layout.specs.Find.{counterpart}
use Rattle.layout.specs.code.Answers.{label_res, label_at}
use Rattle.layout.specs.code.Stands.{TypeAt, ColumnsAt}
use Rattle.layout.specs.declared.columns.Label.{Label as LabelSpan}
use Rattle.layout.specs.declared.columns.Labelled.{Labelled}
use Rattle.layout.specs.declared.columns.Siblings.TheVariants.{Free}
use Rattle.layout.specs.declared.cursor.Cursor.{Cursor}
use Rattle.layout.specs.declared.edition.Edition.{Edition}
use Rattle.layout.specs.declared.matching.Matching.{Matching}
use Rattle.layout.proofs.View.{same-columns, no_column, FirstAt, first-at, first-labelled}
use Rattle.rules.specs.declared.policy.ExtraColumnsPolicy.{ExtraColumnsPolicy}
use Rattle.rules.specs.declared.policy.ExtraColumnsPolicy.TheVariants.{Ignore, Raise}
use Rattle.plan.specs.Result.{Answer, accepted, refused_at}
use Rattle.matching.specs.Build.{is_absent, extra_column_err, extra_columns}
use Rattle.calls.specs.code.Answers.{extra_answer}
use Rattle.calls.specs.declared.extra.ExtraColumn.{ExtraColumn}

-- ---- a look-up

-- a column that has no counterpart is extra
pub absent-is : {r b : Bool} → r ≡ not b → not r ≡ b
absent-is {b = true} e = ap not e
absent-is {b = false} e = ap not e

-- ---- the loop: after i of n columns

pub record Seeking (how : Matching) (v : Edition) (gs : Columns) (s : Bytes) (n from at i : ℕ) : Type 0 where
  pub within : i ≤ n
  pub rest : ColumnsAt v deepest s (n - i) at
  pub answer : (P : ColumnsAt v deepest s n from) → extra_column_err how P.columns gs 0 ≡ extra_column_err how rest.columns gs i

pub seeking_none : (how : Matching) {v : Edition} (gs : Columns) {s : Bytes} {n from : ℕ} → ColumnsAt v deepest s n from → Seeking how v gs s n from from 0
seeking_none how {v} gs {s} {n} {from} P =
    let e : n ≡ n - 0 = omega arith in
    record {
      within = omega arith;
      rest = record { columns = P.columns; end = P.end; reads = ap (λ (j : ℕ). columns v Free (type v Free deepest) j [] s from) (sym e) ∙ P.reads };
      answer = λ Q. ap (λ (cs : Columns). extra_column_err how cs gs 0) (same-columns Q P).0;
    }

module _ {how : Matching} {v : Edition} {gs : Columns} {s : Bytes} {n from here i : ℕ} (W : Seeking how v gs s n from here i) where
  -- no column is left
  pub seeking_all : n ≤ i → (P : ColumnsAt v deepest s n from) → accepted tt ≡ extra_column_err how P.columns gs 0
  unfolding extra_column_err
  seeking_all h P =
      let (z, q) = no_column W.rest (let y : n - i ≡ 0 = omega arith in y) in
      sym (W.answer P ∙ ap (λ (cs : Columns). extra_column_err how cs gs i) z)

  -- a column that stands there has a label
  pub seeking_unlabelled : {B : Type 0} → i < n → {q : Labelled} {x : ℕ} → label_res s q ≡ label v s here → q ≡ Labelled.Refused x → B
  seeking_unlabelled lt e f = first-labelled W.rest (λ z. omega arith) e f

  module _ (lt : i < n) {q : Labelled} {l : LabelSpan} {c : Cursor} (e : label_res s q ≡ label v s here) (f : q ≡ Labelled.Is l c) where
    -- the next column
    pub column : FirstAt v deepest s (n - i) here W.rest (label_at s l) c.at
    column = first-at W.rest (λ z. omega arith) e f

    -- the answer from it on, by whether it is extra
    abbrev from-here : Bool → Answer (Unit {0})
    from-here b = choose b (refused_at 53 i) (extra_column_err how column.tail.columns gs (i + 1))

    split : {b : Bool} → b ≡ is_absent (counterpart how (label_at s l) gs) → (P : ColumnsAt v deepest s n from) → extra_column_err how P.columns gs 0 ≡
        from-here b
    unfolding extra_column_err
    split g P = W.answer P ∙ ap (λ (cs : Columns). extra_column_err how cs gs i) column.is ∙ ap from-here (sym g)

    module _ {b : Bool} (g : b ≡ is_absent (counterpart how (label_at s l) gs)) where
      pub seeking-stop : b ≡ true → (P : ColumnsAt v deepest s n from) → refused_at 53 i ≡ extra_column_err how P.columns gs 0
      unfolding choose
      seeking-stop h P = sym (split g P ∙ ap from-here h)

      pub seeking-more : b ≡ false → {a : ℕ} → ((Q : TypeAt v deepest s c.at) → a ≡ Q.end) → Seeking how v gs s n from a (i + 1)
      unfolding choose
      seeking-more h {a} skip =
          let less : n - i - 1 ≡ n - (i + 1) = omega arith in
          record {
            within = omega arith;
            rest = record { columns = column.tail.columns; end = column.tail.end; reads = tail-reads less (skip column.head) };
            answer = λ P. split g P ∙ ap from-here h;
          }
        where
          tail-reads : {y : ℕ} → n - i - 1 ≡ n - (i + 1) → y ≡ column.head.end → columns v Free (type v Free deepest) (n - (i + 1)) [] s y ≡ ok
              column.tail.columns column.tail.end
          tail-reads less E = rw (← less, E) column.tail.reads

-- ---- the policy

module _ {e : ExtraColumnsPolicy} (how : Matching) (fs gs : Columns) where
  pub ignoring : e ≡ Ignore → accepted tt ≡ extra_columns e how fs gs
  unfolding extra_columns
  ignoring h = rw h

  pub raising : e ≡ Raise → (r : ExtraColumn) → extra_answer r ≡ extra_column_err how fs gs 0 → extra_answer r ≡ extra_columns e how fs gs
  unfolding extra_columns
  raising h r a = rw h a
