-- The loop over the target columns: what is answered and written, over variable answers. Assumes nothing.
use Prim.Native.Nat.{ℕ, ◌+◌, ◌-◌, ◌*◌, ◌≤◌, ◌<◌}
use mathlib.Core.Path.{◌≡◌, refl, sym, ap, ◌∙◌, subst}
use mathlib.Core.Bool.{Bool, true, false}
use mathlib.Core.List.{[]}
use native.Mathlib.Omega.{arith}
use native.Mathlib.Nat.{zero-add, add-zero, add_assoc}
use lib.ListN.{length, length-append}
use Rattle.store.specs.code.Overlay.{overlay, Holds}
use Rattle.store.proofs.Holds.{holds_exact, holds-append}
use Rattle.layout.specs.Bytes.{Bytes}
use Rattle.layout.specs.Parser.{ok}
use Rattle.layout.specs.Tree.{Columns, cnil}
use Rattle.layout.specs.Layout.{label, columns, type, deepest}
use Rattle.layout.specs.code.Answers.{label_res, label_at, LabelIn, SpanIn}
use Rattle.layout.specs.code.Stands.{TypeAt, ColumnsAt}
use Rattle.layout.specs.declared.columns.Label.{Label as LabelSpan}
use Rattle.layout.specs.declared.columns.Labelled.{Labelled}
use Rattle.layout.specs.declared.columns.Siblings.TheVariants.{Free}
use Rattle.layout.specs.declared.cursor.Cursor.{Cursor}
use Rattle.layout.specs.declared.edition.Edition.{Edition}
use Rattle.layout.specs.declared.matching.Matching.{Matching}
use Rattle.layout.proofs.Ways.{label_in}
use Rattle.layout.proofs.View.{label_got, same-columns, no_column, FirstAt, first-at, first-labelled}
use Rattle.forms.specs.Form.{text_bytes}
use Rattle.forms.proofs.Read.{label-ends}
use Rattle.forms.proofs.Writing.{extent, span-long}
use Rattle.rules.specs.declared.policy.Policy.{Policy}
use Rattle.plan.specs.Result.{Result, gives, refuses, Answer, accepted, refused_at, placed, answered}
use Rattle.plan.specs.Selector.{Selector, Selectors, scons}
use Rattle.plan.specs.Encode.{encode_selector, encode_selectors}
use Rattle.matching.specs.Default.{Defaults}
use Rattle.matching.specs.Build.{inserts, build_column_selector, build_from}
use Rattle.builder.specs.code.Answers.{made_of, is_refused, len_of, Wrote, Makes, attach_field}
use Rattle.calls.specs.code.Answers.{columns_made, failed_column, join_columns, WroteColumns, MakesColumns}
use Rattle.builder.specs.declared.answer.Made.{Made}
use Rattle.calls.specs.declared.columns.ColumnsMade.{ColumnsMade}
use Rattle.builder.proofs.Matching.{differ}
use Rattle.builder.proofs.Rows.{not-refused, len_is, makes-room}

-- ---- a column, whose answer is X, before others, whose answer is Y; i is its position

abbrev pub before_columns : ℕ → Result Selector → Answer Selectors → Answer Selectors
before_columns i X Y = placed i X (λ s. answered Y (λ ss. accepted (scons s ss)))

refused-not : (n : ℕ) → is_refused (made_of (refuses n)) ≡ true
unfolding made_of
refused-not n = refl

module _ {b e : ℕ} {out : Bytes} {k : ℕ} {r : Made} {o : Bytes} where
  columns-stop : (i : ℕ) (X : Result Selector) (Y : Answer Selectors) → Makes b e out k X r o → is_refused r ≡ true → failed_column i r ≡ columns_made
      (before_columns i X Y)
  unfolding placed made_of columns_made
  columns-stop i (refuses n) Y A h = ap (failed_column i) A.answer
  columns-stop i (gives s) Y A h = differ h (not-refused s) (ap is_refused A.answer)

  columns-wrote-stopped : (i : ℕ) (X : Result Selector) (Y : Answer Selectors) (b' e' : ℕ) (out' : Bytes) (k' : ℕ) (o' : Bytes) → Makes b e out k X r o
      → is_refused r ≡ true
      → WroteColumns b' e' out' k' (before_columns i X Y) o'
  unfolding placed WroteColumns
  columns-wrote-stopped i (refuses n) Y b' e' out' k' o' A h = tt
  columns-wrote-stopped i (gives s) Y b' e' out' k' o' A h = differ h (not-refused s) (ap is_refused A.answer)

  columns-more : (i : ℕ) (X : Result Selector) (Y : Answer Selectors) → Makes b e out k X r o → is_refused r ≡ false → columns_made (before_columns i X Y)
      ≡ join_columns (len_of r) (columns_made Y)
  unfolding placed answered columns_made encode_selectors
  columns-more i (refuses n) Y A h = differ (refused-not n) h (ap is_refused (sym A.answer))
  columns-more i (gives s) (refused_at n j) A h = refl
  columns-more i (gives s) (accepted ss) A h =
      let q : len_of r ≡ length (encode_selector s) = ap len_of A.answer ∙ len_is s in
      rw q (ap ColumnsMade.Done (length-append (encode_selector s) (encode_selectors ss)))

  columns-wrote : (i : ℕ) (X : Result Selector) (Y : Answer Selectors) (e' : ℕ) (o' : Bytes) → Makes b e out k X r o → is_refused r ≡ false → length o ≡
      length out
      → WroteColumns e e' o (k + len_of r) Y o' → WroteColumns b e' out k (before_columns i X Y) o'
  unfolding placed answered WroteColumns Wrote encode_selectors
  columns-wrote i (refuses n) Y e' o' A h l w = differ (refused-not n) h (ap is_refused (sym A.answer))
  columns-wrote i (gives s) (refused_at n j) e' o' A h l w = tt
  columns-wrote i (gives s) (accepted ss) e' o' A h l w =
      let q : len_of r ≡ length (encode_selector s) = ap len_of A.answer ∙ len_is s in
      let u : Holds o (k + length (encode_selector s)) (encode_selectors ss) o' = subst (λ (n : ℕ). Holds o (k + n) (encode_selectors ss) o') q w.0 in
      let j = A.wrote.1 in
      let i = w.1 in
      let v = length-append (encode_selector s) (encode_selectors ss) in
      (holds-append out k (encode_selector s) (encode_selectors ss) o o' l A.wrote.0 u, omega arith)

join-none : {n : ℕ} (r : ColumnsMade) → n ≡ 0 → r ≡ join_columns n r
join-none (ColumnsMade.Failed m i) h = refl
join-none (ColumnsMade.Done l) h = rw (h, zero-add)

join-join : (m n : ℕ) (r : ColumnsMade) → join_columns m (join_columns n r) ≡ join_columns (m + n) r
join-join m n (ColumnsMade.Failed e i) = refl
join-join m n (ColumnsMade.Done l) = rw (add_assoc m n l)

join-failed : (n i : ℕ) (r : Made) → join_columns n (failed_column i r) ≡ failed_column i r
join-failed n i (Made.Refused e) = refl
join-failed n i (Made.Bare k) = refl
join-failed n i (Made.Built l) = refl

-- ---- the loop: after i of m columns, what is still to be done

pub record Building (p : Policy) (d : Defaults) (fs : Columns) (how : Matching) (v : Edition) (s : Bytes) (m from : ℕ) (out₀ : Bytes) (k : ℕ)
    (out : Bytes) (at to i : ℕ) : Type 0 where
  pub within : i ≤ m
  pub room : to ≤ 65536 * at
  pub over : k ≤ to
  pub kept : length out ≡ length out₀
  pub rest : ColumnsAt v deepest s (m - i) at
  pub ends : (Q : ColumnsAt v deepest s m from) → rest.end ≡ Q.end
  pub answer : (Q : ColumnsAt v deepest s m from) → columns_made (build_from how p d Q.columns fs 0) ≡ join_columns (to - k)
      (columns_made (build_from how p d rest.columns fs i))
  pub stores : (Q : ColumnsAt v deepest s m from) (o : Bytes) → WroteColumns at rest.end out to (build_from how p d rest.columns fs i) o →
      WroteColumns from Q.end out₀ k (build_from how p d Q.columns fs 0) o

module _ (p : Policy) (d : Defaults) (fs : Columns) (how : Matching) {v : Edition} {s : Bytes} {m from : ℕ} {out₀ : Bytes} {k : ℕ} where
  pub building-none : ColumnsAt v deepest s m from → k ≤ 65536 * from → Building p d fs how v s m from out₀ k out₀ from k 0
  building-none P h =
      let e : m ≡ m - 0 = omega arith in
      record {
        within = omega arith;
        room = h;
        over = omega arith;
        kept = refl;
        rest = record { columns = P.columns; end = P.end; reads = ap (λ (j : ℕ). columns v Free (type v Free deepest) j [] s from) (sym e) ∙ P.reads };
        ends = λ Q. (same-columns P Q).1;
        answer = λ Q. ap (λ (cs : Columns). columns_made (build_from how p d cs fs 0)) (same-columns Q P).0 ∙ join-none _ (omega arith);
        stores = λ Q o w. let (a, b) = same-columns P Q in subst (λ (cs : Columns). WroteColumns from Q.end out₀ k (build_from how p d cs fs 0) o) a
            (subst (λ (x : ℕ). WroteColumns from x out₀ k (build_from how p d P.columns fs 0) o) b w);
      }

module _ {p : Policy} {d : Defaults} {fs : Columns} {how : Matching} {v : Edition} {s : Bytes} {m from : ℕ} {out₀ : Bytes} {k : ℕ} {out : Bytes}
    {at to i : ℕ} (W : Building p d fs how v s m from out₀ k out at to i) where
  -- no column is left
  pub building-all : m ≤ i → (Q : ColumnsAt v deepest s m from) → MakesColumns from Q.end out₀ k (build_from how p d Q.columns fs 0)
      (ColumnsMade.Done (to - k)) out
  unfolding build_from columns_made WroteColumns encode_selectors overlay
  building-all h Q =
      let (z, q) = no_column W.rest (let y : m - i ≡ 0 = omega arith in y) in
      let here : columns_made (build_from how p d W.rest.columns fs i) ≡ ColumnsMade.Done 0 = ap
      (λ (cs : Columns). columns_made (build_from how p d cs fs i)) z in
      let none : WroteColumns at W.rest.end out to (build_from how p d cnil fs i) out = (holds_exact out to [] refl, omega arith) in
      record {
        answer = sym (W.answer Q ∙ ap (join_columns (to - k)) here ∙ ap ColumnsMade.Done (add-zero (to - k)));
        wrote = W.stores Q out (subst (λ (cs : Columns). WroteColumns at W.rest.end out to (build_from how p d cs fs i) out) (sym z) none);
      }

  -- a column that stands there has a label
  pub building_unlabelled : {B : Type 0} → i < m → {q : Labelled} {x : ℕ} → label_res s q ≡ label v s at → q ≡ Labelled.Refused x → B
  building_unlabelled lt e f = first-labelled W.rest (λ z. omega arith) e f

  module _ (lt : i < m) {q : Labelled} {l : LabelSpan} {c : Cursor} (e : label_res s q ≡ label v s at) (f : q ≡ Labelled.Is l c) where
    -- the next column
    pub column : FirstAt v deepest s (m - i) at W.rest (label_at s l) c.at
    column = first-at W.rest (λ z. omega arith) e f

    -- its type stands behind its name
    pub column_after : at < c.at
    unfolding text_bytes
    column_after = let (a, (b, x)) = label-ends s v at (label_got s e f) in omega arith

    pub column_name : LabelIn s q → SpanIn s l.name × (l.name.len ≤ 63)
    column_name g =
        let h = label_in s g f in
        let (a, (b, (x, y))) = label-ends s v at (label_got s e f) in
        let z = span-long s l.name h in
        (h, omega arith)

    pub column-room : to ≤ 65536 * c.at
    column-room = let r = W.room in let a = column_after in omega arith

    abbrev here : Result Selector
    here = build_column_selector how p d (label_at s l) column.head.tree fs

    abbrev others : Answer Selectors
    others = build_from how p d column.tail.columns fs (i + 1)

    split : build_from how p d W.rest.columns fs i ≡ before_columns i here others
    unfolding build_from
    split = ap (λ (cs : Columns). build_from how p d cs fs i) column.is

    -- what the field matcher made is the column's selector
    pub column-made : {insert : Bool} (r : Made) (o : Bytes) → insert ≡ inserts p.missing_columns
        → Makes at column.head.end out to (attach_field how p d insert 11 (label_at s l) column.head.tree fs) r o → Makes at column.head.end
        out to here r o
    unfolding build_column_selector
    column-made r o h A = subst (λ (x : Bool). Makes at column.head.end out to (attach_field how p d x 11 (label_at s l) column.head.tree fs) r o) h A

    module _ {r : Made} {o : Bytes} (A : Makes at column.head.end out to here r o) where
      pub building-stop : {x : Bool} {y : ColumnsMade} → x ≡ is_refused r → x ≡ true → y ≡ failed_column i r → (Q : ColumnsAt v deepest s m from)
          → MakesColumns from Q.end out₀ k (build_from how p d Q.columns fs 0) y o
      building-stop g h u Q =
          let z = sym g ∙ h in
          let is : columns_made (build_from how p d W.rest.columns fs i) ≡ failed_column i r = ap columns_made split ∙ sym (columns-stop i here others A z) in
          record {
            answer = u ∙ sym (W.answer Q ∙ ap (join_columns (to - k)) is ∙ join-failed (to - k) i r);
            wrote = W.stores Q o (subst (λ (g : Answer Selectors). WroteColumns at W.rest.end out to g o) (sym split)
                (columns-wrote-stopped i here others at W.rest.end out to o A z));
          }

      module _ {x : Bool} (g : x ≡ is_refused r) (h : x ≡ false) where
        -- the index behind the selector
        pub column_fits : {n : ℕ} → n ≡ len_of r → to + n ≤ 65536 * length s
        column_fits u = let a = makes-room here A (sym g ∙ h) in let b = W.room in let (x, y) = extent column.head in omega arith

        pub building-more : {a : Cursor} {n : ℕ} → ((Q : TypeAt v deepest s c.at) → a.at ≡ Q.end) → n ≡ len_of r → length o ≡ length out
            → Building p d fs how v s m from out₀ k o a.at (to + n) (i + 1)
        building-more {a} {n} skip u len =
            let z = sym g ∙ h in
            let E : a.at ≡ column.head.end = skip column.head in
            let room = makes-room here A z in
            let wr = W.room in
            let ov = W.over in
            let less : m - i - 1 ≡ m - (i + 1) = omega arith in
            let dist : to - k + n ≡ to + n - k = omega arith in
            let is : columns_made (build_from how p d W.rest.columns fs i) ≡ join_columns n (columns_made others) =
            ap columns_made split ∙ columns-more i here others A z ∙ ap (λ (w : ℕ). join_columns w (columns_made others)) (sym u) in
            record {
              within = omega arith;
              room = omega arith;
              over = omega arith;
              kept = len ∙ W.kept;
              rest = record { columns = column.tail.columns; end = column.tail.end; reads = tail-reads less E };
              ends = λ Q. column.ends ∙ W.ends Q;
              answer = λ Q. W.answer Q ∙ ap (join_columns (to - k)) is ∙ join-join (to - k) n (columns_made others) ∙ ap
                  (λ (w : ℕ). join_columns w (columns_made others)) dist;
              stores = λ Q o' w. W.stores Q o' (whole o' E u w);
            }
          where
            tail-reads : {y : ℕ} → m - i - 1 ≡ m - (i + 1) → y ≡ column.head.end → columns v Free (type v Free deepest) (m - (i + 1)) [] s y ≡ ok
                column.tail.columns column.tail.end
            tail-reads less E = rw (← less, E) column.tail.reads

            whole : (o' : Bytes) {y n : ℕ} → y ≡ column.head.end → n ≡ len_of r → WroteColumns y column.tail.end o (to + n) others o'
                → WroteColumns at W.rest.end out to (build_from how p d W.rest.columns fs i) o'
            whole o' {y} {n} E u w =
                let w₁ : WroteColumns column.head.end column.tail.end o (to + len_of r) others o' =
                subst (λ (j : ℕ). WroteColumns column.head.end column.tail.end o (to + j) others o') u
                (subst (λ (j : ℕ). WroteColumns j column.tail.end o (to + n) others o') E w) in
                let w₂ : WroteColumns at column.tail.end out to (before_columns i here others) o' = columns-wrote i here others column.tail.end
                o' A (sym g ∙ h) len w₁ in
                subst (λ (g : Answer Selectors). WroteColumns at W.rest.end out to g o') (sym split)
                (subst (λ (j : ℕ). WroteColumns at j out to (before_columns i here others) o') column.ends w₂)
