-- The scan for a column: what holds after i of n columns, and what is answered on each way out. Assumes nothing.
use Prim.Native.Nat.{ℕ, zero, suc, ◌+◌, ◌-◌, ◌≤◌, ◌<◌}
use mathlib.Core.Path.{◌≡◌, refl, sym, ap, ◌∙◌, subst}
use mathlib.Core.List.{[], ◌∷◌, ◌++◌}
use mathlib.Core.Bool.{Bool, true, false}
use native.Mathlib.Omega.{arith}
use native.Mathlib.Nat.{add-sub_cancel_left}
use lib.ListN.{take, drop}
use lib.Dec.{eqb}
use borrow.Author.Tests.{eq-eqb, ne_eqb}
use Rattle.layout.specs.Bytes.{Bytes, same_bytes}
use Rattle.layout.specs.Parser.{ok, choose}
use Rattle.layout.specs.Tree.{Label, Columns}
use Rattle.layout.specs.Layout.{label, same_label, columns, type}
use Rattle.layout.specs.code.Answers.{label_res, label_at, LabelIn, span_at, moved_of}
use Rattle.layout.specs.code.Stands.{ColumnsAt}
use Rattle.layout.specs.Find.{Lookup, present, find_from, column_named, column_of_id, column_at, counterpart}
use Rattle.layout.specs.code.Finding.{match_rule, Finds, wanted_by}
use Rattle.layout.specs.declared.bytes.Span.{Span}
use Rattle.layout.specs.declared.columns.Position.{Position}
use Rattle.layout.specs.declared.columns.Label.{Label as LabelSpan}
use Rattle.layout.specs.declared.columns.Labelled.{Labelled}
use Rattle.layout.specs.declared.columns.Siblings.TheVariants.{Free}
use Rattle.layout.specs.declared.cursor.Cursor.{Cursor}
use Rattle.layout.specs.declared.cursor.Moved.{Moved}
use Rattle.layout.specs.declared.find.Found.{Found}
use Rattle.layout.specs.declared.find.Wanted.{Wanted}
use Rattle.layout.specs.declared.edition.Edition.{Edition}
use Rattle.layout.specs.declared.matching.Matching.{Matching}
use Rattle.layout.specs.declared.matching.Matching.TheVariants.{ByName, ByNumber}
use Rattle.layout.proofs.Ways.{clash}
use Rattle.layout.proofs.FreeRule.{repeats_free}
use Rattle.layout.proofs.Reading.{columns-suc}
use Rattle.layout.proofs.View.{FirstAt, first-at, head_at, columns-any, first-labelled, no_column, same-columns, type-ends, never_stuck}

pub record Seeking (v : Edition) (d : ℕ) (s : Bytes) (f : ℕ → Label → Bool) (n from i here : ℕ) : Type 0 where
  pub whole : ColumnsAt v d s n from
  pub within : i ≤ n
  pub rest : ColumnsAt v d s (n - i) here
  pub is : find_from f 0 whole.columns ≡ find_from f i rest.columns

-- as many columns, under another name of their number and place
renamed : {v : Edition} {d : ℕ} {s : Bytes} {n m at to : ℕ} (P : ColumnsAt v d s n at) → n ≡ m → at ≡ to → columns v Free (type v Free d) m [] s to ≡ ok
    P.columns P.end
renamed {v} {d} {s} {n} {m} {at} {to} P e g =
    sym (ap (λ (k : ℕ). columns v Free (type v Free d) k [] s at) e ∙ ap (λ (o : ℕ). columns v Free (type v Free d) m [] s o) g) ∙ P.reads

module _ {v : Edition} {d : ℕ} {s : Bytes} (f : ℕ → Label → Bool) {n from : ℕ} where
  pub seeking_start : ColumnsAt v d s n from → Seeking v d s f n from 0 from
  seeking_start P = record {
    whole = P;
    within = omega arith;
    rest = record { columns = P.columns; end = P.end; reads = renamed P (let e : n ≡ n - 0 = omega arith in e) refl };
    is = refl;
  }

  module _ {i here : ℕ} (a : Seeking v d s f n from i here) where
    -- the answer for any reading of the columns
    answered : (r : Found) → Finds v d s (find_from f i a.rest.columns) r → (P : ColumnsAt v d s n from) → Finds v d s (find_from f 0 P.columns) r
    answered r h P =
        let e : find_from f i a.rest.columns ≡ find_from f 0 P.columns = sym a.is ∙ ap (find_from f 0) (same-columns a.whole P).0 in
        subst (λ (x : Lookup). Finds v d s x r) e h

    pub seeking_none : n ≤ i → (P : ColumnsAt v d s n from) → Finds v d s (find_from f 0 P.columns) Found.Absent
    unfolding find_from
    seeking_none h =
        let e = no_column a.rest (let z : n - i ≡ 0 = omega arith in z) in
        answered _ (subst (λ (cs : Columns). Finds v d s (find_from f i cs) Found.Absent) (sym e.0) refl)

    module _ (lt : i < n) {p : Labelled} (g : label_res s p ≡ label v s here) where
      pub seeking_unlabelled : {B : Type 0} {k : ℕ} → p ≡ Labelled.Refused k → B
      seeking_unlabelled h = first-labelled a.rest (λ z. omega arith) g h

      module _ {l : LabelSpan} {c : Cursor} (h : p ≡ Labelled.Is l c) where
        first : FirstAt v d s (n - i) here a.rest (label_at s l) c.at
        first = first-at a.rest (λ z. omega arith) g h

        step : {b : Bool} → f i (label_at s l) ≡ b
            → find_from f i a.rest.columns ≡ choose b (present (record { 0 = i }) (label_at s l) first.head.tree)
            (find_from f (i + 1) first.tail.columns)
        unfolding find_from
        step {b} e = ap (find_from f i) first.is ∙ ap (λ (b : Bool). choose b (present (record { 0 = i }) (label_at s l) first.head.tree)
            (find_from f (i + 1) first.tail.columns)) e

        pub seeking-found : {b : Bool} → LabelIn s p → b ≡ f i (label_at s l) → b ≡ true
            → (P : ColumnsAt v d s n from) → Finds v d s (find_from f 0 P.columns) (Found.At (record { 0 = i }) l c)
        unfolding choose
        seeking-found inn e t =
            answered _ (subst (λ (x : Lookup). Finds v d s x (Found.At (record { 0 = i }) l c)) (sym (step (sym e ∙ t)))
            (record { span = l; start = c; end = first.head.end; is = refl; label = refl; inside = rw h at inn; reads = first.head.reads }))

        pub seeking-stuck : {B : Type 0} {q : Moved} {k : ℕ} → q ≡ moved_of (type v Free d s c.at) → q ≡ Moved.Refused k → B
        seeking-stuck e k = never_stuck first.head e k

        pub seeking-more : {b : Bool} {q : Moved} {j : Cursor} → b ≡ f i (label_at s l) → b ≡ false → q ≡ moved_of (type v Free d s c.at) → q ≡ Moved.To j
            → Seeking v d s f n from (i + 1) j.at
        unfolding choose
        seeking-more e t m k = record {
          whole = a.whole;
          within = omega arith;
          rest = record {
            columns = first.tail.columns;
            end = first.tail.end;
            reads = renamed first.tail (let z : n - i - 1 ≡ n - (i + 1) = omega arith in z) (sym (type-ends first.head m k));
          };
          is = a.is ∙ step (sym e ∙ t);
        }

-- ---- the column at a position

-- after the first k columns, which f does not want
record After (v : Edition) (d : ℕ) (s : Bytes) (f : ℕ → Label → Bool) (j n here : ℕ) (P : ColumnsAt v d s n here) (k : ℕ) : Type 0 where
  end : ℕ
  passes : moved_of (columns v Free (type v Free d) k [] s here) ≡ Moved.To (record { at = end })
  rest : ColumnsAt v d s (n - k) end
  is : find_from f j P.columns ≡ find_from f (j + k) rest.columns

after : {v : Edition} {d : ℕ} {s : Bytes} (f : ℕ → Label → Bool) (k j : ℕ) {n here : ℕ} (P : ColumnsAt v d s n here) → k ≤ n
    → ((i : ℕ) (l : Label) → i < j + k → f i l ≡ false) → After v d s f j n here P k
unfolding columns moved_of find_from choose
after f zero j {n} {here} P le un = record {
  end = here;
  passes = refl;
  rest = record { columns = P.columns; end = P.end; reads = renamed P (let e : n ≡ n - 0 = omega arith in e) refl };
  is = ap (λ (i : ℕ). find_from f i P.columns) (let e : j ≡ j + 0 = omega arith in e);
}
after {v} {d} {s} f (suc k) j {n} {here} P le un =
    let H = head_at P (λ z. omega arith) in
    let A = after f k (j + 1) H.first.tail (omega arith) (λ i l h. un i l (omega arith)) in
    let x : ℕ = H.first.head.end in
    record {
      end = A.end;
      passes = columns-suc v Free (type v Free d) k [] s here H.labelled H.first.head.reads (repeats_free H.label [])
          ∙ ap moved_of (columns-any v (type v Free d) k ([] ++ (H.label ∷ [])) [] s x) ∙ A.passes;
      rest = record {
        columns = A.rest.columns;
        end = A.rest.end;
        reads = renamed A.rest (let e : n - 1 - k ≡ n - suc k = omega arith in e) refl;
      };
      is = ap (find_from f j) H.first.is
          ∙ ap (λ (b : Bool). choose b (present (record { 0 = j }) H.label H.first.head.tree) (find_from f (j + 1) H.first.tail.columns))
          (un j H.label (omega arith))
          ∙ A.is ∙ ap (λ (i : ℕ). find_from f i A.rest.columns) (let e : j + 1 + k ≡ j + suc k = omega arith in e);
    }

-- before the position k
before : (k : ℕ) {m : ℕ} → m ≤ k → (i : ℕ) (l : Label) → i < 0 + m → eqb i k ≡ false
before k h i l lt = ne_eqb i k (λ z. omega arith)

module _ {v : Edition} {d : ℕ} {s : Bytes} {n from : ℕ} (k : Position) (P : ColumnsAt v d s n from) where
  pub position_past : n ≤ k.0 → (Q : ColumnsAt v d s n from) → Finds v d s (column_at k Q.columns) Found.Absent
  position_past h =
      let f : ℕ → Label → Bool = λ i l. eqb i k.0 in
      let A = after f n 0 P (omega arith) (before k.0 h) in
      seeking_none f (record {
        whole = P;
        within = omega arith;
        rest = A.rest;
        is = A.is ∙ ap (λ (i : ℕ). find_from f i A.rest.columns)
            (let e : 0 + n ≡ n = omega arith in e);
      }) (omega arith)

  module _ (lt : k.0 < n) {r : Moved} (e : r ≡ moved_of (columns v Free (type v Free d) k.0 [] s from)) where
    pub position_stuck : {B : Type 0} {m : ℕ} → r ≡ Moved.Refused m → B
    position_stuck {m = m} f =
        let A = after (λ i l. eqb i k.0) k.0 0 P (omega arith) (before k.0 (omega arith)) in
        let z : Moved.Refused m ≡ Moved.To (record { at = A.end }) = sym f ∙ e ∙ A.passes in
        clash (cc)

    module _ {c : Cursor} (f : r ≡ Moved.To c) where
      reached : Seeking v d s (λ i l. eqb i k.0) n from k.0 c.at
      reached =
          let g : ℕ → Label → Bool = λ i l. eqb i k.0 in
          let A = after g k.0 0 P (omega arith) (before k.0 (omega arith)) in
          let z : Moved.To (record { at = A.end }) ≡ Moved.To c = sym A.passes ∙ sym e ∙ f in
          let y : A.end ≡ c.at = cc in
          record {
            whole = P;
            within = omega arith;
            rest = record { columns = A.rest.columns; end = A.rest.end; reads = renamed A.rest refl y };
            is = A.is ∙ ap (λ (i : ℕ). find_from g i A.rest.columns) (let e : 0 + k.0 ≡ k.0 = omega arith in e);
          }

      module _ {p : Labelled} (g : label_res s p ≡ label v s c.at) where
        pub position-unlabelled : {B : Type 0} {m : ℕ} → p ≡ Labelled.Refused m → B
        position-unlabelled h = seeking_unlabelled _ reached lt g h

        pub position-found : {l : LabelSpan} {b : Cursor} → LabelIn s p → p ≡ Labelled.Is l b
            → (Q : ColumnsAt v d s n from) → Finds v d s (column_at k Q.columns) (Found.At k l b)
        position-found inn h = seeking-found _ reached lt g h inn (sym (eq-eqb k.0 k.0 refl)) refl

-- the tests of a column
module _ (s name : Bytes) (l : LabelSpan) where
  pub wanted_name : {w : Wanted} {b : Bool} → w ≡ Wanted.Name → b ≡ same_bytes (take (l.name.start + l.name.len - l.name.start)
      (drop l.name.start s)) name
      → b ≡ wanted_by w name (label_at s l)
  wanted_name h e = rw h (rw (add-sub_cancel_left l.name.start l.name.len) at e)

-- ---- a counterpart

-- it is the first column whose label matches
pub counterpart-first : (how : Matching) (w : Label) (cs : Columns) → counterpart how w cs ≡ find_from (λ i l. same_label (match_rule how) l w) 0 cs
counterpart-first ByName w cs = refl
counterpart-first ByNumber w cs = refl

module _ (v : Edition) (d : ℕ) (s : Bytes) where
  -- a name, by the part of the bytes that was lent
  pub by_name : (r : Found) (t : Bytes) (p : Span) (cs : Columns) → Finds v d s (column_named (take (p.start + p.len - p.start) (drop p.start t)) cs) r
      → Finds v d s (column_named (span_at t p) cs) r
  by_name r t p cs f = subst (λ (n : ℕ). Finds v d s (column_named (take n (drop p.start t)) cs) r) (add-sub_cancel_left p.start p.len) f

  module _ (how : Matching) (r : Found) (t : Bytes) (l : LabelSpan) (cs : Columns) where
    matched : {w : Matching} → how ≡ w → Finds v d s (counterpart w (label_at t l) cs) r → Finds v d s (counterpart how (label_at t l) cs) r
    matched h f = subst (λ (w : Matching). Finds v d s (counterpart w (label_at t l) cs) r) (sym h) f

    pub counterpart-name : how ≡ ByName → Finds v d s (column_named (take (l.name.start + l.name.len - l.name.start) (drop l.name.start t)) cs) r
        → Finds v d s (counterpart how (label_at t l) cs) r
    counterpart-name h f = matched h (by_name r t l.name cs f)

    pub counterpart-id : how ≡ ByNumber → Finds v d s (column_of_id l.id cs) r → Finds v d s (counterpart how (label_at t l) cs) r
    counterpart-id h f = matched h f
