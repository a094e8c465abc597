-- Tests of a struct's fields: what a lookup says, and the loops over columns. Assumes nothing.
use Prim.Native.Nat.{ℕ, ◌-◌, ◌≤◌, ◌<◌}
use mathlib.Core.Path.{◌≡◌, refl, sym, ap, ◌∙◌}
use mathlib.Core.Bool.{Bool, true, false, not, ◌&&◌}
use mathlib.Core.List.{[]}
use native.Mathlib.Omega.{arith}
use Rattle.layout.specs.Bytes.{Bytes}
use Rattle.layout.specs.Tree.{Label, ColumnType, Columns, cnil, ccons}
use Rattle.layout.specs.Layout.{label, columns, type}
use Rattle.layout.specs.declared.columns.Siblings.TheVariants.{Free}
use Rattle.layout.specs.code.Answers.{label_res, label_at, span_at}
use Rattle.layout.specs.Find.{Lookup, absent, present, column_named, counterpart}
use Rattle.layout.specs.code.Finding.{Finds}
use Rattle.layout.specs.code.Stands.{TypeAt, ColumnsAt}
use Rattle.layout.specs.declared.columns.Position.{Position}
use Rattle.layout.specs.declared.columns.Label.{Label as LabelSpan}
use Rattle.layout.specs.declared.columns.Labelled.{Labelled}
use Rattle.layout.specs.declared.cursor.Cursor.{Cursor}
use Rattle.layout.specs.declared.find.Found.{Found}
use Rattle.layout.specs.declared.edition.Edition.{Edition}
use Rattle.layout.specs.declared.matching.Matching.{Matching}
use Rattle.layout.specs.declared.matching.Matching.TheVariants.{ByName, ByNumber}
use Rattle.layout.proofs.Ways.{clash}
use Rattle.layout.proofs.View.{FirstAt, first-at, first-labelled, no_column, same-columns, columns_moved}
use Rattle.matching.specs.Build.{is_absent, distinct_names, distinct, no_extra_of}

-- ---- lookups

module _ (v : Edition) (d : ℕ) (s : Bytes) where
  pub found_some : (x : Lookup) {r : Found} {k : Position} {l : LabelSpan} {c : Cursor} → Finds v d s x r → r ≡ Found.At k l c → true ≡ not (is_absent x)
  found_some absent {r} {k} {l} {c} f e = let z : Found.Absent ≡ Found.At k l c = sym f ∙ e in clash (cc)
  found_some (present k l t) f e = refl

  pub found_none : (x : Lookup) {r : Found} → Finds v d s x r → r ≡ Found.Absent → false ≡ not (is_absent x)
  found_none absent f e = refl
  found_none (present k l t) f e = let z : Found.At k f.span f.start ≡ Found.Absent = sym f.is ∙ e in clash (cc)

-- ---- 12

pub distinct-name : {v : Matching} {b : Bool} (cs : Columns) → v ≡ ByName → b ≡ distinct_names cs → b ≡ distinct v cs
unfolding distinct
distinct-name cs h e = rw h e

pub distinct-number : {v : Matching} (cs : Columns) → v ≡ ByNumber → true ≡ distinct v cs
unfolding distinct
distinct-number cs h = rw h

-- ---- the loops: a test of the columns that are left is the test of all

pub record Passing (v : Edition) (d : ℕ) (s : Bytes) (f : Columns → Bool) (n from left here : ℕ) : Type 0 where
  pub whole : ColumnsAt v d s n from
  pub rest : ColumnsAt v d s left here
  pub is : f whole.columns ≡ f rest.columns

module _ {v : Edition} {d : ℕ} {s : Bytes} (f : Columns → Bool) {n from : ℕ} where
  pub passing_start : ColumnsAt v d s n from → Passing v d s f n from n from
  passing_start P = record { whole = P; rest = P; is = refl }

  module _ {left here : ℕ} (a : Passing v d s f n from left here) where
    pub passing_done : left ≤ 0 → {b : Bool} → f cnil ≡ b → (P : ColumnsAt v d s n from) → b ≡ f P.columns
    passing_done h e P =
        let z = (no_column a.rest (let y : left ≡ 0 = omega arith in y)).0 in
        sym (ap f (same-columns P a.whole).0 ∙ a.is ∙ ap f z ∙ e)

    module _ (lt : 0 < left) {p : Labelled} (g : label_res s p ≡ label v s here) where
      pub passing-unlabelled : {B : Type 0} {k : ℕ} → p ≡ Labelled.Refused k → B
      passing-unlabelled h = first-labelled a.rest (λ z. omega arith) g h

      module _ {l : LabelSpan} {c : Cursor} (h : p ≡ Labelled.Is l c) where
        pub column : FirstAt v d s left here a.rest (label_at s l) c.at
        column = first-at a.rest (λ z. omega arith) g h

        -- the columns after it, where the reader says that its type ends
        pub tail_at : {e : ℕ} → e ≡ column.head.end → ColumnsAt v d s (left - 1) e
        tail_at q = columns_moved (sym q) column.tail

        tail-is : {e : ℕ} → e ≡ column.head.end → (T : ColumnsAt v d s (left - 1) e) → T.columns ≡ column.tail.columns
        tail-is {e} q T =
            (same-columns T (record {
              columns = column.tail.columns;
              end = column.tail.end;
              reads = ap (λ (o : ℕ). columns v Free (type v Free d) (left - 1) [] s o) q ∙ column.tail.reads;
            })).0

        pub passing-stop : {e : ℕ} (q : e ≡ column.head.end) (T : ColumnsAt v d s (left - 1) e) → f
            (ccons (label_at s l) column.head.tree T.columns) ≡ false
            → (P : ColumnsAt v d s n from) → false ≡ f P.columns
        passing-stop q T e P =
            sym (ap f (same-columns P a.whole).0 ∙ a.is ∙ ap f column.is
            ∙ ap (λ (cs : Columns). f (ccons (label_at s l) column.head.tree cs)) (sym (tail-is q T)) ∙ e)

        pub passing-more : {e : ℕ} (q : e ≡ column.head.end) (T : ColumnsAt v d s (left - 1) e) → f
            (ccons (label_at s l) column.head.tree T.columns) ≡ f T.columns
            → Passing v d s f n from (left - 1) e
        passing-more q T e = record {
          whole = a.whole;
          rest = T;
          is = a.is ∙ ap f column.is ∙ ap (λ (cs : Columns). f (ccons (label_at s l) column.head.tree cs)) (sym (tail-is q T)) ∙ e;
        }

-- one more column, by the test that was made
distinct_stop : (l : Label) (t : ColumnType) (cs : Columns) {b : Bool} → b ≡ not (is_absent (column_named l.name cs)) → b ≡ true → distinct_names
    (ccons l t cs) ≡ false
unfolding distinct_names
distinct_stop l t cs {b} e h = go (is_absent (column_named l.name cs)) (sym e ∙ h)
  where
    go : (x : Bool) → not x ≡ true → (x && distinct_names cs) ≡ false
    go true z = clash (cc)
    go false z = refl

distinct_more : (l : Label) (t : ColumnType) (cs : Columns) {b : Bool} → b ≡ not (is_absent (column_named l.name cs)) → b ≡ false → distinct_names
    (ccons l t cs) ≡ distinct_names cs
unfolding distinct_names
distinct_more l t cs {b} e h = go (is_absent (column_named l.name cs)) (sym e ∙ h)
  where
    go : (x : Bool) → not x ≡ false → (x && distinct_names cs) ≡ distinct_names cs
    go true z = refl
    go false z = clash (cc)

pub not-true : (b : Bool) → not b ≡ true → b ≡ false
not-true true h = clash (cc)
not-true false h = refl

pub not-false : (b : Bool) → not b ≡ false → b ≡ true
not-false true h = refl
not-false false h = clash (cc)

module _ (v : Matching) (l : Label) (t : ColumnType) (fs gs : Columns) {b : Bool} (e : b ≡ not (is_absent (counterpart v l gs))) where
  extra-stop : b ≡ false → no_extra_of v (ccons l t fs) gs ≡ false
  unfolding no_extra_of
  extra-stop h = let z : not (is_absent (counterpart v l gs)) ≡ false = sym e ∙ h in rw z

  extra-more : b ≡ true → no_extra_of v (ccons l t fs) gs ≡ no_extra_of v fs gs
  unfolding no_extra_of
  extra-more h = let z : not (is_absent (counterpart v l gs)) ≡ true = sym e ∙ h in rw z

module _ {v : Edition} {d : ℕ} {s : Bytes} {n from left here : ℕ} (a : Passing v d s distinct_names n from left here) (lt : 0 < left)
    {p : Labelled} (g : label_res s p ≡ label v s here) {l : LabelSpan} {c : Cursor} (h : p ≡ Labelled.Is l c)
    {e : ℕ} (q : e ≡ (column distinct_names a lt g h).head.end) (T : ColumnsAt v d s (left - 1) e)
    {b : Bool} (t : b ≡ not (is_absent (column_named (span_at s l.name) T.columns))) where
  pub names_stop : b ≡ true → (P : ColumnsAt v d s n from) → false ≡ distinct_names P.columns
  names_stop z = passing-stop distinct_names a lt g h q T (distinct_stop (label_at s l) _ T.columns t z)

  pub names_more : b ≡ false → Passing v d s distinct_names n from (left - 1) e
  names_more z = passing-more distinct_names a lt g h q T (distinct_more (label_at s l) _ T.columns t z)

module _ (how : Matching) {v : Edition} {d : ℕ} {s : Bytes} (gs : Columns) {n from left here : ℕ}
    (a : Passing v d s (λ cs. no_extra_of how cs gs) n from left here) (lt : 0 < left)
    {p : Labelled} (g : label_res s p ≡ label v s here) {l : LabelSpan} {c : Cursor} (h : p ≡ Labelled.Is l c)
    {b : Bool} (t : b ≡ not (is_absent (counterpart how (label_at s l) gs))) where
  extra_column : FirstAt v d s left here a.rest (label_at s l) c.at
  extra_column = column (λ cs. no_extra_of how cs gs) a lt g h

  pub fields_stop : not b ≡ true → (P : ColumnsAt v d s n from) → false ≡ no_extra_of how P.columns gs
  unfolding extra_column
  fields_stop z = passing-stop (λ cs. no_extra_of how cs gs) a lt g h refl extra_column.tail
      (extra-stop how (label_at s l) _ extra_column.tail.columns gs t (not-true b z))

  pub fields-more : not b ≡ false → {e : ℕ} → ((P : TypeAt v d s c.at) → e ≡ P.end) → Passing v d s (λ cs. no_extra_of how cs gs) n from (left - 1) e
  unfolding extra_column
  fields-more z k =
      let T = tail_at (λ cs. no_extra_of how cs gs) a lt g h (k extra_column.head) in
      passing-more (λ cs. no_extra_of how cs gs) a lt g h (k extra_column.head) T (extra-more how (label_at s l) _ T.columns gs t (not-false b z))
