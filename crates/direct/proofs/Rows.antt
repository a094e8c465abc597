-- Selectors and columns of the target, one by one. Assumes nothing.
use Prim.Native.Nat.{ℕ, ◌+◌, ◌-◌, ◌≤◌, ◌<◌}
use mathlib.Core.Path.{◌≡◌, refl, sym, ap, ◌∙◌}
use mathlib.Core.Bool.{Bool, true}
use mathlib.Core.List.{List, []}
use native.Mathlib.Omega.{arith}
use lib.ListN.{length}
use Rattle.layout.specs.Bytes.{Bytes, same_bytes}
use Rattle.layout.specs.Tree.{Label, Columns, dtype_of, fields_of}
use Rattle.layout.specs.Layout.{label, type, columns as columns_of_of}
use Rattle.layout.specs.code.Stands.{ColumnsAt}
use Rattle.layout.specs.code.Answers.{span_at, label_res}
use Rattle.layout.specs.declared.columns.Label.{Label as LabelSpan}
use Rattle.layout.specs.declared.columns.Labelled.{Labelled}
use Rattle.layout.specs.declared.columns.Siblings.TheVariants.{Free}
use Rattle.layout.specs.declared.cursor.Cursor.{Cursor}
use Rattle.layout.specs.declared.edition.Edition.{Edition}
use Rattle.layout.proofs.OfBytes.{same_bytes_eq}
use Rattle.layout.proofs.View.{label_got, same-columns, no_column}
use Rattle.direct.specs.declared.fit.FitEnd.{FitEnd}
use Rattle.forms.proofs.Read.{ok_eq}
use Rattle.forms.proofs.Comparing.{behind-label, split, Split}
use Rattle.plan.specs.Result.{gives}
use Rattle.plan.specs.Selector.{Selectors}
use Rattle.plan.specs.Check.{column, type_of, types_of}
use Rattle.walk.specs.code.Stands.{SelectorsAt}
use Rattle.walk.proofs.View.{FirstAt, first-at, no_selector, selectors_moved}
use Rattle.index.specs.code.Indexed.{Indexed}
use Rattle.direct.specs.declared.place.Name.{Name}
use Rattle.direct.specs.declared.scope.Scope.{Scope}
use Rattle.direct.specs.code.Fits.{FitAt, FitTo, ColumnFitAt, FitsColumn, FieldsFitAt, FitsFields}
use Rattle.direct.proofs.Fitting.{gives_to}
use Rattle.direct.proofs.Trees.{fields_give}

-- ---- one column

module _ {incoming : Bytes} {v : Edition} {scope : Scope} {index : List ℕ} {stride : ℕ} {plan : Bytes} {at : ℕ} {target : Bytes} {vt : Edition} {bt : ℕ}
    (A : ColumnFitAt incoming v scope index stride plan at target vt bt) {q : Labelled} {l : LabelSpan} {c : Cursor}
    (e : label_res target q ≡ label vt target bt) (f : q ≡ Labelled.Is l c) where
  abbrev pub column_asks : FitAt incoming v scope index stride plan at target vt c.at
  column_asks = record { scoped = A.scoped; selector = A.selector; type = behind-label A.column (label_got target e f); small = A.small }

  pub column_fits : {x y : Cursor} {n : Name} (F : FitTo incoming plan (type_of A.scoped.fields A.selector.tree) A.selector.end
      (dtype_of A.column.inner.tree) A.column.inner.end x y n) {b : Bool}
      → b ≡ same_bytes F.name (span_at target l.name) → b ≡ true → FitsColumn A (FitEnd.At x y)
  column_fits F g h =
      let z : F.name ≡ span_at target l.name = same_bytes_eq _ _ (sym g ∙ h) in
      let w : A.column.label.name ≡ span_at target l.name = ap (λ (x : Label). x.name) (ok_eq (sym A.column.labelled ∙ label_got target e f)).0 in
      record { parts = record { typed = F.typed ∙ ap (λ (n : Bytes). gives (column n (dtype_of A.column.inner.tree))) (z ∙ sym w); ends = F.ends } }

-- ---- the loop over columns

-- after i of n columns, each given by its selector: what the rest gives, the whole gives
pub record Fitting (incoming : Bytes) (v : Edition) (scope : Scope) (index : List ℕ) (stride : ℕ) (plan : Bytes) (n from : ℕ) (target : Bytes) (vt : Edition)
    (from' i at bt : ℕ) : Type 0 where
  pub within : i ≤ n
  pub selectors : SelectorsAt plan (n - i) at
  pub columns : ColumnsAt vt 16 target (n - i) bt
  pub all : (A : FieldsFitAt incoming v scope index stride plan n from target vt from')
      → types_of A.scoped.fields selectors.trees ≡ gives (fields_of columns.columns)
      → types_of A.scoped.fields A.selectors.trees ≡ gives (fields_of A.columns.columns)
  pub ends : (A : FieldsFitAt incoming v scope index stride plan n from target vt from') → (selectors.end ≡ A.selectors.end) ×
      (columns.end ≡ A.columns.end)

same-selectors : {s : Bytes} {n at : ℕ} (P Q : SelectorsAt s n at) → (P.trees ≡ Q.trees) × (P.end ≡ Q.end)
same-selectors P Q = ok_eq (sym P.reads ∙ Q.reads)

module _ {incoming : Bytes} {v : Edition} {scope : Scope} {index : List ℕ} {stride : ℕ} {plan : Bytes} {n from : ℕ} {target : Bytes} {vt : Edition}
    {from' : ℕ} where
  pub fitting-none : FieldsFitAt incoming v scope index stride plan n from target vt from'
      → Fitting incoming v scope index stride plan n from target vt from' 0 from from'
  fitting-none B =
      let e : n - 0 ≡ n = omega arith in
      record {
        within = omega arith;
        selectors = selectors_moved (sym e) refl B.selectors;
        columns = record {
          columns = B.columns.columns;
          end = B.columns.end;
          reads = ap (λ (m : ℕ). columns_of_of vt Free (type vt Free 16) m [] target from') e ∙ B.columns.reads;
        };
        all = λ A h.
            let (a, b) = same-selectors A.selectors B.selectors in
            let (c, d) = same-columns A.columns B.columns in
            ap (λ (ss : Selectors). types_of A.scoped.fields ss) a ∙ h ∙ ap (λ (cs : Columns). gives (fields_of cs)) (sym c);
        ends = λ A. ((same-selectors B.selectors A.selectors).1, (same-columns B.columns A.columns).1);
      }

  module _ {i at bt : ℕ} (C : Fitting incoming v scope index stride plan n from target vt from' i at bt) where
    pub fitting-all : {x y : Cursor} → x.at ≡ at → y.at ≡ bt → n ≤ i → (A : FieldsFitAt incoming v scope index stride plan n from target vt from')
        → FitsFields A (FitEnd.At x y)
    unfolding types_of fields_of
    fitting-all f g h A =
        let z : n - i ≡ 0 = let w = C.within in omega arith in
        let (p, q) = no_selector C.selectors z in
        let (p', q') = no_column C.columns z in
        let (a, b) = C.ends A in
        record {
          parts = record {
            typed = C.all A (ap (λ (ss : Selectors). types_of A.scoped.fields ss) p ∙ ap (λ (cs : Columns). gives (fields_of cs)) (sym p'));
            ends = (f ∙ sym q ∙ a, g ∙ sym q' ∙ b);
          };
        }

    module _ (lt : i < n) where
      abbrev first : FirstAt plan (n - i) at C.selectors
      first = first-at C.selectors (omega arith)

      pub more : n - i ≡ 0 → ⊥
      more z = omega arith

      abbrev next : Split vt 16 target (n - i) bt C.columns
      next = split C.columns more

      -- the next column
      abbrev pub fitting-asks : FieldsFitAt incoming v scope index stride plan n from target vt from'
          → ColumnFitAt incoming v scope index stride plan at target vt bt
      fitting-asks A = record { scoped = A.scoped; selector = first.head; column = next.first; small = A.small }

      pub fitting-more : {r : FitEnd} {x y : Cursor} → ((B : ColumnFitAt incoming v scope index stride plan at target vt bt) → FitsColumn B r)
          → r ≡ FitEnd.At x y → FieldsFitAt incoming v scope index stride plan n from target vt from'
          → Fitting incoming v scope index stride plan n from target vt from' (i + 1) x.at y.at
      unfolding fields_of
      fitting-more {x = x} {y} g h B =
          let k : n - i - 1 ≡ n - (i + 1) = omega arith in
          let (p, q) = (gives_to (g (fitting-asks B)) h).ends in
          record {
            within = omega arith;
            selectors = selectors_moved k (sym p) first.tail;
            columns = record {
              columns = next.tail.columns;
              end = next.tail.end;
              reads = (λ j. columns_of_of vt Free (type vt Free 16) (sym k j) [] target (q j)) ∙ next.tail.reads;
            };
            all = λ A w.
                let G = gives_to (g (fitting-asks A)) h in
                C.all A (ap (λ (ss : Selectors). types_of A.scoped.fields ss) first.is
                ∙ fields_give A.scoped.fields first.head.tree first.tail.trees G.typed w
                ∙ ap (λ (cs : Columns). gives (fields_of cs)) (sym next.is));
            ends = λ A. let (a, b) = C.ends A in (first.ends ∙ a, next.ends ∙ b);
          }

-- ---- a whole plan

abbrev pub plan_asks : {incoming : Bytes} {v : Edition} {n : ℕ} {index : List ℕ} {stride : ℕ} {plan : Bytes} {count : ℕ} {target : Bytes} {vt : Edition} {m : ℕ}
    → (P : ColumnsAt v 16 incoming n 7) → SelectorsAt plan count 7 → ColumnsAt vt 16 target m 7 → Indexed v incoming n 7 stride index
    → 0 < stride → count ≡ m → length target ≤ 16384
    → FieldsFitAt incoming v (Scope.Columns n (record { at = 7 })) index stride plan m 7 target vt 7
plan_asks P S Q I h e l = record {
  scoped = record { fields = fields_of P.columns; parts = record { columns = P; are = refl; indexed = I; strides = h } };
  selectors = selectors_moved e refl S;
  columns = Q;
  small = l;
}
