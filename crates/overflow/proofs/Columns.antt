-- A plan's selectors beside the target's columns, one after the other; one selector's column. Assumes nothing.
use Prim.Native.Nat.{ℕ, ◌+◌, ◌-◌, ◌≤◌, ◌<◌}
use mathlib.Core.Path.{◌≡◌, refl, sym, ap, ◌∙◌, subst}
use mathlib.Core.Bool.{Bool, not}
use mathlib.Core.List.{[]}
use native.Mathlib.Omega.{arith}
use lib.ListN.{length}
use Rattle.layout.specs.Bytes.{Bytes, AllBytes}
use Rattle.layout.specs.Tree.{DataType, Fields, fnil, fcons, cnil, dtype_of, fields_of}
use Rattle.layout.specs.Layout.{label, columns as columns_of_of, type}
use Rattle.layout.specs.code.Answers.{label_res, label_at}
use Rattle.layout.specs.code.Stands.{TypeAt, ColumnsAt}
use Rattle.layout.specs.declared.cursor.Cursor.{Cursor}
use Rattle.layout.specs.declared.columns.Label.{Label as LabelSpan}
use Rattle.layout.specs.declared.columns.Labelled.{Labelled}
use Rattle.layout.specs.declared.columns.Siblings.TheVariants.{Free}
use Rattle.layout.specs.declared.edition.Edition.{Edition}
use Rattle.layout.proofs.Ways.{clash}
use Rattle.layout.proofs.View.{FirstAt, first-at, first-labelled, no_column}
use Rattle.plan.specs.Selector.{Selector, Selectors, snil, scons, count_selectors}
use Rattle.plan.specs.Check.{column}
use Rattle.plan.specs.Read.{longest_plan, selectors as selectorsOf, selector, deepest_selector}
use Rattle.plan.specs.Run.{eval, clean}
use Rattle.plan.proofs.Typed.{Typed, TypedAll, t_nil, t_cons, typed→check, check→typed, passed→typed}
use Rattle.plan.proofs.Preserve.{eval-over}
use Rattle.plan.proofs.ReadBack.{selector_back, selectors-read}
use Rattle.nodes.specs.code.Raw.{RowAt}
use Rattle.walk.specs.code.Stands.{SelectorAt, SelectorsAt}
use Rattle.walk.proofs.View.{FirstAt as FirstOf, first-at as first_of_lem, selectors-counted}
use Rattle.overflow.specs.code.Want.{overflowing}
use Rattle.overflow.specs.code.Some.{some}
use Rattle.overflow.specs.code.Leaves.{leaves}
use Rattle.overflow.specs.code.Overflows.{TopAt, PlanAt}
use Rattle.overflow.proofs.Clean.{unclean}
use Rattle.overflow.proofs.Seeking.{row-over, formed_at}

-- the first of selectors that give columns
typed-first : {Γ : Fields} {ss : Selectors} {n : Bytes} {t : DataType} {fs Δ : Fields} → Δ ≡ fcons n t fs → TypedAll Γ ss Δ → (s : Selector) ×
    (rs : Selectors) × (ss ≡ scons s rs) × Typed Γ s n t × TypedAll Γ rs fs
typed-first e t_nil = clash (cc)
typed-first {Γ} {n = n} {t = t} {fs = fs} e (t_cons {s = s} {ss = rs} {n = m} {t = u} {fs = gs} d ds) =
    let a : m ≡ n = cc in
    let b : u ≡ t = cc in
    let c : gs ≡ fs = cc in
    (s, rs, refl, subst (λ (x : DataType). Typed Γ s n x) b (subst (λ (x : Bytes). Typed Γ s x u) a d), subst (λ (x : Fields). TypedAll Γ rs x) c ds)

typed-none : {Γ : Fields} {ss : Selectors} {Δ : Fields} → Δ ≡ fnil → TypedAll Γ ss Δ → ss ≡ snil
typed-none e t_nil = refl
typed-none e (t_cons d ds) = clash (cc)

counted : (ss : Selectors) {s : Selector} {rs : Selectors} {n : ℕ} → ss ≡ scons s rs → count_selectors ss ≡ n → 0 < n
unfolding count_selectors
counted ss e h = let k = sym (ap count_selectors e) ∙ h in omega arith

-- a plan's selectors beside the target's columns, of which those from i on are left
pub record Pairing (plan : Bytes) (Γ : Fields) (y : Edition) (tgt : Bytes) (m at to i : ℕ) : Type 0 where
  pub within : i ≤ m
  pub small : length plan ≤ longest_plan
  pub bytes : AllBytes plan
  pub count : ℕ
  pub selectors : SelectorsAt plan count at
  pub columns : ColumnsAt y 16 tgt (m - i) to
  pub typed : TypedAll Γ selectors.trees (fields_of columns.columns)

module _ {plan : Bytes} {Γ : Fields} {y : Edition} {tgt : Bytes} {m at to i : ℕ} (C : Pairing plan Γ y tgt m at to i) where
  pub no_pair : m ≤ i → (C.selectors.trees ≡ snil) × (C.columns.columns ≡ cnil)
  unfolding fields_of
  no_pair h =
      let z = (no_column C.columns (omega arith)).0 in
      (typed-none (ap fields_of z) C.typed, z)

  module _ (lt : i < m) {q : Labelled} (g : label_res tgt q ≡ label y tgt to) where
    pub pair-labelled : {B : Type 0} {k : ℕ} → q ≡ Labelled.Refused k → B
    pair-labelled h = first-labelled C.columns (λ z. absurd (omega arith)) g h

    module _ {l : LabelSpan} {e : Cursor} (h : q ≡ Labelled.Is l e) where
      -- the first column that is left, and its selector
      pub record Next : Type 0 where
        pub field : FirstAt y 16 tgt (m - i) to C.columns (label_at tgt l) e.at
        pub selector : FirstOf plan C.count at C.selectors
        pub typed : Typed Γ selector.head.tree (label_at tgt l).name (dtype_of field.head.tree)
        pub rest : TypedAll Γ selector.tail.trees (fields_of field.tail.columns)

      pub next : Next
      unfolding fields_of
      next =
          let A = first-at C.columns (λ z. absurd (omega arith)) g h in
          let (s, rs, k, d, ds) = typed-first (ap fields_of A.is) C.typed in
          let F = first_of_lem C.selectors (counted C.selectors.trees k (selectors-counted C.count C.selectors)) in
          let z : scons s rs ≡ scons F.head.tree F.tail.trees = sym k ∙ F.is in
          let a : s ≡ F.head.tree = cc in
          let b : rs ≡ F.tail.trees = cc in
          record {
            field = A;
            selector = F;
            typed = subst (λ (x : Selector). Typed Γ x (label_at tgt l).name (dtype_of A.head.tree)) a d;
            rest =
                subst (λ (x : Selectors). TypedAll Γ x (fields_of A.tail.columns)) b ds;
          }

      unfoldable pub column-top : TopAt plan at Γ
      column-top =
          let N = next in
          let P = N.selector.head in
          record {
            here = P;
            ends = (selector_back plan C.bytes 64 at P.tree P.end P.reads).stands.within;
            small = C.small;
            column = column (label_at tgt l).name (dtype_of N.field.head.tree);
            passes = typed→check N.typed;
          }

      pub column_type : TypeAt y 16 tgt e.at
      column_type = next.field.head

      -- the others
      unfoldable pub pair-more : {o u : ℕ} → ((P : SelectorAt plan at) → o ≡ P.end) → ((P : TypeAt y 16 tgt e.at) → u ≡ P.end) → Pairing plan Γ y
          tgt m o u (i + 1)
      pair-more {o} {u} f w =
          let N = next in
          let A = N.field in
          let F = N.selector in
          let j : m - (i + 1) ≡ m - i - 1 = omega arith in
          record {
            within = omega arith;
            small = C.small;
            bytes = C.bytes;
            count = C.count - 1;
            selectors = record {
              trees = F.tail.trees;
              end = F.tail.end;
              reads = ap
                  (λ (z : ℕ). selectorsOf (selector deepest_selector) (C.count - 1) plan z) (f F.head) ∙ F.tail.reads;
            };
            columns = record {
              columns = A.tail.columns;
              end = A.tail.end;
              reads = ap (λ (n : ℕ). columns_of_of y Free (type y Free 16) n [] tgt u) j ∙ ap
                  (λ (z : ℕ). columns_of_of y Free (type y Free 16) (m - i - 1) [] tgt z) (w A.head) ∙ A.tail.reads;
            };
            typed = N.rest;
          }

unfoldable pub pair-start : {plan : Bytes} {first : ℕ} {Γ : Fields} {y : Edition} {tgt : Bytes} {m target : ℕ} → AllBytes plan →
    (D : ColumnsAt y 16 tgt m target)
    → PlanAt plan first Γ (fields_of D.columns) → Pairing plan Γ y tgt m first target 0
pair-start {plan} {first} {y = y} {tgt} {m} {target} p D P = record {
  within = omega arith;
  small = P.small;
  bytes = p;
  count = P.count;
  selectors = P.selectors;
  columns = record {
    columns = D.columns;
    end = D.end;
    reads = ap (λ (k : ℕ). columns_of_of y Free (type y Free 16) k [] tgt target)
        (let e : m - 0 ≡ m = omega arith in e) ∙ D.reads;
  };
  typed = passed→typed (selectors-read plan p deepest_selector P.count first P.starts P.selectors.reads).formed P.passes;
}

-- ---- one selector's column

pub top_unclean : {v : Edition} {lay : Bytes} {n columns : ℕ} {rec plan : Bytes} {at : ℕ} {t : DataType} {r : Bool} → AllBytes rec → AllBytes plan
    → (X : RowAt v lay n columns rec 0) (T : TopAt plan at (fields_of X.columns.columns)) → T.column.type ≡ t
    → r ≡ leaves t (λ p u. some (overflowing u) p (eval X.values.values T.here.tree)) → r ≡ not (clean (eval X.values.values T.here.tree))
top_unclean o p X T e g =
    let Γ = fields_of X.columns.columns in
    let d = subst (λ (u : DataType). Typed Γ T.here.tree T.column.name u) e (check→typed (formed_at p T.here) T.passes) in
    g ∙ unclean (eval-over d (row-over o X))
