-- What holds while the top selectors of a plan are run one after another. Assumes nothing.
use Prim.Native.Nat.{ℕ, ◌+◌, ◌≤◌, ◌<◌}
use mathlib.Core.Path.{◌≡◌, refl, ap, sym, subst, ◌∙◌}
use mathlib.Core.Bool.{Bool, true, false, ◌&&◌}
use mathlib.Core.List.{[], ◌++◌, append-nil, append_assoc}
use native.Mathlib.Omega.{arith}
use lib.ListN.{length}
use Rattle.layout.specs.Bytes.{Bytes, AllBytes}
use Rattle.layout.specs.Limits.{longest}
use Rattle.layout.specs.Tree.{Fields, fields_of}
use Rattle.layout.specs.Layout.{label}
use Rattle.layout.specs.code.Answers.{label_res}
use Rattle.layout.specs.code.Stands.{TypeAt, ColumnsAt}
use Rattle.layout.specs.declared.cursor.Cursor.{Cursor}
use Rattle.layout.specs.declared.columns.ColumnRange.{ColumnRange}
use Rattle.layout.specs.declared.columns.Label.{Label as LabelSpan}
use Rattle.layout.specs.declared.columns.Labelled.{Labelled}
use Rattle.layout.specs.declared.edition.Edition.{Edition}
use Rattle.store.specs.code.Overlay.{overlay}
use Rattle.values.specs.Value.{Value, Values}
use Rattle.values.specs.Encode.{encode_value, encode_values}
use Rattle.plan.specs.Selector.{Selector, Selectors, snil, scons}
use Rattle.plan.specs.Run.{eval, evals, clean, clean_all_of}
use Rattle.walk.proofs.View.{same-selector}
use Rattle.overflow.specs.code.Ranges.{RecordAt}
use Rattle.overflow.specs.code.Overflows.{PlanAt}
use Rattle.overflow.proofs.Columns.{Pairing, no_pair, pair-labelled, next, column-top, pair-more, pair-start}
use Rattle.output.specs.code.Output.{Emits}
use Rattle.output.proofs.Writing.{emits_exact}
use Rattle.run.specs.declared.tops.TopWritten.{TopWritten}
use Rattle.run.specs.declared.tops.TopsWritten.{TopsWritten}
use Rattle.run.specs.code.Tops.{TopIn, TopAnswer, TopIs, TopsAnswer, TopsAre}

-- ---- what an answer says

pub top_to : {x : Value} {e : ℕ} {out : Bytes} {len : ℕ} {r : TopWritten} {new : Bytes} → TopIs x e out len r new → {q : TopWritten} → r ≡ q → TopAnswer
    x e out len q new
top_to {x} {e} {out} {len} {new = new} T q = subst (λ (z : TopWritten). TopAnswer x e out len z new) q T.answer

pub tops-to : {xs : Values} {out : Bytes} {r : TopsWritten} {new : Bytes} → TopsAre xs out r new → {q : TopsWritten} → r ≡ q → TopsAnswer xs out q new
tops-to {xs} {out} {new = new} T q = subst (λ (z : TopsWritten). TopsAnswer xs out z new) q T.answer

-- ---- the first of some selectors

module _ (ρ : Values) (ss : Selectors) {s : Selector} {rs : Selectors} (e : ss ≡ scons s rs) where
  first-clean : clean_all_of (evals ρ ss) ≡ (clean (eval ρ s) && clean_all_of (evals ρ rs))
  unfolding evals clean_all_of
  first-clean = rw e

  first-encoded : encode_values (evals ρ ss) ≡ encode_value (eval ρ s) ++ encode_values (evals ρ rs)
  unfolding evals encode_values
  first-encoded = rw e

module _ (ρ : Values) (ss : Selectors) (e : ss ≡ snil) where
  none-clean : clean_all_of (evals ρ ss) ≡ true
  unfolding evals clean_all_of
  none-clean = rw e

  none-encoded : encode_values (evals ρ ss) ≡ []
  unfolding evals encode_values
  none-encoded = rw e

-- ---- the loop

-- of the selectors ss, those that are left stand beside the columns from i on; what the others gave is written, and its
-- length is len
pub record Topping (plan : Bytes) (Γ : Fields) (ρ : Values) (ss : Selectors) (y : Edition) (tgt : Bytes) (m : ℕ) (out₀ : Bytes) (at to i len : ℕ)
    (out : Bytes) : Type 0 where
  pub pairing : Pairing plan Γ y tgt m at to i
  pub written : Bytes
  pub emits : Emits out₀ 0 written len out
  pub clean : clean_all_of (evals ρ ss) ≡ clean_all_of (evals ρ pairing.selectors.trees)
  pub encoded : encode_values (evals ρ ss) ≡ written ++ encode_values (evals ρ pairing.selectors.trees)

module _ {plan : Bytes} {Γ : Fields} {ρ : Values} {ss : Selectors} {y : Edition} {tgt : Bytes} {m : ℕ} {out₀ : Bytes} {at to i len : ℕ} {out : Bytes}
    (C : Topping plan Γ ρ ss y tgt m out₀ at to i len out) where
  pub topping_all : m ≤ i → TopsAre (evals ρ ss) out₀ (TopsWritten.To len) out
  topping_all h =
      let z = (no_pair C.pairing h).0 in
      let e : C.written ≡ encode_values (evals ρ ss) =
      sym (C.encoded ∙ ap (λ (b : Bytes). C.written ++ b) (none-encoded ρ C.pairing.selectors.trees z) ∙ append-nil C.written) in
      record { answer = (C.clean ∙ none-clean ρ C.pairing.selectors.trees z, subst (λ (b : Bytes). Emits out₀ 0 b len out) e C.emits) }

  module _ (lt : i < m) {q : Labelled} (g : label_res tgt q ≡ label y tgt to) where
    pub topping_labelled : {B : Type 0} {k : ℕ} → q ≡ Labelled.Refused k → B
    topping_labelled h = pair-labelled C.pairing lt g h

    module _ {l : LabelSpan} {e : Cursor} (h : q ≡ Labelled.Is l e) where
      pub topping-type : TypeAt y 16 tgt e.at
      topping-type = (next C.pairing lt g h).field.head

      trees : C.pairing.selectors.trees ≡ scons (next C.pairing lt g h).selector.head.tree (next C.pairing lt g h).selector.tail.trees
      trees = (next C.pairing lt g h).selector.is

      pub topping-found : {new : Bytes} → clean (eval ρ (next C.pairing lt g h).selector.head.tree) ≡ false → TopsAre (evals ρ ss) out₀
          TopsWritten.Overflows new
      topping-found f = record {
        answer = C.clean ∙ first-clean ρ C.pairing.selectors.trees trees
            ∙ ap (λ (b : Bool). b && clean_all_of (evals ρ (next C.pairing lt g h).selector.tail.trees)) f;
      }

      pub topping-more : {c : Cursor} {r : ℕ} {new : Bytes} → length out ≡ length out₀
          → TopAnswer (eval ρ (next C.pairing lt g h).selector.head.tree) (next C.pairing lt g h).selector.head.end out len (TopWritten.To c r) new
          → {u : ℕ} → ((P : TypeAt y 16 tgt e.at) → u ≡ P.end) → Topping plan Γ ρ ss y tgt m out₀ c.at u (i + 1) r new
      unfolding pair-more
      topping-more z (a, b, F) w =
          let N = (next C.pairing lt g h).selector in
          let x = encode_value (eval ρ N.head.tree) in
          let rest = evals ρ N.tail.trees in
          record {
            pairing = pair-more C.pairing lt g h (λ P. a ∙ (same-selector N.head P).1) w;
            written = C.written ++ x;
            emits = F.emits out₀ C.written z C.emits;
            clean = C.clean ∙ first-clean ρ C.pairing.selectors.trees trees ∙ ap (λ (t : Bool). t && clean_all_of rest) b;
            encoded = C.encoded ∙ ap (λ (t : Bytes). C.written ++ t) (first-encoded ρ C.pairing.selectors.trees trees)
                ∙ sym (append_assoc C.written x (encode_values rest));
          }

-- of all that stand there
abbrev pub Toppings : Bytes → ColumnRange → Bytes → Bytes → Bytes → Edition → ℕ → ℕ → Bytes → ℕ → ℕ → ℕ → ℕ → Bytes → Type 0
Toppings lay columns rec plan tgt y m target out₀ at to i len out =
    (X : RecordAt lay columns rec) (D : ColumnsAt y 16 tgt m target) (P : PlanAt plan 7 (fields_of X.columns.columns) (fields_of D.columns))
    → Topping plan (fields_of X.columns.columns) X.values.values P.selectors.trees y tgt m out₀ at to i len out

pub toppings_none : (lay : Bytes) (columns : ColumnRange) (rec plan tgt : Bytes) (y : Edition) (m target : ℕ) (out : Bytes) → AllBytes plan
    → Toppings lay columns rec plan tgt y m target out 7 target 0 0 out
unfolding pair-start overlay
toppings_none lay columns rec plan tgt y m target out p X D P = record {
  pairing = pair-start p D P;
  written = [];
  emits = emits_exact out 0 [] refl refl;
  clean = refl;
  encoded = refl;
}

-- the next of them
module _ {lay : Bytes} {columns : ColumnRange} {rec plan tgt : Bytes} {y : Edition} {m target : ℕ} {out₀ : Bytes} {at to i len : ℕ} {out : Bytes}
    (T : Toppings lay columns rec plan tgt y m target out₀ at to i len out) (short : length rec ≤ longest) (lt : i < m) {q : Labelled}
    (g : label_res tgt q ≡ label y tgt to) {l : LabelSpan} {e : Cursor} (h : q ≡ Labelled.Is l e) where
  module _ (X : RecordAt lay columns rec) (D : ColumnsAt y 16 tgt m target) (P : PlanAt plan 7 (fields_of X.columns.columns) (fields_of D.columns)) where
    unfoldable pub toppings_in : TopIn lay columns rec plan tgt (record {
      selector = record { at = at };
      len = len;
      column = record { edition = y; depth = 16; at = e };
    })
    unfolding column-top
    toppings_in = record {
      row = X;
      selector = column-top (T X D P).pairing lt g h;
      type = (next (T X D P).pairing lt g h).field.head;
      is = refl;
      deep = omega arith;
      short = short;
    }

    module _ {r : TopWritten} {new : Bytes}
        (f : TopIs (eval toppings_in.row.values.values toppings_in.selector.here.tree) toppings_in.selector.here.end out len r new) where
      pub toppings-found : r ≡ TopWritten.Overflows → {o : Bytes} → TopsAre (evals X.values.values P.selectors.trees) out₀ TopsWritten.Overflows o
      unfolding toppings_in column-top
      toppings-found k = topping-found (T X D P) lt g h (top_to f k)

      pub toppings-more : {c : Cursor} {s : ℕ} → r ≡ TopWritten.To c s → length out ≡ length out₀
          → {u : ℕ} → ((Q : TypeAt y 16 tgt e.at) → u ≡ Q.end)
          → Topping plan (fields_of X.columns.columns) X.values.values P.selectors.trees y tgt m out₀ c.at u (i + 1) s new
      unfolding toppings_in column-top
      toppings-more k z w = topping-more (T X D P) lt g h z (top_to f k) w
