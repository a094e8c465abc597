-- Columns that are written one behind another, as their selectors give them. Assumes nothing.
use Prim.Native.Nat.{ℕ, suc, ◌+◌, ◌-◌, ◌≤◌, ◌<◌}
use mathlib.Core.Path.{◌≡◌, refl, sym, ap, subst, ◌∙◌}
use mathlib.Core.List.{List}
use native.Mathlib.Omega.{arith}
use native.Mathlib.Nat.{add-zero}
use lib.ListN.{length}
use Rattle.store.specs.code.Overlay.{overlay}
use Rattle.store.proofs.Overlay.{length-overlay}
use Rattle.layout.specs.Bytes.{Bytes}
use Rattle.layout.specs.Tree.{Fields, fnil, fcons, count_fields}
use Rattle.layout.specs.declared.cursor.Cursor.{Cursor}
use Rattle.layout.specs.declared.edition.Edition.{Edition}
use Rattle.forms.specs.Form.{form_fields}
use Rattle.forms.specs.Depth.{depth_of_fields}
use Rattle.forms.proofs.Read.{ok_eq}
use Rattle.plan.specs.Result.{Result}
use Rattle.plan.specs.Selector.{Selector, Selectors, snil, scons}
use Rattle.plan.specs.Check.{type_of, types_of}
use Rattle.walk.specs.code.Stands.{SelectorAt, SelectorsAt}
use Rattle.walk.proofs.View.{FirstAt, first-at, no_selector, selectors_moved}
use Rattle.direct.specs.code.Scopes.{ScopeAt}
use Rattle.direct.specs.declared.scope.Scope.{Scope}
use Rattle.direct.proofs.Trees.{fields_give}
use Rattle.infer.specs.code.Writing.{ColumnTo, ColumnIs, FieldsTo, FieldsIs}
use Rattle.infer.specs.declared.form.Inferred.{Inferred}
use Rattle.infer.proofs.Behind.{fields-writes}
use Rattle.infer.proofs.Transforms.{column-to}

-- no column
fields_end : (Γ : Fields) (depth : ℕ) (out : Bytes) (k : ℕ) → k ≤ length out → FieldsTo (types_of Γ snil) 0 depth out k 0 out
unfolding types_of overlay form_fields depth_of_fields count_fields
fields_end Γ depth out k h = record {
  fields = fnil;
  typed = refl;
  counted = refl;
  writes = record
      { stored = refl; long = refl; room = omega arith; deep = omega arith; readable = tt };
}

-- a column and the columns behind it
fields-more : (Γ : Fields) (s : Selector) (ss : Selectors) {m depth : ℕ} {out : Bytes} {k a b : ℕ} {o o' : Bytes} → ColumnTo (type_of Γ s) depth out k a
    o → FieldsTo (types_of Γ ss) m depth o (k + a) b o'
    → FieldsTo (types_of Γ (scons s ss)) (suc m) depth out k (a + b) o'
unfolding count_fields
fields-more Γ s ss C F = record {
  fields = fcons C.name C.type F.fields;
  typed = fields_give Γ s ss C.typed F.typed;
  counted = ap suc F.counted;
  writes = fields-writes C.writes F.writes;
}

fields_as : {r r' : Result Fields} {m m' depth : ℕ} {out : Bytes} {k k' a a' : ℕ} {o : Bytes} → r ≡ r' → m ≡ m' → k ≡ k' → a ≡ a' → FieldsTo r m depth
    out k a o → FieldsTo r' m' depth out k' a' o
fields_as {r} {r'} {m} {m'} {depth} {out} {k} {k'} {a} {a'} {o} e f g h F =
    subst (λ (x : Result Fields). FieldsTo x m' depth out k' a' o) e (subst (λ (x : ℕ). FieldsTo r x depth out k' a' o) f
    (subst (λ (x : ℕ). FieldsTo r m depth out x a' o) g (subst (λ (x : ℕ). FieldsTo r m depth out k x o) h F)))

same-selectors : {s : Bytes} {n at : ℕ} (P Q : SelectorsAt s n at) → (P.trees ≡ Q.trees) × (P.end ≡ Q.end)
same-selectors P Q = ok_eq (sym P.reads ∙ Q.reads)

-- ---- the loop over selectors

-- after i of n selectors, whose columns stand from k up to at: what the rest gives and writes, the whole gives and
-- writes
pub record Gathering (s : Bytes) (v : Edition) (scope : Scope) (index : List ℕ) (stride : ℕ) (plan : Bytes) (n depth : ℕ) (out₀ : Bytes) (k first : ℕ)
    (out : Bytes) (from at i : ℕ) : Type 0 where
  pub within : i ≤ n
  pub over : k ≤ at
  pub room : at ≤ length out
  pub kept : length out ≡ length out₀
  pub left : SelectorsAt plan (n - i) from
  pub all : (X : ScopeAt s v scope index stride) (S : SelectorsAt plan n first) (len : ℕ) (new : Bytes) → FieldsTo (types_of X.fields left.trees)
      (n - i) depth out at len new
      → FieldsTo (types_of X.fields S.trees) n depth out₀ k (at - k + len) new

module _ {s : Bytes} {v : Edition} {scope : Scope} {index : List ℕ} {stride : ℕ} {plan : Bytes} {n depth : ℕ} {out₀ : Bytes} {k first : ℕ} where
  pub gathering_none : SelectorsAt plan n first → k ≤ length out₀ → Gathering s v scope index stride plan n depth out₀ k first out₀ first k 0
  gathering_none Q h =
      let e : n - 0 ≡ n = omega arith in
      record {
        within = omega arith;
        over = omega arith;
        room = h;
        kept = refl;
        left = selectors_moved (sym e) refl Q;
        all = λ X S len new F. fields_as (ap (λ (ss : Selectors). types_of X.fields ss) (same-selectors Q S).0) e refl
            (let z : len ≡ k - k + len = omega arith in z) F;
      }

  module _ {out : Bytes} {from at i : ℕ} (G : Gathering s v scope index stride plan n depth out₀ k first out from at i) where
    pub gathering_all : n ≤ i → (X : ScopeAt s v scope index stride) (S : SelectorsAt plan n first) → FieldsIs (types_of X.fields S.trees) n depth
        out₀ k (Inferred.Is (at - k)) out
    gathering_all h X S =
        let z : n - i ≡ 0 = let w = G.within in omega arith in
        let (p, q) = no_selector G.left z in
        let F = fields_as (ap (λ (ss : Selectors). types_of X.fields ss) (sym p)) (sym z) refl refl (fields_end X.fields depth out at G.room) in
        record { parts = fields_as refl refl refl (add-zero (at - k)) (G.all X S 0 out F) }

    module _ (lt : i < n) where
      abbrev next : FirstAt plan (n - i) from G.left
      next = first-at G.left (omega arith)

      pub gathering-head : SelectorAt plan from
      gathering-head = next.head

      module _ {q : Inferred} {len : ℕ} {new : Bytes} (g : (X : ScopeAt s v scope index stride) (P : SelectorAt plan from) → ColumnIs
          (type_of X.fields P.tree) depth out at q new) (f : q ≡ Inferred.Is len) where
        -- the next column ends inside the buffer
        pub gathering-inside : ScopeAt s v scope index stride → at + len ≤ length out
        gathering-inside X = (column-to (g X next.head) f).writes.room

        pub gathering-more : ScopeAt s v scope index stride → {e : Cursor} → ((P : SelectorAt plan from) → e.at ≡ P.end) → Gathering s v scope index
            stride plan n depth out₀ k first new e.at (at + len) (i + 1)
        gathering-more B {e} w =
            let z : n - i - 1 ≡ n - (i + 1) = omega arith in
            let y : suc (n - (i + 1)) ≡ n - i = omega arith in
            let c = (column-to (g B next.head) f).writes in
            let l : length new ≡ length out = ap (λ (x : Bytes). length x) c.stored ∙ length-overlay out at _ in
            let r = c.room in
            let ov = G.over in
            record {
              within = omega arith;
              over = omega arith;
              room = omega arith;
              kept = l ∙ G.kept;
              left = selectors_moved z (sym (w next.head)) next.tail;
              all = λ X S b new' F.
                  fields_as refl refl refl (let u : at - k + (len + b) ≡ at + len - k + b = omega arith in u)
                  (G.all X S (len + b) new' (fields_as (ap (λ (ss : Selectors). types_of X.fields ss) (sym next.is)) y refl refl
                  (fields-more X.fields next.head.tree next.tail.trees (column-to (g X next.head) f) F)));
            }
