-- The name of the column that a selector gives: what the functions of src/name.rt answer. Assumes nothing.
use Prim.Native.Nat.{ℕ, zero, suc, ◌+◌, ◌-◌, ◌≤◌, ◌<◌}
use mathlib.Core.Path.{◌≡◌, refl, sym, ap, ◌∙◌, subst}
use mathlib.Core.List.{List, []}
use native.Mathlib.Omega.{arith}
use lib.ListN.{length}
use Rattle.store.specs.code.Overlay.{overlay}
use Rattle.layout.specs.Bytes.{Bytes, AllBytes}
use Rattle.layout.specs.Tree.{DataType, Fields, fnil, fcons}
use Rattle.layout.specs.code.Answers.{span_at, SpanIn}
use Rattle.layout.specs.declared.bytes.Span.{Span}
use Rattle.layout.specs.declared.columns.Position.{Position}
use Rattle.layout.specs.declared.columns.Siblings.TheVariants.{Free}
use Rattle.layout.specs.declared.cursor.Cursor.{Cursor}
use Rattle.layout.specs.declared.edition.Edition.{Edition}
use Rattle.forms.specs.Form.{text_bytes}
use Rattle.forms.specs.code.Readable.{ShortText, ReadableFields}
use Rattle.forms.proofs.Read.{text-stands, type→, columns→}
use Rattle.forms.proofs.ReadBack.{columns-readable}
use Rattle.forms.proofs.Theorems.{read-readable}
use Rattle.forms.proofs.Writing.{span-long}
use Rattle.values.specs.Value.{Value}
use Rattle.plan.specs.Result.{Result, gives}
use Rattle.plan.specs.Selector.{Selector, position, constant}
use Rattle.plan.specs.Check.{Column, column_at, within_limits, cast_fits_of, struct_of, list_of, array_of, resulting, check_cast, check_rename, check_struct}
use Rattle.plan.specs.Check.{check_list, check_array, type_of}
use Rattle.plan.specs.code.Formed.{Formed, f_constant}
use Rattle.plan.proofs.Results.{never_refused, gives_eq, bind_gives, demand-gives}
use Rattle.plan.proofs.ReadBack.{selector_back}
use Rattle.walk.specs.code.Stands.{SelectorAt}
use Rattle.walk.specs.code.Parts.{ConstantAt, CastAt, RenameAt, StructAt, ListAt, ArrayAt, NameIs}
use Rattle.walk.proofs.View.{same-selector, starts-inside}
use Rattle.direct.specs.code.Places.{NameAt}
use Rattle.direct.specs.code.Scopes.{ScopeParts, ScopeAt, TakenIs}
use Rattle.direct.specs.declared.place.Name.{Name}
use Rattle.direct.specs.declared.place.Place.{Place}
use Rattle.direct.specs.declared.scope.Scope.{Scope}
use Rattle.direct.specs.declared.scope.Taken.{Taken}
use Rattle.direct.proofs.Naming.{named-at}
use Rattle.direct.proofs.Scoping.{taken_at}
use Rattle.infer.specs.code.Naming.{NamedTo, NamedIs, NamedBy, StepParts, NameStep}
use Rattle.infer.specs.code.Writing.{Fills}
use Rattle.infer.specs.declared.name.Named.{Named}

-- ---- names are short

none-short : ShortText []
none-short = (omega arith, λ i. omega arith)

pub scope-readable : {s : Bytes} {v : Edition} {scope : Scope} {index : List ℕ} {stride : ℕ} → AllBytes s → (X : ScopeAt s v scope index stride) →
    ReadableFields X.fields
scope-readable {s} {v} {scope} {index} {stride} o X = go scope X.fields X.parts
  where
    go : (x : Scope) (Γ : Fields) → ScopeParts s v x index stride Γ → ReadableFields Γ
    go (Scope.Columns n c) Γ C = subst (λ (fs : Fields). ReadableFields fs) C.are
        (columns-readable o (columns→ v Free s 16 (λ at t e h. type→ v Free s 16 at h) n [] c.at C.columns.reads)).1
    go (Scope.Element c) Γ E = subst (λ (fs : Fields). ReadableFields fs) E.are (none-short, (read-readable v Free 16 s c.at o E.type.reads, tt))

column-short : (Γ : Fields) (k : ℕ) {c : Column} → ReadableFields Γ → column_at Γ k ≡ gives c → ShortText c.name
unfolding column_at
column-short fnil k r e = never_refused e refl
column-short (fcons n t fs) zero r e = subst (λ (c : Column). ShortText c.name) (gives_eq e) r.0
column-short (fcons n t fs) (suc k) r e = column-short fs k r.1.1 e

constant-short : {n : Bytes} {t : DataType} {v : Value} → Formed (constant n t v) → ShortText n
constant-short (f_constant a b c) = a

-- ---- a transform keeps its input's name; a rename has its own

resulting-named : (n : Bytes) (t : DataType) {c : Column} → resulting n t ≡ gives c → c.name ≡ n
unfolding resulting
resulting-named n t e = sym (ap (λ (x : Column). x.name) (gives_eq (demand-gives (within_limits t) 32 _ e).1))

cast-named : (t : DataType) (o : _) (d : Column) {c : Column} → check_cast t o d ≡ gives c → c.name ≡ d.name
unfolding check_cast
cast-named t o d e = resulting-named d.name t (demand-gives (cast_fits_of d.type t o) 32 _ e).1

rename-named : (n : Bytes) (d : Column) {c : Column} → check_rename n d ≡ gives c → c.name ≡ n
unfolding check_rename
rename-named n d e = resulting-named n d.type e

struct-named : (f : Fields → Result Fields) (d : Column) {c : Column} → check_struct f d ≡ gives c → c.name ≡ d.name
unfolding check_struct
struct-named f d e =
    let (fs, p, e) = bind_gives (struct_of d.type) _ e in
    let (gs, q, e) = bind_gives (f fs) _ e in
    resulting-named d.name _ e

list-named : (f : Fields → Result Column) (d : Column) {c : Column} → check_list f d ≡ gives c → c.name ≡ d.name
unfolding check_list
list-named f d e =
    let (t, p, e) = bind_gives (list_of d.type) _ e in
    let (x, q, e) = bind_gives (f _) _ e in
    resulting-named d.name _ e

array-named : (f : Fields → Result Column) (d : Column) {c : Column} → check_array f d ≡ gives c → c.name ≡ d.name
unfolding check_array
array-named f d e =
    let (t, p, e) = bind_gives (array_of d.type) _ e in
    let (x, q, e) = bind_gives (f _) _ e in
    resulting-named d.name _ e

-- ---- one step

module _ {s plan : Bytes} (Γ : Fields) {at : ℕ} {P : SelectorAt plan at} where
  pub position_step : {v : Edition} {k : Position} {q : Taken} {n : Span} {c : Cursor} {m : Name} → ReadableFields Γ → P.tree ≡ position k → TakenIs s
      v (type_of Γ P.tree) q → q ≡ Taken.At n c
      → m ≡ record { place = Place.Incoming; span = n } → NameStep s plan Γ at P (Named.Is m)
  unfolding type_of
  position_step {k = k} {n = n} R p T f e =
      let A = taken_at T f in
      record {
        parts = record {
          name = span_at s n;
          named = named-at s plan Place.Incoming n e A.within;
          short = column-short Γ k.0 R (ap (type_of Γ) (sym p) ∙ A.is);
          is = λ c g. ap (λ (x : Column). x.name) (gives_eq (sym g ∙ A.is));
        };
      }

  pub constant_step : {n : Span} {j : ℕ} {m : Name} → AllBytes plan → ConstantAt plan at P n j → m ≡ record { place = Place.Plan; span = n } → NameStep
      s plan Γ at P (Named.Is m)
  unfolding type_of
  constant_step {n = n} o K e =
      record {
        parts = record {
          name = span_at plan n;
          named = named-at s plan Place.Plan n e K.named;
          short = constant-short (subst (λ (x : Selector). Formed x) K.is (selector_back plan o 64 at P.tree P.end P.reads).formed);
          is = λ c g. sym (ap (λ (x : Column). x.name) (gives_eq (ap (type_of Γ) (sym K.is) ∙ g)));
        };
      }

  pub rename_step : {j : ℕ} {n : Span} {m : Name} → AllBytes plan → (K : RenameAt plan at P j) → NameIs plan K.input.end K.name n → m ≡ record
      { place = Place.Plan; span = n }
      → NameStep s plan Γ at P (Named.Is m)
  unfolding type_of
  rename_step {n = n} o K N e =
      let (a, (b, c)) = text-stands plan K.input.end K.name.reads in
      record {
        parts = record {
          name = span_at plan n;
          named = named-at s plan Place.Plan n e N.within;
          short = subst (λ (x : Bytes). ShortText x) (sym N.is) (b, c o);
          is = λ c g.
              let (d, p, q) = bind_gives (type_of Γ K.input.tree) (check_rename K.name.bytes) (ap (type_of Γ) (sym K.is) ∙ g) in
              rename-named K.name.bytes d q ∙ sym N.is;
        };
      }

  pub cast_step : {c : Cursor} → CastAt plan at P c.at → NameStep s plan Γ at P (Named.Input c)
  unfolding type_of
  cast_step K = record {
    parts = record {
      input = K.input;
      same = λ c g. let (d, p, q) = bind_gives (type_of Γ K.input.tree) _ (ap (type_of Γ) (sym K.is) ∙ g) in (d, p, cast-named _ _ d q);
      starts = K.starts;
    };
  }

  pub struct_step : {c : Cursor} → StructAt plan at P c.at → NameStep s plan Γ at P (Named.Input c)
  unfolding type_of
  struct_step K = record {
    parts = record {
      input = K.input;
      same = λ c g. let (d, p, q) = bind_gives (type_of Γ K.input.tree) _ (ap (type_of Γ) (sym K.is) ∙ g) in (d, p, struct-named _ d q);
      starts = K.starts;
    };
  }

  pub list_step : {c : Cursor} → ListAt plan at P c.at → NameStep s plan Γ at P (Named.Input c)
  unfolding type_of
  list_step K = record {
    parts = record {
      input = K.input;
      same = λ c g. let (d, p, q) = bind_gives (type_of Γ K.input.tree) _ (ap (type_of Γ) (sym K.is) ∙ g) in (d, p, list-named _ d q);
      starts = K.starts;
    };
  }

  pub array_step : {c : Cursor} → ArrayAt plan at P c.at → NameStep s plan Γ at P (Named.Input c)
  unfolding type_of
  array_step K = record {
    parts = record {
      input = K.input;
      same = λ c g. let (d, p, q) = bind_gives (type_of Γ K.input.tree) _ (ap (type_of Γ) (sym K.is) ∙ g) in (d, p, array-named _ d q);
      starts = K.starts;
    };
  }

module _ {s plan : Bytes} {Γ : Fields} {at : ℕ} {P : SelectorAt plan at} {q : Named} (S : NameStep s plan Γ at P q) where
  step-named : {m : Name} → q ≡ Named.Is m → NamedTo s plan (type_of Γ P.tree) m
  step-named e = subst (λ (x : Named). StepParts s plan Γ at P x) e S.parts

  step-input : {c : Cursor} → q ≡ Named.Input c → NamedBy s plan Γ at P c.at
  step-input e = subst (λ (x : Named). StepParts s plan Γ at P x) e S.parts

-- ---- the loop over inputs

-- whatever column the selector at `at` gives, the one at `to` gives one with the same name
pub record Inner (s : Bytes) (v : Edition) (scope : Scope) (index : List ℕ) (stride : ℕ) (plan : Bytes) (at to : ℕ) : Type 0 where
  pub here : SelectorAt plan to
  pub same : (X : ScopeAt s v scope index stride) (P : SelectorAt plan at) (c : Column) → type_of X.fields P.tree ≡ gives c → (d : Column) ×
      (type_of X.fields here.tree ≡ gives d) × (c.name ≡ d.name)

module _ {s : Bytes} {v : Edition} {scope : Scope} {index : List ℕ} {stride : ℕ} {plan : Bytes} {at : ℕ} where
  pub inner_start : SelectorAt plan at → Inner s v scope index stride plan at at
  inner_start Q = record { here = Q; same = λ X P c e. (c, ap (type_of X.fields) (same-selector Q P).0 ∙ e, refl) }

  module _ {to : ℕ} (I : Inner s v scope index stride plan at to) {q : Named} (E : (X : ScopeAt s v scope index stride) (P : SelectorAt plan to) →
      NameStep s plan X.fields to P q) where
    pub inner-named : {m : Name} → q ≡ Named.Is m → (X : ScopeAt s v scope index stride) (P : SelectorAt plan at) → NamedIs s plan
        (type_of X.fields P.tree) (Named.Is m)
    inner-named e X P =
        let N = step-named (E X I.here) e in
        record { parts = record { name = N.name; named = N.named; short = N.short; is = λ c g. let (d, p, h) = I.same X P c g in h ∙ N.is d p } }

    module _ {c : Cursor} (e : q ≡ Named.Input c) (Y : ScopeAt s v scope index stride) where
      pub inner-more : Inner s v scope index stride plan at c.at
      inner-more = record {
        here = (step-input (E Y I.here) e).input;
        same = λ X P a g.
            let (d, p, h) = I.same X P a g in
            let B = step-input (E X I.here) e in
            let (b, r, k) = B.same d p in
            (b, ap (type_of X.fields) (same-selector (step-input (E Y I.here) e).input B.input).0 ∙ r, h ∙ k);
      }

      pub inner-falls : length plan - c.at < length plan - to
      inner-falls = omega (arith, (step-input (E Y I.here) e).starts, starts-inside I.here)

-- ---- writing

pub name-short : {s plan : Bytes} {n : Name} {b : Bytes} → NameAt s plan n b → ShortText b → n.span.len ≤ 63
name-short {n = n} N S = let g = sym (span-long _ n.span N.inside) ∙ ap length N.is in omega (arith, g, S.0)

pub name-written : (t : Bytes) (p : Span) {b : Bytes} (out : Bytes) (k : ℕ) {new : Bytes} → SpanIn t p × (span_at t p ≡ b) → k + 1 + p.len ≤ length out
    → new ≡ overlay out k (text_bytes (span_at t p))
    → (k + 1 + p.len ≡ k + length (text_bytes b)) × Fills (text_bytes b) out k new
unfolding text_bytes
name-written t p out k (h, i) r e =
    let g = sym (span-long t p h) ∙ ap length i in
    (omega arith, record { stored = e ∙ ap (λ (x : Bytes). overlay out k (text_bytes x)) i; room = omega arith })
