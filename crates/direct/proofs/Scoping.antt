-- What the functions of src/scope.rt answer on each way. Assumes nothing.
use Prim.Native.Nat.{ℕ, zero, suc, ◌+◌}
use mathlib.Core.Path.{◌≡◌, refl, sym, ap, ◌∙◌, subst}
use mathlib.Core.List.{List}
use native.Mathlib.Omega.{arith}
use lib.Dec.{eqb}
use borrow.Author.Tests.{eq-eqb, ne_eqb}
use Rattle.layout.specs.Bytes.{Bytes}
use Rattle.layout.specs.Parser.{choose}
use Rattle.layout.specs.Tree.{Label, ColumnType, Columns, cnil, ccons, Fields, dtype_of, fields_of}
use Rattle.layout.specs.code.Stands.{TypeAt}
use Rattle.layout.specs.Find.{Lookup, absent, present, find_from, column_at as lookupAt}
use Rattle.layout.specs.code.Finding.{Finds}
use Rattle.layout.specs.declared.bytes.Span.{Span}
use Rattle.layout.specs.declared.columns.Position.{Position}
use Rattle.layout.specs.declared.cursor.Cursor.{Cursor}
use Rattle.layout.specs.declared.find.Found.{Found}
use Rattle.layout.specs.declared.edition.Edition.{Edition}
use Rattle.layout.proofs.Ways.{clash}
use Rattle.plan.specs.Result.{Result, gives}
use Rattle.plan.specs.Selector.{Selector, position}
use Rattle.plan.specs.Check.{Column, column, column_at, element_of, type_of}
use Rattle.direct.specs.declared.scope.Scope.{Scope}
use Rattle.direct.specs.declared.scope.Taken.{Taken}
use Rattle.direct.specs.code.Scopes.{ColumnsAre, ElementIs, ScopeParts, ScopeAt, taken_from, TakenAt, TakenParts, TakenIs}

-- ---- the lookup by position

looked_up : (k : Position) (cs : Columns) (i j : ℕ) {p : Position} {l : Label} {t : ColumnType} → i + j ≡ k.0 → find_from (λ i l. eqb i k.0) i cs ≡
    present p l t
    → column_at (fields_of cs) j ≡ gives (column l.name (dtype_of t))
unfolding find_from column_at fields_of choose
looked_up k cnil i j e h = clash (cc)
looked_up k (ccons m u cs) i zero {p} {l} {t} e h =
    let q : present (record { 0 = i }) m u ≡ present p l t = rw (eq-eqb i k.0 (omega arith)) at h in
    let a : m ≡ l = cc in
    let b : u ≡ t = cc in
    λ i. gives (column (a i).name (dtype_of (b i)))
looked_up k (ccons m u cs) i (suc j) e h = looked_up k cs (i + 1) j (omega arith) (rw (ne_eqb i k.0 (λ q. omega arith)) at h)

-- ---- answers

module _ {s : Bytes} {v : Edition} {r : Result Column} {q : Taken} where
  taken_as : {x : Taken} → q ≡ x → TakenParts s v r x → TakenIs s v r q
  taken_as e p = record { parts = subst (λ (y : Taken). TakenParts s v r y) (sym e) p }

  -- what a caller gets from an answer
  pub taken_at : TakenIs s v r q → {n : Span} {c : Cursor} → q ≡ Taken.At n c → TakenAt s v r n c.at
  taken_at T e = subst (λ (y : Taken). TakenParts s v r y) e T.parts

  pub taken_of : {r' : Result Column} → r ≡ r' → TakenIs s v r q → TakenIs s v r' q
  taken_of e T = subst (λ (y : Result Column). TakenIs s v y q) e T

pub nothing-taken : {s : Bytes} {v : Edition} {r : Result Column} → TakenIs s v r Taken.Absent
nothing-taken = record { parts = tt }

pub column-taken : {v : Edition} {s : Bytes} {n from : ℕ} {index : List ℕ} {stride : ℕ} {Γ : Fields} (C : ColumnsAre s v n from index stride Γ)
    (k : Position) (f : Found) {r : Taken} → Finds v 16 s (lookupAt k C.columns.columns) f → r ≡ taken_from f
    → TakenIs s v (column_at Γ k.0) r
column-taken {v} {s} {Γ = Γ} C k f {r} F e = go (lookupAt k C.columns.columns) refl F
  where
    go : (x : Lookup) → lookupAt k C.columns.columns ≡ x → Finds v 16 s x f → TakenIs s v (column_at Γ k.0) r
    go absent q F = taken_as (e ∙ ap taken_from F) tt
    go (present p l t) q F = taken_as (e ∙ ap taken_from F.is) (record {
      within = F.inside;
      type = record { tree = t; end = F.end; reads = F.reads };
      is = ap (λ (fs : Fields). column_at fs k.0) (sym C.are) ∙ looked_up k C.columns.columns 0 k.0 (omega arith) q
          ∙ ap (λ (b : Bytes). gives (column b (dtype_of t))) (sym (ap (λ (x : Label). x.name) F.label));
    })

module _ {v : Edition} {s : Bytes} {c : Cursor} (T : TypeAt v 16 s c.at) (k : Position) where
  pub element-taken : k.0 ≡ 0 → TakenIs s v (column_at (element_of (dtype_of T.tree)) k.0) (Taken.At (record { start = 0; len = 0 }) c)
  unfolding column_at
  element-taken e = record { parts = record { within = omega arith; type = T; is = ap (λ (i : ℕ). column_at (element_of (dtype_of T.tree)) i) e } }

-- ---- scopes

module _ {s : Bytes} {v : Edition} {scope : Scope} {index : List ℕ} {stride : ℕ} (X : ScopeAt s v scope index stride) where
  in_scope : {x : Scope} → scope ≡ x → ScopeParts s v x index stride X.fields
  in_scope e = subst (λ (y : Scope). ScopeParts s v y index stride X.fields) e X.parts

  pub scope-columns : {n : ℕ} {c : Cursor} → scope ≡ Scope.Columns n c → ColumnsAre s v n c.at index stride X.fields
  scope-columns e = in_scope e

  pub scope-element : {c : Cursor} → scope ≡ Scope.Element c → ElementIs s v c.at X.fields
  scope-element e = in_scope e

pub in_element_lem : {s : Bytes} {v : Edition} {at : ℕ} {Γ : Fields} {r : Taken} (E : ElementIs s v at Γ) (k : Position) → TakenIs s v
    (column_at (element_of (dtype_of E.type.tree)) k.0) r → TakenIs s v (column_at Γ k.0) r
in_element_lem {s} {v} {r = r} E k T = subst (λ (fs : Fields). TakenIs s v (column_at fs k.0) r) E.are T

pub position_taken : {s : Bytes} {v : Edition} (Γ : Fields) {x : Selector} {k : Position} {r : Taken} → x ≡ position k → TakenIs s v (column_at Γ k.0)
    r → TakenIs s v (type_of Γ x) r
unfolding type_of
position_taken {s} {v} Γ {r = r} e T = subst (λ (y : Selector). TakenIs s v (type_of Γ y) r) (sym e) T
