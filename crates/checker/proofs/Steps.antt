-- A walk through selectors that passed the check keeps the type where it stands, and where it stops a path is left only
-- of a column, a constant or a cast. Assumes nothing.
use Prim.Native.Nat.{ℕ, zero, suc, ◌≤◌, ◌<◌}
use mathlib.Core.Path.{◌≡◌, refl, sym, ap, ◌∙◌, subst}
use mathlib.Core.List.{List, [], ◌∷◌}
use native.Mathlib.Omega.{arith}
use Rattle.layout.specs.Bytes.{Bytes}
use Rattle.layout.specs.Tree.{DataType, struct, list, array, Fields}
use Rattle.layout.specs.declared.columns.Position.{Position}
use Rattle.layout.proofs.Ways.{clash}
use Rattle.plan.specs.Result.{gives}
use Rattle.plan.specs.Selector.{Selector, position, rename, struct_mapping, list_mapping, array_mapping, Selectors, count_selectors}
use Rattle.plan.specs.Check.{Column, column, column_at, element_of, type_of}
use Rattle.plan.specs.Reach.{SelectorAt as Nth}
use Rattle.plan.proofs.Results.{never_refused, gives_eq}
use Rattle.walk.specs.code.State.{Frame, fields, element, State, state}
use Rattle.walk.specs.code.Moves.{Moves, m_here, m_rename, m_field, m_list, m_array, m_leave, m_leave-element}
use Rattle.walk.specs.code.Types.{ScopeOf, c_fields, c_list, c_array, Along, a_field, a_list_lem, a_array, Gives}
use Rattle.checker.proofs.Given.{rename-gives, struct-gives, list-gives, array-gives, part_gives, types_count, column-below}

-- ---- along a path

pub record FieldAlong (fs : Fields) (k : ℕ) (p : List ℕ) (u : DataType) : Type 0 where
  pub column : Column
  pub found : column_at fs k ≡ gives column
  pub along : Along column.type p u

pub along-field : {t u : DataType} {fs : Fields} {k : ℕ} {p : List ℕ} → t ≡ struct fs → Along t (k ∷ p) u → FieldAlong fs k p u
along-field {fs = fs} {k = k} e (a_field {fs = gs} {c = c} h a) = let q : gs ≡ fs = cc in record
    { column = c; found = ap (λ (x : Fields). column_at x k) (sym q) ∙ h; along = a }
along-field e (a_list_lem a) = clash (cc)
along-field e (a_array a) = clash (cc)

pub along-list : {t u v : DataType} {k : ℕ} {p : List ℕ} → t ≡ list v → Along t (k ∷ p) u → Along v p u
along-list e (a_field h a) = clash (cc)
along-list {u = u} {v = v} {p = p} e (a_list_lem {t = t} a) = let q : t ≡ v = cc in subst (λ (x : DataType). Along x p u) q a
along-list e (a_array a) = clash (cc)

pub along-array : {t u v : DataType} {w k : ℕ} {p : List ℕ} → t ≡ array w v → Along t (k ∷ p) u → Along v p u
along-array e (a_field h a) = clash (cc)
along-array e (a_list_lem a) = clash (cc)
along-array {u = u} {v = v} {p = p} e (a_array {t = t} a) = let q : t ≡ v = cc in subst (λ (x : DataType). Along x p u) q a

along_of : {t u v : DataType} {p : List ℕ} → t ≡ v → Along t p u → Along v p u
along_of {u = u} {p = p} e a = subst (λ (x : DataType). Along x p u) e a

type_of_lem : {c d : Column} → c ≡ d → c.type ≡ d.type
type_of_lem e = ap (λ (x : Column). x.type) e

-- the element of a list or an array
pub element-is : {t : DataType} {k : ℕ} {c : Column} → column_at (element_of t) k ≡ gives c → (k ≡ 0) × (c ≡ column [] t)
unfolding column_at
element-is {k = zero} e = (refl, sym (gives_eq e))
element-is {k = suc k} e = never_refused e refl

-- ---- one move

module _ {Γ : Fields} {E : List Frame} {t : DataType} where
  pub rename_step : {s : Selector} {n : Bytes} {p : List ℕ} → Gives Γ (state (rename s n) E p) t → Gives Γ (state s E p) t
  rename_step G =
      let R = rename-gives G.passes in
      record { scope = G.scope; column = R.input; scoped = G.scoped; passes = R.passes; along = along_of (type_of_lem R.is) G.along }

  pub field_step : {s x : Selector} {ss : Selectors} {k : ℕ} {p : List ℕ} → Nth ss k x → Gives Γ (state (struct_mapping s ss) E (k ∷ p)) t → Gives Γ
      (state x (fields s ∷ E) p) t
  field_step h G =
      let R = struct-gives G.passes in
      let A = along-field (type_of_lem R.is) G.along in
      let P = part_gives h R.parts in
      record {
        scope = R.scope;
        column = P.column;
        scoped = c_fields G.scoped R.passes R.kind;
        passes = P.passes;
        along = along_of (type_of_lem (gives_eq (sym A.found ∙ P.found))) A.along;
      }

  pub list_step : {s e : Selector} {k : ℕ} {p : List ℕ} → Gives Γ (state (list_mapping s e) E (k ∷ p)) t → Gives Γ (state e (element s k ∷ E) p) t
  list_step G =
      let R = list-gives G.passes in
      record {
        scope = element_of R.from;
        column = R.element;
        scoped = c_list G.scoped R.passes R.kind;
        passes = R.part;
        along = along-list (type_of_lem R.is) G.along;
      }

  pub array_step : {s e : Selector} {k : ℕ} {p : List ℕ} → Gives Γ (state (array_mapping s e) E (k ∷ p)) t → Gives Γ (state e (element s k ∷ E) p) t
  array_step G =
      let R = array-gives G.passes in
      record {
        scope = element_of R.from;
        column = R.element;
        scoped = c_array G.scoped R.passes R.kind;
        passes = R.part;
        along = along-array (type_of_lem R.is) G.along;
      }

  pub leave_step : {s : Selector} {k : Position} {p : List ℕ} → Gives Γ (state (position k) (fields s ∷ E) p) t → Gives Γ (state s E (k.0 ∷ p)) t
  unfolding type_of
  leave_step G = go G.scoped G.passes G.along
    where
      go : {s : Selector} {k : Position} {p : List ℕ} {Δ : Fields} {c : Column} → ScopeOf Γ (fields s ∷ E) Δ → column_at Δ k.0 ≡ gives c → Along
          c.type p t → Gives Γ (state s E (k.0 ∷ p)) t
      go (c_fields {c = d} {Δ = Δ} sc h q) e a = record { scope = Δ; column = d; scoped = sc; passes = h; along = along_of (sym q) (a_field e a) }

  pub leave-element_step : {s : Selector} {k : Position} {i : ℕ} {p : List ℕ} → Gives Γ (state (position k) (element s i ∷ E) p) t → Gives Γ
      (state s E (i ∷ p)) t
  unfolding type_of
  leave-element_step {k = k} G = go k G.scoped G.passes G.along
    where
      go : {s : Selector} (k : Position) {i : ℕ} {p : List ℕ} {Δ : Fields} {c : Column} → ScopeOf Γ (element s i ∷ E) Δ → column_at Δ k.0 ≡ gives c →
          Along c.type p t → Gives Γ (state s E (i ∷ p)) t
      go k (c_list {c = d} {Δ = Δ} sc h q) e a = record {
        scope = Δ;
        column = d;
        scoped = sc;
        passes = h;
        along = along_of (sym q)
            (a_list_lem (along_of (type_of_lem (element-is e).1) a));
      }
      go k (c_array {c = d} {Δ = Δ} sc h q) e a = record {
        scope = Δ;
        column = d;
        scoped = sc;
        passes = h;
        along = along_of (sym q)
            (a_array (along_of (type_of_lem (element-is e).1) a));
      }

pub gives_moved : {Γ : Fields} {x y : State} {t : DataType} → Moves x y → Gives Γ x t → Gives Γ y t
gives_moved m_here G = G
gives_moved (m_rename m) G = gives_moved m (rename_step G)
gives_moved (m_field h m) G = gives_moved m (field_step h G)
gives_moved (m_list m) G = gives_moved m (list_step G)
gives_moved (m_array m) G = gives_moved m (array_step G)
gives_moved (m_leave m) G = gives_moved m (leave_step G)
gives_moved (m_leave-element h m) G = gives_moved m (leave-element_step G)

-- ---- no walk of what passed is stuck

pub no_element_never : {X : Type 0} {Γ : Fields} {s : Selector} {k : Position} {i : ℕ} {E : List Frame} {p : List ℕ} {t : DataType} → 0 < k.0 → Gives Γ
    (state (position k) (element s i ∷ E) p) t → X
unfolding type_of
no_element_never h G = go h G.scoped G.passes
  where
    go : {X : Type 0} {Γ : Fields} {s : Selector} {k : Position} {i : ℕ} {E : List Frame} {Δ : Fields} {c : Column} → 0 < k.0 → ScopeOf Γ
        (element s i ∷ E) Δ → column_at Δ k.0 ≡ gives c → X
    go h (c_list sc g q) e = let z = (element-is e).0 in absurd (omega arith)
    go h (c_array sc g q) e = let z = (element-is e).0 in absurd (omega arith)

pub no_field_never : {X : Type 0} {Γ : Fields} {s : Selector} {ss : Selectors} {E : List Frame} {k : ℕ} {p : List ℕ} {t : DataType}
    → count_selectors ss ≤ k → Gives Γ (state (struct_mapping s ss) E (k ∷ p)) t → X
no_field_never {ss = ss} {k = k} h G =
    let R = struct-gives G.passes in
    let A = along-field (type_of_lem R.is) G.along in
    let z = column-below R.fields k A.found in
    let y = types_count R.scope ss R.parts in
    absurd (omega arith)
