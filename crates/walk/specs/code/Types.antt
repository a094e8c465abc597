-- Document 01, "The check follows types", for a walk through selectors that passed the check: the type where it stands.
use Rattle.std.specs.Prelude.{ℕ, ◌≡◌, List, [], ◌∷◌}
use Rattle.layout.specs.Tree.{DataType, struct, list, array, Fields}
use Rattle.plan.specs.Result.{gives}
use Rattle.plan.specs.Selector.{Selector}
use Rattle.plan.specs.Check.{Column, column_at, element_of, type_of}
use Rattle.walk.specs.code.State.{Frame, fields, element, State}

-- `ScopeOf Γ E Δ`: over the columns Γ, positions inside the entered mappings E take from the columns Δ
pub data ScopeOf (Γ : Fields) : List Frame → Fields → Type 0 where
  c_top : ScopeOf Γ [] Γ
  c_fields : {E : List Frame} {s : Selector} {c : Column} {Δ fs : Fields} → ScopeOf Γ E Δ → type_of Δ s ≡ gives c → c.type ≡ struct fs → ScopeOf Γ
      (fields s ∷ E) fs
  c_list : {E : List Frame} {s : Selector} {i : ℕ} {c : Column} {Δ : Fields} {t : DataType} → ScopeOf Γ E Δ → type_of Δ s ≡ gives c → c.type ≡ list t
      → ScopeOf Γ (element s i ∷ E) (element_of t)
  c_array : {E : List Frame} {s : Selector} {i w : ℕ} {c : Column} {Δ : Fields} {t : DataType} → ScopeOf Γ E Δ → type_of Δ s ≡ gives c → c.type ≡ array w t
      → ScopeOf Γ (element s i ∷ E) (element_of t)

-- `Along t p u`: the path p leads from the type t to the type u; every element of a list or an array has one type
pub data Along : DataType → List ℕ → DataType → Type 0 where
  a_here : {t : DataType} → Along t [] t
  a_field : {fs : Fields} {k : ℕ} {c : Column} {p : List ℕ} {u : DataType} → column_at fs k ≡ gives c → Along c.type p u → Along (struct fs) (k ∷ p) u
  a_list_lem : {t u : DataType} {k : ℕ} {p : List ℕ} → Along t p u → Along (list t) (k ∷ p) u
  a_array : {w : ℕ} {t u : DataType} {k : ℕ} {p : List ℕ} → Along t p u → Along (array w t) (k ∷ p) u

-- over the columns Γ, the walk stands at the type t
pub record Gives (Γ : Fields) (x : State) (t : DataType) : Type 0 where
  pub scope : Fields
  pub column : Column
  pub scoped : ScopeOf Γ x.frames scope
  pub passes : type_of scope x.selector ≡ gives column
  pub along : Along column.type x.path t
