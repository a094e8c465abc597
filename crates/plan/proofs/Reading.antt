-- How a run can find each part of its output with no value held in between: a value is a selector in a scope, and each
-- part of it is again a selector in a scope, or a part of the value of a selector that stands before. Assumes nothing.
use Prim.Native.Nat.{ℕ, zero, suc, ◌<◌}
use mathlib.Core.Path.{◌≡◌, refl}
use native.Mathlib.Omega.{arith}
use Rattle.layout.specs.Bytes.{Bytes}
use Rattle.layout.specs.Tree.{DataType}
use Rattle.layout.specs.declared.columns.Position.{Position}
use Rattle.rules.specs.declared.outcome.CastOption.{CastOption}
use Rattle.values.specs.Value.{Value, vstruct, vlist, varray, Values, vnil, vcons, count_values}
use Rattle.plan.specs.Selector.{Selector, position, constant, cast, rename, struct_mapping, list_mapping, array_mapping, Selectors}
use Rattle.plan.specs.Run.{value_at, cast_value, map_values, on_struct, on_list, on_array, eval, evals}
use Rattle.plan.specs.Reach.{Scope, top, in_struct_lem, in_element, parts, values_in, value_in, SelectorAt, s_here, s_there}

pub evals-at : (ρ : Values) {ss : Selectors} {k : ℕ} {x : Selector} → SelectorAt ss k x → value_at (evals ρ ss) k ≡ eval ρ x
unfolding value_at evals
evals-at ρ s_here = refl
evals-at ρ (s_there a) = evals-at ρ a

pub map_at : (f : Value → Value) (vs : Values) (j : ℕ) → j < count_values vs → value_at (map_values f vs) j ≡ f (value_at vs j)
unfolding value_at map_values count_values
map_at f vnil j h = absurd (omega arith)
map_at f (vcons v vs) zero h = refl
map_at f (vcons v vs) (suc j) h = map_at f vs j (omega arith)

module _ (ρ : Values) where
  -- a position: of the record, or a part of what the scope's selector gives
  pub position-top : (k : Position) → value_in ρ top (position k) ≡ value_at ρ k.0
  unfolding value_in eval values_in
  position-top k = refl

  pub position-field : (E : Scope) (s : Selector) (k : Position) → value_in ρ (in_struct_lem E s) (position k) ≡ value_at (parts (value_in ρ E s)) k.0
  unfolding value_in eval values_in
  position-field E s k = refl

  pub position-element : (E : Scope) (s : Selector) (j : ℕ) (k : Position) → k.0 ≡ 0 → value_in ρ (in_element E s j) (position k) ≡ value_at
      (parts (value_in ρ E s)) j
  unfolding value_in eval values_in value_at
  position-element E s j k e = rw e

  pub constant-value : (E : Scope) (n : Bytes) (t : DataType) (v : Value) → value_in ρ E (constant n t v) ≡ v
  unfolding value_in eval
  constant-value E n t v = refl

  pub cast_value_lem : (E : Scope) (s : Selector) (t : DataType) (o : CastOption) → value_in ρ E (cast s t o) ≡ cast_value t (value_in ρ E s)
  unfolding value_in eval
  cast_value_lem E s t o = refl

  pub rename-value : (E : Scope) (s : Selector) (n : Bytes) → value_in ρ E (rename s n) ≡ value_in ρ E s
  unfolding value_in eval
  rename-value E s n = refl

  -- a struct mapping over a struct: its k-th field is the k-th selector, over the fields
  pub struct-field : (E : Scope) (s : Selector) {ss : Selectors} {k : ℕ} {x : Selector} {vs : Values} → value_in ρ E s ≡ vstruct vs → SelectorAt ss k x
      → value_at (parts (value_in ρ E (struct_mapping s ss))) k ≡ value_in ρ (in_struct_lem E s) x
  unfolding value_in eval values_in on_struct parts
  struct-field E s {vs = vs} e a = rw e (evals-at vs a)

  -- a list or array mapping over elements: its j-th element is the selector, over that element
  pub list_element_lem : (E : Scope) (s e : Selector) (j : ℕ) {vs : Values} → value_in ρ E s ≡ vlist vs → j < count_values vs
      → value_at (parts (value_in ρ E (list_mapping s e))) j ≡ value_in ρ (in_element E s j) e
  unfolding value_in eval values_in on_list parts
  list_element_lem E s e j {vs} p h = rw p (map_at (λ v. eval (vcons v vnil) e) vs j h)

  pub array_element_lem : (E : Scope) (s e : Selector) (j : ℕ) {vs : Values} → value_in ρ E s ≡ varray vs → j < count_values vs
      → value_at (parts (value_in ρ E (array_mapping s e))) j ≡ value_in ρ (in_element E s j) e
  unfolding value_in eval values_in on_array parts
  array_element_lem E s e j {vs} p h = rw p (map_at (λ v. eval (vcons v vnil) e) vs j h)
