-- Document 01, "Run", for a walk: what a selector gives over values, and the value where a walk stands. It differs from
-- `eval` (crate plan, specs/Run.antt) only in what no check passes: a mapping of a value that has no parts is null
-- here.
use Rattle.std.specs.Prelude.{ℕ, zero, suc, List, [], ◌∷◌}
use Rattle.values.specs.Value.{Value, vnull, vnumber, vtext, voverflow, vstruct, vlist, varray, Values, vnil, vcons}
use Rattle.plan.specs.Selector.{Selector, position, constant, cast, rename, struct_mapping, list_mapping, array_mapping, Selectors, snil, scons}
use Rattle.plan.specs.Run.{value_at, cast_value, map_values}
use Rattle.walk.specs.code.State.{Frame, fields, element, State}

-- f of a value's fields or elements; null where it has no parts
unfoldable pub opened : (Values → Value) → Value → Value
opened f vnull = vnull
opened f (vnumber k n) = vnull
opened f (vtext b) = vnull
opened f voverflow = vnull
opened f (vstruct vs) = f vs
opened f (vlist vs) = f vs
opened f (varray vs) = f vs

unfoldable mutual
  pub given : Values → Selector → Value
  given ρ (position k) = value_at ρ k.0
  given ρ (constant n t v) = v
  given ρ (cast s t o) = cast_value t (given ρ s)
  given ρ (rename s n) = given ρ s
  given ρ (struct_mapping s ss) = opened (λ vs. vstruct (givens vs ss)) (given ρ s)
  given ρ (list_mapping s e) = opened (λ vs. vlist (map_values (λ v. given (vcons v vnil) e) vs)) (given ρ s)
  given ρ (array_mapping s e) = opened (λ vs. varray (map_values (λ v. given (vcons v vnil) e) vs)) (given ρ s)

  pub givens : Values → Selectors → Values
  givens ρ snil = vnil
  givens ρ (scons s ss) = vcons (given ρ s) (givens ρ ss)

-- the value at a path; null where the path leads nowhere
unfoldable pub value_node : Value → List ℕ → Value
value_node v [] = v
value_node v (k ∷ p) = opened (λ vs. value_node (value_at vs k) p) v

-- f over the i-th of the values alone, if there is one
unfoldable pub over_element : (Values → Value) → Values → ℕ → Value
over_element f vnil i = vnull
over_element f (vcons v vs) zero = f (vcons v vnil)
over_element f (vcons v vs) (suc i) = over_element f vs i

-- f over the values that positions take inside the entered mappings; null where a mapping's input has no such part
unfoldable pub within : Values → List Frame → (Values → Value) → Value
within ρ [] f = f ρ
within ρ (fields s ∷ E) f = within ρ E (λ σ. opened f (given σ s))
within ρ (element s i ∷ E) f = within ρ E (λ σ. opened (λ vs. over_element f vs i) (given σ s))

-- the value where a walk stands, over a record's values
unfoldable pub state_value : Values → State → Value
state_value ρ x = within ρ x.frames (λ σ. value_node (given σ x.selector) x.path)
