-- The value where a walk stands: the moves keep it, and what is strict goes through the entered mappings. Assumes
-- nothing.
use Prim.Native.Nat.{ℕ, zero, suc}
use mathlib.Core.Path.{◌≡◌, refl, ap, sym, ◌∙◌}
use mathlib.Core.List.{List, [], ◌∷◌}
use Rattle.values.specs.Value.{Value, vnull, vnumber, vtext, voverflow, vstruct, vlist, varray, Values, vnil, vcons}
use Rattle.plan.specs.Selector.{Selector, Selectors}
use Rattle.plan.specs.Reach.{SelectorAt as Nth, s_here, s_there}
use Rattle.plan.specs.Run.{value_at, map_values}
use Rattle.walk.specs.code.State.{Frame, fields, element, State}
use Rattle.walk.specs.code.Moves.{Moves, m_here, m_rename, m_field, m_list, m_array, m_leave, m_leave-element}
use Rattle.walk.specs.code.Values.{opened, given, givens, value_node, over_element, within, state_value}

-- ---- what is strict

pub opened_strict : (g : Value → Value) → g vnull ≡ vnull → (f : Values → Value) (v : Value) → opened (λ vs. g (f vs)) v ≡ g (opened f v)
unfolding opened
opened_strict g z f vnull = sym z
opened_strict g z f (vnumber k n) = sym z
opened_strict g z f (vtext b) = sym z
opened_strict g z f voverflow = sym z
opened_strict g z f (vstruct vs) = refl
opened_strict g z f (vlist vs) = refl
opened_strict g z f (varray vs) = refl

element_strict : (g : Value → Value) → g vnull ≡ vnull → (f : Values → Value) (vs : Values) (i : ℕ) → over_element (λ us. g (f us)) vs i ≡ g (over_element f vs i)
unfolding over_element
element_strict g z f vnil i = sym z
element_strict g z f (vcons v vs) zero = refl
element_strict g z f (vcons v vs) (suc i) = element_strict g z f vs i

pub within_strict : (g : Value → Value) → g vnull ≡ vnull → (ρ : Values) (E : List Frame) (f : Values → Value) → within ρ E (λ σ. g (f σ)) ≡ g (within ρ E f)
unfolding within
within_strict g z ρ [] f = refl
within_strict g z ρ (fields s ∷ E) f =
    (λ i. within ρ E (λ σ. opened_strict g z f (given σ s) i)) ∙ within_strict g z ρ E (λ σ. opened f (given σ s))
within_strict g z ρ (element s j ∷ E) f =
    (λ i. within ρ E (λ σ. opened (λ vs. element_strict g z f vs j i) (given σ s)))
    ∙ (λ i. within ρ E (λ σ. opened_strict g z (λ vs. over_element f vs j) (given σ s) i))
    ∙ within_strict g z ρ E (λ σ. opened (λ vs. over_element f vs j) (given σ s))

-- ---- the moves

pub node-null : (p : List ℕ) → value_node vnull p ≡ vnull
unfolding value_node opened
node-null [] = refl
node-null (k ∷ p) = refl

pub given-nth : {ss : Selectors} {k : ℕ} {t : Selector} (vs : Values) → Nth ss k t → value_at (givens vs ss) k ≡ given vs t
unfolding givens value_at
given-nth vs s_here = refl
given-nth vs (s_there n) = given-nth vs n

struct-node : {ss : Selectors} {k : ℕ} {t : Selector} → Nth ss k t → (p : List ℕ) (v : Value)
    → value_node (opened (λ vs. vstruct (givens vs ss)) v) (k ∷ p) ≡ opened (λ vs. value_node (given vs t) p) v
unfolding opened value_node
struct-node n p vnull = refl
struct-node n p (vnumber k m) = refl
struct-node n p (vtext b) = refl
struct-node n p voverflow = refl
struct-node n p (vstruct vs) = ap (λ (x : Value). value_node x p) (given-nth vs n)
struct-node n p (vlist vs) = ap (λ (x : Value). value_node x p) (given-nth vs n)
struct-node n p (varray vs) = ap (λ (x : Value). value_node x p) (given-nth vs n)

mapped-node : (f : Value → Value) (p : List ℕ) (vs : Values) (k : ℕ) (g : Values → Value) → ((v : Value) → g (vcons v vnil) ≡ value_node (f v) p)
    → value_node (value_at (map_values f vs) k) p ≡ over_element g vs k
unfolding value_at map_values over_element
mapped-node f p vnil k g h = node-null p
mapped-node f p (vcons v vs) zero g h = sym (h v)
mapped-node f p (vcons v vs) (suc k) g h = mapped-node f p vs k g h

list-node : (e : Selector) (k : ℕ) (p : List ℕ) (v : Value)
    → value_node (opened (λ vs. vlist (map_values (λ v. given (vcons v vnil) e) vs)) v) (k ∷ p) ≡ opened
    (λ vs. over_element (λ us. value_node (given us e) p) vs k) v
unfolding opened value_node
list-node e k p vnull = refl
list-node e k p (vnumber l m) = refl
list-node e k p (vtext b) = refl
list-node e k p voverflow = refl
list-node e k p (vstruct vs) = mapped-node _ p vs k (λ us. value_node (given us e) p) (λ v. refl)
list-node e k p (vlist vs) = mapped-node _ p vs k (λ us. value_node (given us e) p) (λ v. refl)
list-node e k p (varray vs) = mapped-node _ p vs k (λ us. value_node (given us e) p) (λ v. refl)

array-node : (e : Selector) (k : ℕ) (p : List ℕ) (v : Value)
    → value_node (opened (λ vs. varray (map_values (λ v. given (vcons v vnil) e) vs)) v) (k ∷ p) ≡ opened
    (λ vs. over_element (λ us. value_node (given us e) p) vs k) v
unfolding opened value_node
array-node e k p vnull = refl
array-node e k p (vnumber l m) = refl
array-node e k p (vtext b) = refl
array-node e k p voverflow = refl
array-node e k p (vstruct vs) = mapped-node _ p vs k (λ us. value_node (given us e) p) (λ v. refl)
array-node e k p (vlist vs) = mapped-node _ p vs k (λ us. value_node (given us e) p) (λ v. refl)
array-node e k p (varray vs) = mapped-node _ p vs k (λ us. value_node (given us e) p) (λ v. refl)

-- the only value of an element is the element
element_node : (p : List ℕ) (vs : Values) (i : ℕ) → over_element (λ us. value_node (value_at us 0) p) vs i ≡ value_node (value_at vs i) p
unfolding over_element value_at
element_node p vnil i = sym (node-null p)
element_node p (vcons v vs) zero = refl
element_node p (vcons v vs) (suc i) = element_node p vs i

pub moves-value : (ρ : Values) {x y : State} → Moves x y → state_value ρ x ≡ state_value ρ y
unfolding state_value within given value_node
moves-value ρ m_here = refl
moves-value ρ (m_rename m) = moves-value ρ m
moves-value ρ (m_field {s} {E = E} {p = p} n m) = (λ i. within ρ E (λ σ. struct-node n p (given σ s) i)) ∙ moves-value ρ m
moves-value ρ (m_list {s} {e} {E} {k} {p} m) = (λ i. within ρ E (λ σ. list-node e k p (given σ s) i)) ∙ moves-value ρ m
moves-value ρ (m_array {s} {e} {E} {k} {p} m) = (λ i. within ρ E (λ σ. array-node e k p (given σ s) i)) ∙ moves-value ρ m
moves-value ρ (m_leave m) = moves-value ρ m
moves-value ρ (m_leave-element {s} {k} {i = j} {E} {p} z m) =
    (λ i. within ρ E (λ σ. opened (λ vs. over_element (λ us. value_node (value_at us (z i)) p) vs j) (given σ s)))
    ∙ (λ i. within ρ E (λ σ. opened (λ vs. element_node p vs j i) (given σ s)))
    ∙ moves-value ρ m
