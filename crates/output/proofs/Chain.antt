-- The value at the end of a chain of casts, and the chain's laws. Assumes nothing.
use Prim.Native.Nat.{ℕ, zero, suc}
use mathlib.Core.Path.{◌≡◌, refl, ap, sym, subst, ◌∙◌}
use mathlib.Core.Bool.{Bool, true, false}
use mathlib.Core.List.{List, [], ◌∷◌, ◌++◌}
use lib.Dec.{eqb}
use borrow.Author.Tests.{eqb-true}
use Rattle.layout.specs.Parser.{choose}
use Rattle.layout.specs.Tree.{leaf_of, DataType, leaf, struct, list, array}
use Rattle.layout.specs.declared.columns.Position.{Position}
use Rattle.layout.specs.declared.leaf.Leaf.{Leaf}
use Rattle.layout.proofs.Ways.{clash}
use Rattle.numeric.specs.Integers.{signed, pattern, widened}
use Rattle.numeric.specs.Floats.{integer_to_float, float_to_float}
use Rattle.numeric.specs.Times.{finer, coarser}
use Rattle.values.specs.Value.{Value, vnull, vnumber, vtext, voverflow, vstruct, vlist, varray, Values}
use Rattle.plan.specs.Selector.{Selector, position, constant, cast, rename, struct_mapping, list_mapping, array_mapping, Selectors, snil, scons}
use Rattle.plan.specs.Reach.{SelectorAt as Nth, s_here, s_there}
use Rattle.rules.specs.declared.kinds.Class.{Class}
use Rattle.rules.specs.Classes.{class_of}
use Rattle.plan.specs.Convert.{multiply, divide, keep, UnitChange, unit_change, counted, rescaled, convert_as, convert}
use Rattle.plan.specs.Run.{cast_leaf, cast_value}
use Rattle.walk.specs.code.State.{Frame, fields, element, State, state}
use Rattle.walk.specs.code.Moves.{Moves, m_here, m_rename, m_field, m_list, m_array, m_leave, m_leave-element}
use Rattle.walk.specs.code.Values.{opened, given, value_node, within, state_value}
use Rattle.output.specs.code.Chain.{ends, goes, casts, next_field, next_out, next_cast, next_part, next_element, next_of, Passed, p_here, p_goes, p_casts}
use Rattle.output.specs.code.Chain.{cast_all}
use Rattle.output.proofs.Within.{within_strict, moves-value}
use Rattle.std.specs.Prelude.{Option, Some, None}

pub goes_eq : {x y : State} → goes x ≡ goes y → x ≡ y
goes_eq e = cc

-- ---- a move goes on

nth-next : {ss : Selectors} {k : ℕ} {t : Selector} (E : List Frame) (p : List ℕ) → Nth ss k t → next_field ss k E p ≡ goes (state t E p)
unfolding next_field
nth-next E p s_here = refl
nth-next E p (s_there n) = nth-next E p n

element-next : {s : Selector} (k : Position) (i : ℕ) (E : List Frame) (p : List ℕ) → k.0 ≡ 0 → next_out k.0 (element s i ∷ E) p ≡ goes (state s E (i ∷ p))
unfolding next_out choose
element-next k i E p z = rw z

-- a move and the rest of the moves
pub moves-passed : {x y : State} → Moves x y → Passed x [] y
unfolding next_of next_out next_part next_element
moves-passed m_here = p_here
moves-passed (m_rename m) = p_goes refl (moves-passed m)
moves-passed (m_field {s} {E = E} {p = p} n m) = p_goes (nth-next (fields s ∷ E) p n) (moves-passed m)
moves-passed (m_list m) = p_goes refl (moves-passed m)
moves-passed (m_array m) = p_goes refl (moves-passed m)
moves-passed (m_leave m) = p_goes refl (moves-passed m)
moves-passed (m_leave-element {s} {k} {i} {E} {p} z m) = p_goes (element-next k i E p z) (moves-passed m)

pub passed_on : {x y z : State} {ks ls : List Leaf} → Passed x ks y → Passed y ls z → Passed x (ks ++ ls) z
passed_on p_here q = q
passed_on (p_goes e p) q = p_goes e (passed_on p q)
passed_on (p_casts e p) q = p_casts e (passed_on p q)

-- Past a cast the kinds are the same, wherever the moves of the walk stopped before it.
pub passed-moves : {x y z : State} {k : Leaf} {ks : List Leaf} → Moves x y → Passed x (k ∷ ks) z → Passed y (k ∷ ks) z
passed-moves m p = from (moves-passed m) p
  where
    from : {x y z : State} {k : Leaf} {ks : List Leaf} → Passed x [] y → Passed x (k ∷ ks) z → Passed y (k ∷ ks) z
    from p_here q = q
    from {z = z} {k = k} {ks = ks} (p_goes e p) (p_goes f q) = from p (subst (λ (u : State). Passed u (k ∷ ks) z) (goes_eq (sym f ∙ e)) q)
    from (p_goes e p) (p_casts f q) = clash (cc)

-- ---- values

-- a conversion gives a number or an overflow
pub converted : (P : Value → Type 0) → ((k : Leaf) (n : ℕ) → P (vnumber k n)) → P voverflow → (i k : Leaf) (n : ℕ) → P (convert i k n)
unfolding convert convert_as rescaled counted
converted P f g i k n = go (class_of i) (class_of k)
  where
    times : (x : Option ℕ) → P (counted k x)
    times (Some m) = f k m
    times None = g

    scaled : (c : UnitChange) → P (rescaled c k n)
    scaled (multiply m) = times (finer (signed 64 n) m)
    scaled (divide m) = f k (pattern 64 (coarser (signed 64 n) m))
    scaled keep = f k n

    go : (a b : Class) → P (convert_as a b k n)
    go (Class.Integer a) (Class.Integer b) = f k (widened a b n)
    go (Class.Integer a) (Class.Float b) = f k (integer_to_float a b n)
    go (Class.Integer a) (Class.Datetime b) = f k n
    go (Class.Integer a) Class.Other = f k n
    go (Class.Float a) (Class.Integer b) = f k n
    go (Class.Float a) (Class.Float b) = f k (float_to_float a b n)
    go (Class.Float a) (Class.Datetime b) = f k n
    go (Class.Float a) Class.Other = f k n
    go (Class.Datetime a) (Class.Integer b) = f k n
    go (Class.Datetime a) (Class.Float b) = f k n
    go (Class.Datetime a) (Class.Datetime b) = scaled (unit_change a b)
    go (Class.Datetime a) Class.Other = f k n
    go Class.Other b = f k n

-- a cast keeps a value's parts
pub cast-opened : (k : Leaf) (f : Values → Value) (v : Value) → opened f (cast_leaf k v) ≡ opened f v
unfolding opened cast_leaf
cast-opened k f vnull = refl
cast-opened k f (vnumber i n) = converted (λ (x : Value). opened f x ≡ vnull) (λ j m. refl) refl i k n
cast-opened k f (vtext b) = refl
cast-opened k f voverflow = refl
cast-opened k f (vstruct vs) = refl
cast-opened k f (vlist vs) = refl
cast-opened k f (varray vs) = refl

cast-node : (t : DataType) (k : ℕ) (p : List ℕ) (v : Value) → value_node (cast_value t v) (k ∷ p) ≡ value_node v (k ∷ p)
unfolding cast_value value_node
cast-node (leaf l) k p v = cast-opened (leaf_of l) _ v
cast-node (struct fs) k p v = refl
cast-node (list t) k p v = refl
cast-node (array w t) k p v = refl

field_next : (ss : Selectors) (k : ℕ) (E : List Frame) (p : List ℕ) {y : State} → next_field ss k E p ≡ goes y → (t : Selector) × Nth ss k t × (state t E p ≡ y)
unfolding next_field
field_next snil k E p e = clash (cc)
field_next (scons t ss) zero E p e = (t, s_here, goes_eq e)
field_next (scons t ss) (suc k) E p e = let (u, n, q) = field_next ss k E p e in (u, s_there n, q)

field-casts : {A : Type 0} (ss : Selectors) (k : ℕ) (E : List Frame) (p : List ℕ) {j : Leaf} {y : State} → next_field ss k E p ≡ casts j y → A
unfolding next_field
field-casts snil k E p e = clash (cc)
field-casts (scons t ss) zero E p e = clash (cc)
field-casts (scons t ss) (suc k) E p e = field-casts ss k E p e

out_casts : {A : Type 0} (b : Bool) (x : State) {k : Leaf} {y : State} → choose b (goes x) ends ≡ casts k y → A
unfolding choose
out_casts true x e = clash (cc)
out_casts false x e = clash (cc)

-- past a cast the mappings and the path are the same
pub casts-same : (s : Selector) (E : List Frame) (p : List ℕ) {k : Leaf} {y : State} → next_of s E p ≡ casts k y → (y.frames ≡ E) × (y.path ≡ p)
unfolding next_of next_cast next_part next_element next_out
casts-same (position k) [] p e = clash (cc)
casts-same (position k) (fields s ∷ E) p e = clash (cc)
casts-same (position k) (element s i ∷ E) p e = out_casts (eqb k.0 0) (state s E (i ∷ p)) e
casts-same (constant n t v) E p e = clash (cc)
casts-same (cast s (leaf l) o) E [] e = (ap (λ (x : State). x.frames) (to e), ap (λ (x : State). x.path) (to e))
  where
    to : {a b : Leaf} {x y : State} → casts a x ≡ casts b y → y ≡ x
    to e = cc
casts-same (cast s (leaf l) o) E (k ∷ p) e = clash (cc)
casts-same (cast s (struct fs) o) E p e = clash (cc)
casts-same (cast s (list t) o) E p e = clash (cc)
casts-same (cast s (array w t) o) E p e = clash (cc)
casts-same (rename s n) E p e = clash (cc)
casts-same (struct_mapping s ss) E [] e = clash (cc)
casts-same (struct_mapping s ss) E (k ∷ p) e = field-casts ss k (fields s ∷ E) p e
casts-same (list_mapping s x) E [] e = clash (cc)
casts-same (list_mapping s x) E (k ∷ p) e = clash (cc)
casts-same (array_mapping s x) E [] e = clash (cc)
casts-same (array_mapping s x) E (k ∷ p) e = clash (cc)

module _ (ρ : Values) where
  out-value : (k : Position) (E : List Frame) (p : List ℕ) {y : State} → next_out k.0 E p ≡ goes y → state_value ρ (state (position k) E p) ≡ state_value ρ y
  unfolding next_out choose
  out-value k [] p e = clash (cc)
  out-value k (fields s ∷ E) p e = moves-value ρ (m_leave m_here) ∙ ap (state_value ρ) (goes_eq e)
  out-value k (element s i ∷ E) p {y} e = go (eqb k.0 0) refl e
    where
      go : (b : Bool) → eqb k.0 0 ≡ b → choose b (goes (state s E (i ∷ p))) ends ≡ goes y → state_value ρ (state (position k) (element s i ∷ E) p) ≡
          state_value ρ y
      go true z e = moves-value ρ (m_leave-element (eqb-true _ _ z) m_here) ∙ ap (state_value ρ) (goes_eq e)
      go false z e = clash (cc)

  goes_at : (s : Selector) (E : List Frame) (p : List ℕ) {y : State} → next_of s E p ≡ goes y → state_value ρ (state s E p) ≡ state_value ρ y
  unfolding next_of next_cast next_part next_element state_value given cast_value
  goes_at (position k) E p e = out-value k E p e
  goes_at (constant n t v) E p e = clash (cc)
  goes_at (cast s (leaf l) o) E [] e = clash (cc)
  goes_at (cast s (leaf l) o) E (k ∷ p) e = (λ i. within ρ E (λ σ. cast-node (leaf l) k p (given σ s) i)) ∙ ap (state_value ρ) (goes_eq e)
  goes_at (cast s (struct fs) o) E p e = ap (state_value ρ) (goes_eq e)
  goes_at (cast s (list t) o) E p e = ap (state_value ρ) (goes_eq e)
  goes_at (cast s (array w t) o) E p e = ap (state_value ρ) (goes_eq e)
  goes_at (rename s n) E p e = ap (state_value ρ) (goes_eq e)
  goes_at (struct_mapping s ss) E [] e = clash (cc)
  goes_at (struct_mapping s ss) E (k ∷ p) e = let (t, n, q) = field_next ss k (fields s ∷ E) p e in moves-value ρ (m_field n m_here) ∙ ap (state_value ρ) q
  goes_at (list_mapping s x) E [] e = clash (cc)
  goes_at (list_mapping s x) E (k ∷ p) e = moves-value ρ (m_list {s = s} {e = x} {E = E} {k = k} {p = p} m_here) ∙ ap (state_value ρ) (goes_eq e)
  goes_at (array_mapping s x) E [] e = clash (cc)
  goes_at (array_mapping s x) E (k ∷ p) e = moves-value ρ (m_array {s = s} {e = x} {E = E} {k = k} {p = p} m_here) ∙ ap (state_value ρ) (goes_eq e)

  casts-at : (s : Selector) (E : List Frame) (p : List ℕ) {k : Leaf} {y : State} → next_of s E p ≡ casts k y → state_value ρ (state s E p) ≡ cast_leaf k
      (state_value ρ y)
  unfolding next_of next_cast next_part next_element next_out state_value given cast_value cast_leaf value_node
  casts-at (position k) [] p e = clash (cc)
  casts-at (position k) (fields s ∷ E) p e = clash (cc)
  casts-at (position k) (element s i ∷ E) p e = out_casts (eqb k.0 0) (state s E (i ∷ p)) e
  casts-at (constant n t v) E p e = clash (cc)
  casts-at (cast s (leaf l) o) E [] e = within_strict (cast_leaf (leaf_of l)) refl ρ E (λ σ. given σ s) ∙ casts_eq e
    where
      casts_eq : {a b : Leaf} {x y : State} → casts a x ≡ casts b y → cast_leaf a (state_value ρ x) ≡ cast_leaf b (state_value ρ y)
      casts_eq e = cc
  casts-at (cast s (leaf l) o) E (k ∷ p) e = clash (cc)
  casts-at (cast s (struct fs) o) E p e = clash (cc)
  casts-at (cast s (list t) o) E p e = clash (cc)
  casts-at (cast s (array w t) o) E p e = clash (cc)
  casts-at (rename s n) E p e = clash (cc)
  casts-at (struct_mapping s ss) E [] e = clash (cc)
  casts-at (struct_mapping s ss) E (k ∷ p) e = field-casts ss k (fields s ∷ E) p e
  casts-at (list_mapping s x) E [] e = clash (cc)
  casts-at (list_mapping s x) E (k ∷ p) e = clash (cc)
  casts-at (array_mapping s x) E [] e = clash (cc)
  casts-at (array_mapping s x) E (k ∷ p) e = clash (cc)

  pub passed-value : {x z : State} {ks : List Leaf} → Passed x ks z → state_value ρ x ≡ cast_all ks (state_value ρ z)
  unfolding cast_all
  passed-value p_here = refl
  passed-value (p_goes {x} e p) = goes_at x.selector x.frames x.path e ∙ passed-value p
  passed-value (p_casts {x} {k = k} e p) = casts-at x.selector x.frames x.path e ∙ ap (cast_leaf k) (passed-value p)
