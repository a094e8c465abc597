-- The value where a walk ends: of a column, a constant or a mapping. Assumes nothing.
use Prim.Native.Nat.{ℕ, zero, suc, ◌+◌}
use mathlib.Core.Path.{◌≡◌, refl, ap, sym, ◌∙◌}
use mathlib.Core.Bool.{Bool, true, false}
use mathlib.Core.List.{List, [], ◌∷◌}
use native.Mathlib.Omega.{arith}
use lib.Dec.{eqb, leb}
use borrow.Author.Tests.{le-leb, lt-leb, leb-true, leb-false}
use Rattle.layout.specs.Bytes.{Bytes}
use Rattle.layout.specs.Parser.{choose}
use Rattle.layout.specs.Tree.{DataType}
use Rattle.layout.specs.declared.columns.Position.{Position}
use Rattle.layout.specs.declared.leaf.Leaf.{Leaf}
use Rattle.layout.proofs.Ways.{clash}
use Rattle.values.specs.Value.{Value, vnull, vnumber, vtext, voverflow, vstruct, vlist, varray, Values, vnil, vcons, count_values}
use Rattle.plan.specs.Selector.{Selector, position, constant, struct_mapping, list_mapping, array_mapping, Selectors, snil, scons, count_selectors}
use Rattle.plan.specs.Reach.{parts}
use Rattle.plan.specs.Run.{value_at, cast_leaf, map_values}
use Rattle.plan.proofs.Preserve.{count-mapped}
use Rattle.walk.specs.code.State.{Frame, fields, element, State, state}
use Rattle.walk.specs.code.Moves.{Moves}
use Rattle.walk.specs.code.Values.{opened, given, givens, value_node, over_element, within, state_value}
use Rattle.nodes.specs.code.Raw.{parts_of}
use Rattle.nodes.specs.declared.raw.Parts.{Parts}
use Rattle.output.specs.code.Chain.{ends, goes, next_field, next_out, cast_all}
use Rattle.output.specs.code.Output.{has}
use Rattle.output.proofs.Within.{within_strict, moves-value, node-null}
use Rattle.output.proofs.Chain.{converted}

-- ---- parts

pub count-givens : (vs : Values) (ss : Selectors) → count_values (givens vs ss) ≡ count_selectors ss
unfolding givens count_values count_selectors
count-givens vs snil = refl
count-givens vs (scons s ss) = ap suc (count-givens vs ss)

-- `some` parts if v has any
abbrev pub if_parts : Value → Parts → Parts
if_parts v p = choose (has 0 (parts_of v)) p Parts.None

leb-suc : (a b n : ℕ) → b ≡ suc a → leb a n ≡ leb b (suc n)
leb-suc a b n e = go (leb a n) refl
  where
    go : (x : Bool) → leb a n ≡ x → x ≡ leb b (suc n)
    go true h = let l = leb-true a n h in sym (le-leb b (suc n) (omega arith))
    go false h = let l = leb-false a n h in sym (lt-leb b (suc n) (omega arith))

zero-leb : (n : ℕ) → leb 0 n ≡ true
zero-leb n = le-leb 0 n (omega arith)

pub parts-struct : (ss : Selectors) (v : Value) → parts_of (opened (λ vs. vstruct (givens vs ss)) v) ≡ if_parts v (Parts.Some (count_selectors ss))
unfolding opened parts_of has choose
parts-struct ss vnull = refl
parts-struct ss (vnumber k n) = refl
parts-struct ss (vtext b) = refl
parts-struct ss voverflow = refl
parts-struct ss (vstruct vs) = rw (zero-leb (count_values vs), count-givens vs ss)
parts-struct ss (vlist vs) = rw (zero-leb (count_values vs), count-givens vs ss)
parts-struct ss (varray vs) = rw (zero-leb (count_values vs), count-givens vs ss)

pub parts-list : (f : Value → Value) (v : Value) → parts_of (opened (λ vs. vlist (map_values f vs)) v) ≡ parts_of v
unfolding opened parts_of
parts-list f vnull = refl
parts-list f (vnumber k n) = refl
parts-list f (vtext b) = refl
parts-list f voverflow = refl
parts-list f (vstruct vs) = ap Parts.Some (count-mapped f vs)
parts-list f (vlist vs) = ap Parts.Some (count-mapped f vs)
parts-list f (varray vs) = ap Parts.Some (count-mapped f vs)

pub parts-array : (f : Value → Value) (v : Value) → parts_of (opened (λ vs. varray (map_values f vs)) v) ≡ parts_of v
unfolding opened parts_of
parts-array f vnull = refl
parts-array f (vnumber k n) = refl
parts-array f (vtext b) = refl
parts-array f voverflow = refl
parts-array f (vstruct vs) = ap Parts.Some (count-mapped f vs)
parts-array f (vlist vs) = ap Parts.Some (count-mapped f vs)
parts-array f (varray vs) = ap Parts.Some (count-mapped f vs)

pub parts-cast : (k : Leaf) (v : Value) → parts_of (cast_leaf k v) ≡ parts_of v
unfolding parts_of cast_leaf
parts-cast k vnull = refl
parts-cast k (vnumber i n) = converted (λ (x : Value). parts_of x ≡ Parts.None) (λ j m. refl) refl i k n
parts-cast k (vtext b) = refl
parts-cast k voverflow = refl
parts-cast k (vstruct vs) = refl
parts-cast k (vlist vs) = refl
parts-cast k (varray vs) = refl

pub parts-casts : (ks : List Leaf) (v : Value) → parts_of (cast_all ks v) ≡ parts_of v
unfolding cast_all
parts-casts [] v = refl
parts-casts (k ∷ ks) v = parts-cast k (cast_all ks v) ∙ parts-casts ks v

-- ---- what is null

pub within-null : (ρ : Values) (E : List Frame) → within ρ E (λ σ. vnull) ≡ vnull
within-null ρ E = within_strict (λ v. vnull) refl ρ E (λ σ. vnull)

opened-null : (v : Value) → opened (λ vs. vnull) v ≡ vnull
unfolding opened
opened-null vnull = refl
opened-null (vnumber k n) = refl
opened-null (vtext b) = refl
opened-null voverflow = refl
opened-null (vstruct vs) = refl
opened-null (vlist vs) = refl
opened-null (varray vs) = refl

single_null : (k : ℕ) (p : List ℕ) → eqb k 0 ≡ false → (vs : Values) (i : ℕ) → over_element (λ us. value_node (value_at us k) p) vs i ≡ vnull
unfolding over_element value_at
single_null k p e vnil i = refl
single_null zero p e (vcons v vs) zero = clash (cc)
single_null (suc k) p e (vcons v vs) zero = node-null p
single_null k p e (vcons v vs) (suc i) = single_null k p e vs i

no_goes : {A : Type 0} (x : State) → choose true (goes x) ends ≡ ends → A
unfolding choose
no_goes x e = clash (cc)

lost_field : (ss : Selectors) (k : ℕ) (E : List Frame) (p : List ℕ) → next_field ss k E p ≡ ends → (vs : Values) → value_at (givens vs ss) k ≡ vnull
unfolding next_field givens value_at
lost_field snil k E p e vs = refl
lost_field (scons t ss) zero E p e vs = clash (cc)
lost_field (scons t ss) (suc k) E p e vs = lost_field ss k E p e vs

opened-of_null : (f : Values → Value) → opened f vnull ≡ vnull
unfolding opened
opened-of_null f = refl

opened_runs : (u v : Value) → opened (λ vs. u) v ≡ choose (has 0 (parts_of v)) u vnull
unfolding opened parts_of has choose
opened_runs u vnull = refl
opened_runs u (vnumber k n) = refl
opened_runs u (vtext b) = refl
opened_runs u voverflow = refl
opened_runs u (vstruct vs) = rw (zero-leb (count_values vs))
opened_runs u (vlist vs) = rw (zero-leb (count_values vs))
opened_runs u (varray vs) = rw (zero-leb (count_values vs))

over_runs : (u : Value) (vs : Values) (i : ℕ) → over_element (λ us. u) vs i ≡ choose (leb (i + 1) (count_values vs)) u vnull
unfolding over_element count_values choose
over_runs u vnil i = rw (lt-leb (i + 1) 0 (omega arith))
over_runs u (vcons v vs) zero = rw (le-leb (0 + 1) (suc (count_values vs)) (omega arith))
over_runs u (vcons v vs) (suc i) = over_runs u vs i ∙ ap (λ (b : Bool). choose b u vnull) (leb-suc (i + 1) (suc i + 1) (count_values vs) (omega arith))

element_runs : (u : Value) (i : ℕ) (v : Value) → opened (λ vs. over_element (λ us. u) vs i) v ≡ choose (has (i + 1) (parts_of v)) u vnull
unfolding opened parts_of has choose
element_runs u i vnull = refl
element_runs u i (vnumber k n) = refl
element_runs u i (vtext b) = refl
element_runs u i voverflow = refl
element_runs u i (vstruct vs) = over_runs u vs i
element_runs u i (vlist vs) = over_runs u vs i
element_runs u i (varray vs) = over_runs u vs i

opened-part : (k : ℕ) (v : Value) → opened (λ vs. value_at vs k) v ≡ value_at (parts v) k
unfolding opened parts value_at
opened-part k vnull = refl
opened-part k (vnumber j n) = refl
opened-part k (vtext b) = refl
opened-part k voverflow = refl
opened-part k (vstruct vs) = refl
opened-part k (vlist vs) = refl
opened-part k (varray vs) = refl

field-node : (ss : Selectors) (k : ℕ) (p : List ℕ) → ((vs : Values) → value_at (givens vs ss) k ≡ vnull) → (v : Value) → value_node
    (opened (λ vs. vstruct (givens vs ss)) v) (k ∷ p) ≡ vnull
unfolding opened value_node
field-node ss k p h vnull = refl
field-node ss k p h (vnumber j n) = refl
field-node ss k p h (vtext b) = refl
field-node ss k p h voverflow = refl
field-node ss k p h (vstruct vs) = ap (λ (x : Value). value_node x p) (h vs) ∙ node-null p
field-node ss k p h (vlist vs) = ap (λ (x : Value). value_node x p) (h vs) ∙ node-null p
field-node ss k p h (varray vs) = ap (λ (x : Value). value_node x p) (h vs) ∙ node-null p

module _ (ρ : Values) where
  position-lost : (k : Position) (s : Selector) (i : ℕ) (E : List Frame) (p : List ℕ) → eqb k.0 0 ≡ false → state_value ρ
      (state (position k) (element s i ∷ E) p) ≡ vnull
  unfolding state_value within given
  position-lost k s i E p z =
      (λ j. within ρ E (λ σ. opened (λ vs. single_null k.0 p z vs i j) (given σ s)))
      ∙ (λ j. within ρ E (λ σ. opened-null (given σ s) j)) ∙ within-null ρ E

  -- a position that an element does not have
  pub position-null : (k : Position) (f : Frame) (E : List Frame) (p : List ℕ) → next_out k.0 (f ∷ E) p ≡ ends → state_value ρ
      (state (position k) (f ∷ E) p) ≡ vnull
  unfolding next_out
  position-null k (fields s) E p e = clash (cc)
  position-null k (element s i) E p e = go (eqb k.0 0) refl e
    where
      go : (b : Bool) → eqb k.0 0 ≡ b → choose b (goes (state s E (i ∷ p))) ends ≡ ends → state_value ρ (state (position k) (element s i ∷ E) p) ≡ vnull
      go true z e = no_goes (state s E (i ∷ p)) e
      go false z e = position-lost k s i E p z

  -- a field that a mapping does not have
  pub field-null : (s : Selector) (ss : Selectors) (k : ℕ) (E : List Frame) (p : List ℕ) → next_field ss k (fields s ∷ E) p ≡ ends → state_value ρ
      (state (struct_mapping s ss) E (k ∷ p)) ≡ vnull
  unfolding state_value given
  field-null s ss k E p e = (λ j. within ρ E (λ σ. field-node ss k p (lost_field ss k (fields s ∷ E) p e) (given σ s) j)) ∙ within-null ρ E

  -- ---- mappings, of their input's value

  pub struct-value : (s : Selector) (ss : Selectors) (E : List Frame) → state_value ρ (state (struct_mapping s ss) E []) ≡ opened
      (λ vs. vstruct (givens vs ss)) (state_value ρ (state s E []))
  unfolding state_value given value_node opened
  struct-value s ss E = within_strict (opened (λ vs. vstruct (givens vs ss))) refl ρ E (λ σ. given σ s)

  pub list-value : (s e : Selector) (E : List Frame)
      → state_value ρ (state (list_mapping s e) E []) ≡ opened (λ vs. vlist (map_values (λ v. given (vcons v vnil) e) vs)) (state_value ρ (state s E []))
  unfolding state_value given value_node opened
  list-value s e E = within_strict (opened (λ vs. vlist (map_values (λ v. given (vcons v vnil) e) vs))) refl ρ E (λ σ. given σ s)

  pub array-value : (s e : Selector) (E : List Frame)
      → state_value ρ (state (array_mapping s e) E []) ≡ opened (λ vs. varray (map_values (λ v. given (vcons v vnil) e) vs)) (state_value ρ (state s E []))
  unfolding state_value given value_node opened
  array-value s e E = within_strict (opened (λ vs. varray (map_values (λ v. given (vcons v vnil) e) vs))) refl ρ E (λ σ. given σ s)

  -- ---- a constant, if it is run

  pub constant-value : (n : Bytes) (t : DataType) (v : Value) (E : List Frame) (p : List ℕ) → state_value ρ (state (constant n t v) E p) ≡ within ρ E
      (λ σ. value_node v p)
  unfolding state_value given
  constant-value n t v E p = refl

  pub run-fields : (s : Selector) (E : List Frame) (u : Value) → within ρ (fields s ∷ E) (λ σ. u) ≡ choose
      (has 0 (parts_of (state_value ρ (state s E [])))) u vnull
  unfolding within state_value value_node
  run-fields s E u = within_strict (opened (λ vs. u)) (opened-of_null (λ vs. u)) ρ E (λ σ. given σ s) ∙ opened_runs u (within ρ E (λ σ. given σ s))

  pub run-element : (s : Selector) (i : ℕ) (E : List Frame) (u : Value)
      → within ρ (element s i ∷ E) (λ σ. u) ≡ choose (has (i + 1) (parts_of (state_value ρ (state s E [])))) u vnull
  unfolding within state_value value_node
  run-element s i E u =
      within_strict (opened (λ vs. over_element (λ us. u) vs i)) (opened-of_null (λ vs. over_element (λ us. u) vs i)) ρ E (λ σ. given σ s)
      ∙ element_runs u i (within ρ E (λ σ. given σ s))

  -- ---- a part

  pub part-value : (s : Selector) (E : List Frame) (k : ℕ) {y : State} → Moves (state s E (k ∷ [])) y → state_value ρ y ≡ value_at
      (parts (state_value ρ (state s E []))) k
  unfolding state_value value_node
  part-value s E k m = sym (moves-value ρ m) ∙ within_strict (opened (λ vs. value_at vs k)) (opened-of_null (λ vs. value_at vs k)) ρ E (λ σ. given σ s) ∙
      opened-part k (within ρ E (λ σ. given σ s))
