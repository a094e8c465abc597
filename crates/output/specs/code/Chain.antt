-- A leaf through its casts: where a walk goes from a selector to the column, constant or mapping that its value comes
-- from, and the casts that it passes.
use Rattle.std.specs.Prelude.{ℕ, zero, suc, ◌-◌, ◌≤◌, ◌<◌, ◌≡◌, List, [], ◌∷◌, eqb, length, get_or, take}
use Rattle.layout.specs.Parser.{choose}
use Rattle.layout.specs.Tree.{leaf_of, DataType, leaf, struct, list, array}
use Rattle.layout.specs.declared.leaf.Leaf.{Leaf}
use Rattle.layout.specs.declared.leaf.Leaf.TheVariants.{Null}
use Rattle.values.specs.Value.{Value}
use Rattle.plan.specs.Selector.{Selector, position, constant, cast, rename, struct_mapping, list_mapping, array_mapping, Selectors, snil, scons}
use Rattle.plan.specs.Run.{cast_leaf}
use Rattle.walk.specs.code.State.{Frame, fields, element, State, state}

-- what a walk does next
pub data Next : Type 0 where
  ends : Next
  goes : State → Next
  -- past a cast to that leaf kind
  casts : Leaf → State → Next

-- to the selector of the k-th field of a mapping, if it has one
unfoldable pub next_field : Selectors → ℕ → List Frame → List ℕ → Next
next_field snil k E p = ends
next_field (scons t ss) zero E p = goes (state t E p)
next_field (scons t ss) (suc k) E p = next_field ss k E p

-- a position inside a mapping: its input
unfoldable pub next_out : ℕ → List Frame → List ℕ → Next
next_out k [] p = ends
next_out k (fields s ∷ E) p = goes (state s E (k ∷ p))
next_out k (element s i ∷ E) p = choose (eqb k 0) (goes (state s E (i ∷ p))) ends

-- A cast changes a leaf: not what lies below a path, and only null is cast to a nested type.
unfoldable pub next_cast : DataType → State → List ℕ → Next
next_cast (leaf l) x [] = casts (leaf_of l) x
next_cast (leaf l) x (k ∷ p) = goes x
next_cast (struct fs) x p = goes x
next_cast (list t) x p = goes x
next_cast (array w t) x p = goes x

-- a mapping: into the part that the path takes next
unfoldable pub next_part : Selector → Selectors → List Frame → List ℕ → Next
next_part s ss E [] = ends
next_part s ss E (k ∷ p) = next_field ss k (fields s ∷ E) p

unfoldable pub next_element : Selector → Selector → List Frame → List ℕ → Next
next_element s e E [] = ends
next_element s e E (k ∷ p) = goes (state e (element s k ∷ E) p)

-- what a walk at a selector does next; at a column, a constant or a mapping whose value is asked for it ends
unfoldable pub next_of : Selector → List Frame → List ℕ → Next
next_of (position k) E p = next_out k.0 E p
next_of (constant n t v) E p = ends
next_of (cast s t o) E p = next_cast t (state s E p) p
next_of (rename s n) E p = goes (state s E p)
next_of (struct_mapping s ss) E p = next_part s ss E p
next_of (list_mapping s e) E p = next_element s e E p
next_of (array_mapping s e) E p = next_element s e E p

abbrev pub next : State → Next
next x = next_of x.selector x.frames x.path

-- `Passed x ks y`: from x to y past casts to the leaf kinds ks, outermost first
pub data Passed : State → List Leaf → State → Type 0 where
  p_here : {x : State} → Passed x [] x
  p_goes : {x y z : State} {ks : List Leaf} → next x ≡ goes y → Passed y ks z → Passed x ks z
  p_casts : {x y z : State} {k : Leaf} {ks : List Leaf} → next x ≡ casts k y → Passed y ks z → Passed x (k ∷ ks) z

-- a value through casts
unfoldable pub cast_all : List Leaf → Value → Value
cast_all [] v = v
cast_all (k ∷ ks) v = cast_leaf k (cast_all ks v)

-- of the first i of the casts ks, counted from the innermost on, those from `left` on are among the kinds, as far as
-- there is room
pub record Kept (ks : List Leaf) (i left : ℕ) (kinds : List Leaf) : Type 0 where
  pub room : length kinds ≡ 1024
  pub right : (m : ℕ) → left ≤ m → m < i → m < 1024 → get_or kinds m Null ≡ get_or ks (i - 1 - m) Null

-- the casts ks of v₀ are the first i of them of v
pub record Casting (ks : List Leaf) (v₀ : Value) (i : ℕ) (v : Value) : Type 0 where
  pub within : i ≤ length ks
  pub same : cast_all ks v₀ ≡ cast_all (take i ks) v
