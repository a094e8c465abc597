-- States, inputs and parts over trees, and where they stand. Assumes nothing.
use Prim.Native.Nat.{ℕ, ◌+◌, ◌≤◌}
use mathlib.Core.Path.{◌≡◌, refl, sym, subst}
use mathlib.Core.List.{List, [], ◌∷◌}
use native.Mathlib.Omega.{arith}
use Rattle.layout.specs.Bytes.{Bytes}
use Rattle.layout.specs.Tree.{DataType}
use Rattle.layout.specs.declared.columns.Position.{Position}
use Rattle.layout.proofs.Ways.{clash}
use Rattle.rules.specs.declared.outcome.CastOption.{CastOption}
use Rattle.values.specs.Value.{Value}
use Rattle.plan.specs.Selector.{Selector, position, constant, cast, rename, struct_mapping, list_mapping, array_mapping, Selectors}
use Rattle.walk.specs.code.Stands.{SelectorAt}
use Rattle.walk.specs.code.State.{Frame, element, State, state}
use Rattle.walk.specs.code.Moves.{Moves, m_rename, m_field, m_list, m_array, m_leave, m_leave-element, Stopped, s_column, s_constant, s_cast, s_rename}
use Rattle.walk.specs.code.Moves.{s_struct, s_list, s_array, s_no_element, s_no_field, Input, i_cast, i_rename, i_struct, i_list, i_array, Part, p_field}
use Rattle.walk.specs.code.Moves.{p_list, p_array, Mapping, is_struct_mapping, is_list_mapping, is-array, NoPart, n_field, Takes, t_field, t_element}
use Rattle.walk.proofs.View.{Viewed, v_position, v_constant, v_cast, v_rename, v_struct, v_list, v_array, view, nth-same, nth-below}

-- ---- a state by its parts

state-is : (x : State) {s : Selector} {E : List Frame} {p : List ℕ} → x.selector ≡ s → x.frames ≡ E → x.path ≡ p → state s E p ≡ x
state-is x a b c = λ i. record { selector = sym a i; frames = sym b i; path = sym c i }

module _ {x : State} where
  pub stop_constant : {n : Bytes} {t : DataType} {v : Value} → x.selector ≡ constant n t v → Stopped x
  stop_constant a = subst Stopped (state-is x a refl refl) s_constant

  pub stop_cast : {s : Selector} {t : DataType} {o : CastOption} → x.selector ≡ cast s t o → Stopped x
  stop_cast a = subst Stopped (state-is x a refl refl) s_cast

  pub stop_rename : {s : Selector} {n : Bytes} → x.selector ≡ rename s n → x.path ≡ [] → Stopped x
  stop_rename a b = subst Stopped (state-is x a refl b) s_rename

  pub stop_column : {k : Position} → x.selector ≡ position k → x.frames ≡ [] → Stopped x
  stop_column a b = subst Stopped (state-is x a b refl) s_column

  pub stop_element : {k : Position} {s : Selector} {i : ℕ} {E : List Frame} → x.selector ≡ position k → x.frames ≡ element s i ∷ E → (k.0 ≡ 0 → ⊥) →
      Stopped x
  stop_element a b c = subst Stopped (state-is x a b refl) (s_no_element (omega arith))

  pub stop_mapping : Mapping x.selector → x.path ≡ [] → Stopped x
  stop_mapping m b = go x.selector refl m
    where
      go : (y : Selector) → x.selector ≡ y → Mapping y → Stopped x
      go y a is_struct_mapping = subst Stopped (state-is x a refl b) s_struct
      go y a is_list_mapping = subst Stopped (state-is x a refl b) s_list
      go y a is-array = subst Stopped (state-is x a refl b) s_array

  pub stop_no_part : {k : ℕ} {p : List ℕ} → NoPart x.selector k → x.path ≡ k ∷ p → Stopped x
  stop_no_part {k} {p} n b = go x.selector refl n
    where
      go : (y : Selector) → x.selector ≡ y → NoPart y k → Stopped x
      go y a (n_field l) = subst Stopped (state-is x a refl b) (s_no_field l)

  -- ---- moves

  module _ {z : State} where
    pub move_rename : {s : Selector} {n : Bytes} {k : ℕ} {p : List ℕ} → x.selector ≡ rename s n → x.path ≡ k ∷ p → Moves
        (state s x.frames x.path) z → Moves x z
    move_rename {s} {k = k} {p = p} a b m =
        subst (λ (y : State). Moves y z) (state-is x a refl b) (m_rename (subst (λ (q : List ℕ). Moves (state s x.frames q) z) b m))

    pub move_part : {k : ℕ} {p : List ℕ} {f : Frame} {t : Selector} → Part x.selector k f t → x.path ≡ k ∷ p → Moves (state t (f ∷ x.frames) p) z →
        Moves x z
    move_part {k} {p} {f} {t} q b m = go x.selector f refl q m
      where
        go : (y : Selector) (f : Frame) → x.selector ≡ y → Part y k f t → Moves (state t (f ∷ x.frames) p) z → Moves x z
        go y f a (p_field n) m = subst (λ (y : State). Moves y z) (state-is x a refl b) (m_field n m)
        go y f a p_list m = subst (λ (y : State). Moves y z) (state-is x a refl b) (m_list m)
        go y f a p_array m = subst (λ (y : State). Moves y z) (state-is x a refl b) (m_array m)

    pub move_leave : {k : Position} {f : Frame} {E : List Frame} {i : ℕ} {s : Selector} → x.selector ≡ position k → x.frames ≡ f ∷ E → Takes k f i s
        → Moves (state s E (i ∷ x.path)) z → Moves x z
    move_leave {k} {E = E} {s = s} a b (t_field e) m =
        subst (λ (y : State). Moves y z) (state-is x a b refl) (m_leave (subst (λ (j : ℕ). Moves (state s E (j ∷ x.path)) z) e m))
    move_leave a b (t_element e) m = subst (λ (y : State). Moves y z) (state-is x a b refl) (m_leave-element e m)

-- ---- inputs and parts

pub part-mapping : {y : Selector} {k : ℕ} {f : Frame} {t : Selector} → Part y k f t → Mapping y
part-mapping (p_field n) = is_struct_mapping
part-mapping p_list = is_list_mapping
part-mapping p_array = is-array

pub part_same : {y : Selector} {k : ℕ} {f g : Frame} {t u : Selector} → Part y k f t → Part y k g u → (f ≡ g) × (t ≡ u)
part_same (p_field a) (p_field b) = (refl, nth-same a b)
part_same p_list p_list = (refl, refl)
part_same p_array p_array = (refl, refl)

pub part-some : {B : Type 0} {y : Selector} {k : ℕ} {f : Frame} {t : Selector} → Part y k f t → NoPart y k → B
part-some (p_field a) (n_field l) = let h = nth-below a in absurd (omega arith)
part-some {B = B} {k = k} (p_list {s = s} {e = e}) x6 = elim x6 [ ]
part-some {B = B} {k = k} (p_array {s = s} {e = e}) x7 = elim x7 [ ]

position-input : {B : Type 0} {k : Position} {x : Selector} → Input (position k) x → B
position-input {B} {k} {x} i = go (position k) refl i
  where
    go : (y : Selector) → y ≡ position k → Input y x → B
    go y e i_cast = clash (cc)
    go y e i_rename = clash (cc)
    go y e i_struct = clash (cc)
    go y e i_list = clash (cc)
    go y e i_array = clash (cc)

constant-input : {B : Type 0} {n : Bytes} {t : DataType} {v : Value} {x : Selector} → Input (constant n t v) x → B
constant-input {B} {n} {t} {v} {x} i = go (constant n t v) refl i
  where
    go : (y : Selector) → y ≡ constant n t v → Input y x → B
    go y e i_cast = clash (cc)
    go y e i_rename = clash (cc)
    go y e i_struct = clash (cc)
    go y e i_list = clash (cc)
    go y e i_array = clash (cc)

cast-input : {s : Selector} {t : DataType} {o : CastOption} {x : Selector} → Input (cast s t o) x → s ≡ x
cast-input i_cast = refl

rename-input : {s : Selector} {n : Bytes} {x : Selector} → Input (rename s n) x → s ≡ x
rename-input i_rename = refl

struct-input : {s : Selector} {ss : Selectors} {x : Selector} → Input (struct_mapping s ss) x → s ≡ x
struct-input i_struct = refl

list-input : {s e x : Selector} → Input (list_mapping s e) x → s ≡ x
list-input i_list = refl

array-input : {s e x : Selector} → Input (array_mapping s e) x → s ≡ x
array-input i_array = refl

-- the input of a selector that stands in a plan
pub record InputAt (s : Bytes) (at : ℕ) (P : SelectorAt s at) (x : Selector) : Type 0 where
  pub here : SelectorAt s (at + 1)
  pub is : here.tree ≡ x
  pub ends : here.end ≤ P.end

pub input-at : {s : Bytes} {at : ℕ} (P : SelectorAt s at) {x : Selector} → Input P.tree x → InputAt s at P x
input-at {s} {at} P {x} i = go (view P)
  where
    turned : {y : Selector} → P.tree ≡ y → Input y x
    turned e = subst (λ (y : Selector). Input y x) e i

    go : Viewed s at P → InputAt s at P x
    go (v_position h e) = position-input (turned e)
    go (v_constant h e) = constant-input (turned e)
    go (v_cast C) = record { here = C.input; is = cast-input (turned C.is); ends = omega (arith, C.inside, C.ends.0) }
    go (v_rename R) = record { here = R.input; is = rename-input (turned R.is); ends = R.inside }
    go (v_struct S) = record { here = S.input; is = struct-input (turned S.is); ends = omega (arith, S.inside, S.ends.0) }
    go (v_list L) = record { here = L.input; is = list-input (turned L.is); ends = L.inside }
    go (v_array A) = record { here = A.input; is = array-input (turned A.is); ends = A.inside }
