-- The moves of a walk. A mapping is entered at the part that the path takes next; a position leaves the innermost
-- mapping for its input, with the number of the part put before the path; a rename has no say where the path goes on.
use Rattle.std.specs.Prelude.{ℕ, ◌≤◌, ◌<◌, ◌≡◌, List, [], ◌∷◌}
use Rattle.layout.specs.Bytes.{Bytes}
use Rattle.layout.specs.Tree.{DataType}
use Rattle.layout.specs.declared.columns.Position.{Position}
use Rattle.rules.specs.declared.outcome.CastOption.{CastOption}
use Rattle.values.specs.Value.{Value}
use Rattle.plan.specs.Selector.{Selector, position, constant, cast, rename, struct_mapping, list_mapping, array_mapping, Selectors, count_selectors}
use Rattle.plan.specs.Reach.{SelectorAt as Nth}
use Rattle.walk.specs.code.State.{Frame, fields, element, State, state}

pub data Moves : State → State → Type 0 where
  m_here : {x : State} → Moves x x
  m_rename : {s : Selector} {n : Bytes} {E : List Frame} {k : ℕ} {p : List ℕ} {x : State} → Moves (state s E (k ∷ p)) x → Moves (state (rename s n) E (k ∷ p)) x
  m_field : {s t : Selector} {ss : Selectors} {E : List Frame} {k : ℕ} {p : List ℕ} {x : State} → Nth ss k t → Moves (state t (fields s ∷ E) p) x
      → Moves (state (struct_mapping s ss) E (k ∷ p)) x
  m_list : {s e : Selector} {E : List Frame} {k : ℕ} {p : List ℕ} {x : State} → Moves (state e (element s k ∷ E) p) x → Moves
      (state (list_mapping s e) E (k ∷ p)) x
  m_array : {s e : Selector} {E : List Frame} {k : ℕ} {p : List ℕ} {x : State} → Moves (state e (element s k ∷ E) p) x → Moves
      (state (array_mapping s e) E (k ∷ p)) x
  m_leave : {s : Selector} {k : Position} {E : List Frame} {p : List ℕ} {x : State} → Moves (state s E (k.0 ∷ p)) x → Moves
      (state (position k) (fields s ∷ E) p) x
  m_leave-element : {s : Selector} {k : Position} {i : ℕ} {E : List Frame} {p : List ℕ} {x : State} → k.0 ≡ 0 → Moves (state s E (i ∷ p)) x
      → Moves (state (position k) (element s i ∷ E) p) x

-- where no move is left: a column of the record; a constant or a cast; a rename or a mapping at the path's end; or, in
-- what the check has not passed, a position that an element does not have, and a field that a mapping does not have
pub data Stopped : State → Type 0 where
  s_column : {k : Position} {p : List ℕ} → Stopped (state (position k) [] p)
  s_constant : {n : Bytes} {t : DataType} {v : Value} {E : List Frame} {p : List ℕ} → Stopped (state (constant n t v) E p)
  s_cast : {s : Selector} {t : DataType} {o : CastOption} {E : List Frame} {p : List ℕ} → Stopped (state (cast s t o) E p)
  s_rename : {s : Selector} {n : Bytes} {E : List Frame} → Stopped (state (rename s n) E [])
  s_struct : {s : Selector} {ss : Selectors} {E : List Frame} → Stopped (state (struct_mapping s ss) E [])
  s_list : {s e : Selector} {E : List Frame} → Stopped (state (list_mapping s e) E [])
  s_array : {s e : Selector} {E : List Frame} → Stopped (state (array_mapping s e) E [])
  s_no_element : {s : Selector} {k : Position} {i : ℕ} {E : List Frame} {p : List ℕ} → 0 < k.0 → Stopped (state (position k) (element s i ∷ E) p)
  s_no_field : {s : Selector} {ss : Selectors} {E : List Frame} {k : ℕ} {p : List ℕ} → count_selectors ss ≤ k → Stopped (state (struct_mapping s ss) E (k ∷ p))

-- `Input s i`: the transform s takes what the selector i gives
pub data Input : Selector → Selector → Type 0 where
  i_cast : {s : Selector} {t : DataType} {o : CastOption} → Input (cast s t o) s
  i_rename : {s : Selector} {n : Bytes} → Input (rename s n) s
  i_struct : {s : Selector} {ss : Selectors} → Input (struct_mapping s ss) s
  i_list : {s e : Selector} → Input (list_mapping s e) s
  i_array : {s e : Selector} → Input (array_mapping s e) s

-- `Part s k f t`: the part k of what the mapping s makes comes from the selector t, inside s entered as f
pub data Part : Selector → ℕ → Frame → Selector → Type 0 where
  p_field : {s t : Selector} {ss : Selectors} {k : ℕ} → Nth ss k t → Part (struct_mapping s ss) k (fields s) t
  p_list : {s e : Selector} {k : ℕ} → Part (list_mapping s e) k (element s k) e
  p_array : {s e : Selector} {k : ℕ} → Part (array_mapping s e) k (element s k) e

-- a mapping; and one that has no part k
pub data Mapping : Selector → Type 0 where
  is_struct_mapping : {s : Selector} {ss : Selectors} → Mapping (struct_mapping s ss)
  is_list_mapping : {s e : Selector} → Mapping (list_mapping s e)
  is-array : {s e : Selector} → Mapping (array_mapping s e)

pub data NoPart : Selector → ℕ → Type 0 where
  n_field : {s : Selector} {ss : Selectors} {k : ℕ} → count_selectors ss ≤ k → NoPart (struct_mapping s ss) k

-- `Takes k f i s`: the position k, inside the mapping entered as f, takes the part i of what the selector s gives
pub data Takes : Position → Frame → ℕ → Selector → Type 0 where
  t_field : {k : Position} {i : ℕ} {s : Selector} → i ≡ k.0 → Takes k (fields s) i s
  t_element : {k : Position} {i : ℕ} {s : Selector} → k.0 ≡ 0 → Takes k (element s i) i s
