-- There is room for each mapping that a walk enters. Assumes nothing.
use Prim.Native.Nat.{ℕ, ◌≤◌}
use mathlib.Core.Path.{◌≡◌, refl}
use mathlib.Core.List.{List, ◌∷◌}
use native.Mathlib.Omega.{arith}
use lib.ListN.{length}
use Rattle.layout.specs.Bytes.{Bytes}
use Rattle.layout.specs.Tree.{DataType}
use Rattle.rules.specs.declared.outcome.CastOption.{CastOption}
use Rattle.plan.specs.Selector.{Selector, cast, rename, struct_mapping, list_mapping, array_mapping, Selectors, nesting, nesting_all}
use Rattle.plan.specs.Reach.{SelectorAt as Nth, s_here, s_there}
use Rattle.walk.specs.code.State.{Frame, fields, element, State, state}
use Rattle.walk.specs.code.Moves.{Moves, m_here, m_rename, m_field, m_list, m_array, m_leave, m_leave-element}
use Rattle.walk.specs.code.Walks.{Entries, e_none, e_more}
use Rattle.checker.specs.code.Shallow.{Shallow}

pub nth-nests : {ss : Selectors} {k : ℕ} {s : Selector} → Nth ss k s → nesting s ≤ nesting_all ss
unfolding nesting_all
nth-nests s_here = omega arith
nth-nests (s_there h) = let l = nth-nests h in omega arith

module _ {E : List Frame} {p : List ℕ} where
  pub cast-shallow : {s : Selector} {t : DataType} {o : CastOption} → Shallow (state (cast s t o) E p) → Shallow (state s E p)
  unfolding nesting
  cast-shallow H = record { here = omega (arith, H.here); frames = H.frames }

  pub rename-shallow : {s : Selector} {n : Bytes} → Shallow (state (rename s n) E p) → Shallow (state s E p)
  unfolding nesting
  rename-shallow H = record { here = omega (arith, H.here); frames = H.frames }

  module _ {s : Selector} {q : List ℕ} where
    pub struct-shallow : {ss : Selectors} → Shallow (state (struct_mapping s ss) E p) → Shallow (state s E q)
    unfolding nesting
    struct-shallow H = record { here = omega (arith, H.here); frames = H.frames }

    pub list-shallow : {e : Selector} → Shallow (state (list_mapping s e) E p) → Shallow (state s E q)
    unfolding nesting
    list-shallow H = record { here = omega (arith, H.here); frames = H.frames }

    pub array-shallow : {e : Selector} → Shallow (state (array_mapping s e) E p) → Shallow (state s E q)
    unfolding nesting
    array-shallow H = record { here = omega (arith, H.here); frames = H.frames }

    pub field-shallow : {x : Selector} {ss : Selectors} {k : ℕ} → Nth ss k x → Shallow (state (struct_mapping s ss) E p) → Shallow (state x (fields s ∷ E) q)
    unfolding nesting
    field-shallow h H = let l = nth-nests h in record { here = omega (arith, H.here); frames = (omega (arith, H.here), H.frames) }

    pub element-shallow : {e : Selector} {k : ℕ} → Shallow (state (list_mapping s e) E p) → Shallow (state e (element s k ∷ E) q)
    unfolding nesting
    element-shallow H = record { here = omega (arith, H.here); frames = (omega (arith, H.here), H.frames) }

    pub array_element-shallow : {e : Selector} {k : ℕ} → Shallow (state (array_mapping s e) E p) → Shallow (state e (element s k ∷ E) q)
    unfolding nesting
    array_element-shallow H = record { here = omega (arith, H.here); frames = (omega (arith, H.here), H.frames) }

    -- the input of the innermost mapping
    pub outer-shallow : {x : Selector} → Shallow (state x (fields s ∷ E) p) → Shallow (state s E q)
    outer-shallow H = record { here = omega (arith, H.frames.0); frames = H.frames.1 }

    pub outer-element-shallow : {x : Selector} {i : ℕ} → Shallow (state x (element s i ∷ E) p) → Shallow (state s E q)
    outer-element-shallow H = record { here = omega (arith, H.frames.0); frames = H.frames.1 }

pub shallow_moved : {x y : State} → Moves x y → Shallow x → Shallow y
shallow_moved m_here H = H
shallow_moved (m_rename m) H = shallow_moved m (rename-shallow H)
shallow_moved (m_field h m) H = shallow_moved m (field-shallow h H)
shallow_moved (m_list m) H = shallow_moved m (element-shallow H)
shallow_moved (m_array m) H = shallow_moved m (array_element-shallow H)
shallow_moved (m_leave m) H = shallow_moved m (outer-shallow H)
shallow_moved (m_leave-element h m) H = shallow_moved m (outer-element-shallow H)

pub entries-count : {plan : Bytes} {maps path : List ℕ} {d p : ℕ} {E : List Frame} → Entries plan maps path d p E → d ≡ length E
entries-count e_none = refl
entries-count (e_more h r) = let l = entries-count r in omega arith
