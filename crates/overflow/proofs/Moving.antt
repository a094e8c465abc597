-- The moves of a walk keep what is asked. Assumes nothing.
use Prim.Native.Nat.{ℕ}
use mathlib.Core.Path.{◌≡◌, refl, ap, ◌∙◌}
use mathlib.Core.Bool.{Bool, ◌||◌}
use mathlib.Core.List.{List, ◌∷◌}
use Rattle.layout.specs.Bytes.{Bytes}
use Rattle.layout.specs.Tree.{DataType, struct, list, array, Fields}
use Rattle.layout.specs.declared.columns.Position.{Position}
use Rattle.rules.specs.declared.outcome.CastOption.{CastOption}
use Rattle.values.specs.Value.{Value, Values, vnil, vcons}
use Rattle.plan.specs.Selector.{Selector, position, cast, rename, struct_mapping, list_mapping, array_mapping, Selectors}
use Rattle.plan.specs.Run.{value_at, map_values, on_struct, on_list, on_array, eval, evals}
use Rattle.plan.specs.Reach.{SelectorAt as Nth, s_here, s_there}
use Rattle.plan.specs.code.Fits.{FitsOver, over-null, over-struct, over-list, over-array, FitsAllOver}
use Rattle.plan.proofs.Typed.{Typed, t_cast, t_rename, t_struct, t_list, t_array, TypedAll, t_cons}
use Rattle.plan.proofs.Preserve.{eval-over}
use Rattle.walk.specs.code.State.{Frame, fields, element, State, state}
use Rattle.walk.specs.code.Moves.{Moves, m_here, m_rename, m_field, m_list, m_array, m_leave, m_leave-element}
use Rattle.overflow.specs.code.Some.{any_of, some_part, some, in_struct_lem, in_elements, some_in, asked}
use Rattle.overflow.specs.declared.want.Want.{Want}
use Rattle.overflow.proofs.Scoped.{Scoped, in_fields, in_list, in_array, TypedState, in_same}

-- ---- states stay typed

module _ {Γ : Fields} {E : List Frame} where
  -- the input of an entered mapping
  pub outward-fields : {s : Selector} {Δ : Fields} (q : List ℕ) → Scoped Γ (fields s ∷ E) Δ → TypedState Γ (state s E q)
  outward-fields q (in_fields {n = n} {Δ = Δ} {fs = fs} c d) = record { scope = Δ; name = n; type = struct fs; scoped = c; typed = d }

  pub outward-element : {s : Selector} {i : ℕ} {Δ : Fields} (q : List ℕ) → Scoped Γ (element s i ∷ E) Δ → TypedState Γ (state s E q)
  outward-element q (in_list {n = n} {Δ = Δ} {t = t} c d) = record { scope = Δ; name = n; type = list t; scoped = c; typed = d }
  outward-element q (in_array {w = w} {n = n} {Δ = Δ} {t = t} c d) = record { scope = Δ; name = n; type = array w t; scoped = c; typed = d }

  module _ {Δ : Fields} (q : List ℕ) (c : Scoped Γ E Δ) where
    rename-inner : {n : Bytes} {t : DataType} {s : Selector} {m : Bytes} → Typed Δ (rename s m) n t → TypedState Γ (state s E q)
    rename-inner {t = t} (t_rename {m = m} d b) = record { scope = Δ; name = m; type = t; scoped = c; typed = d }

    cast-inner : {n : Bytes} {t : DataType} {s : Selector} {u : DataType} {o : CastOption} → Typed Δ (cast s u o) n t → TypedState Γ (state s E q)
    cast-inner {n} (t_cast {t = t} d r b) = record { scope = Δ; name = n; type = t; scoped = c; typed = d }

    struct-inner : {n : Bytes} {t : DataType} {s : Selector} {ss : Selectors} → Typed Δ (struct_mapping s ss) n t → TypedState Γ (state s E q)
    struct-inner {n} (t_struct {fs = fs} d ds b) = record { scope = Δ; name = n; type = struct fs; scoped = c; typed = d }

    list-inner : {n : Bytes} {t : DataType} {s e : Selector} → Typed Δ (list_mapping s e) n t → TypedState Γ (state s E q)
    list-inner {n} (t_list {t = u} d f b) = record { scope = Δ; name = n; type = list u; scoped = c; typed = d }

    array-inner : {n : Bytes} {t : DataType} {s e : Selector} → Typed Δ (array_mapping s e) n t → TypedState Γ (state s E q)
    array-inner {n} (t_array {w = w} {t = u} d f b) = record { scope = Δ; name = n; type = array w u; scoped = c; typed = d }

    nth-typed : {s x : Selector} {ss : Selectors} {k : ℕ} {fs gs : Fields} {m : Bytes} → Typed Δ s m (struct fs) → TypedAll fs ss gs → Nth ss k x →
        TypedState Γ (state x (fields s ∷ E) q)
    nth-typed {fs = fs} d (t_cons {n = m} {t = u} e ds) s_here = record { scope = fs; name = m; type = u; scoped = in_fields c d; typed = e }
    nth-typed d (t_cons e ds) (s_there a) = nth-typed d ds a
    nth-typed {s = s} {k = k} {m = m} d Rattle.plan.proofs.Typed.t_nil x10 = elim x10 [ ]

    field-inner : {n : Bytes} {t : DataType} {s x : Selector} {ss : Selectors} {k : ℕ} → Nth ss k x → Typed Δ (struct_mapping s ss) n t → TypedState Γ
        (state x (fields s ∷ E) q)
    field-inner a (t_struct d ds b) = nth-typed d ds a

    each-inner : {n : Bytes} {t : DataType} {s e : Selector} (i : ℕ) → Typed Δ (list_mapping s e) n t → TypedState Γ (state e (element s i ∷ E) q)
    each-inner i (t_list {m = m} {u = u} d f b) = record { scope = _; name = m; type = u; scoped = in_list c d; typed = f }

    each-array-inner : {n : Bytes} {t : DataType} {s e : Selector} (i : ℕ) → Typed Δ (array_mapping s e) n t → TypedState Γ (state e (element s i ∷ E) q)
    each-array-inner i (t_array {m = m} {u = u} d f b) = record { scope = _; name = m; type = u; scoped = in_array c d; typed = f }

module _ {Γ : Fields} {E : List Frame} {p : List ℕ} (q : List ℕ) where
  pub rename-typed : {s : Selector} {m : Bytes} → TypedState Γ (state (rename s m) E p) → TypedState Γ (state s E q)
  rename-typed T = rename-inner q T.scoped T.typed

  pub cast-typed : {s : Selector} {u : DataType} {o : CastOption} → TypedState Γ (state (cast s u o) E p) → TypedState Γ (state s E q)
  cast-typed T = cast-inner q T.scoped T.typed

  pub struct-typed : {s : Selector} {ss : Selectors} → TypedState Γ (state (struct_mapping s ss) E p) → TypedState Γ (state s E q)
  struct-typed T = struct-inner q T.scoped T.typed

  pub list-typed : {s e : Selector} → TypedState Γ (state (list_mapping s e) E p) → TypedState Γ (state s E q)
  list-typed T = list-inner q T.scoped T.typed

  pub array_typed : {s e : Selector} → TypedState Γ (state (array_mapping s e) E p) → TypedState Γ (state s E q)
  array_typed T = array-inner q T.scoped T.typed

pub moved_typed : {Γ : Fields} {x y : State} → Moves x y → TypedState Γ x → TypedState Γ y
moved_typed m_here T = T
moved_typed (m_rename {k = k} {p = p} m) T = moved_typed m (rename-typed (k ∷ p) T)
moved_typed (m_field {p = p} a m) T = moved_typed m (field-inner p T.scoped a T.typed)
moved_typed (m_list {k = k} {p = p} m) T = moved_typed m (each-inner p T.scoped k T.typed)
moved_typed (m_array {k = k} {p = p} m) T = moved_typed m (each-array-inner p T.scoped k T.typed)
moved_typed (m_leave {k = k} {p = p} m) T = moved_typed m (outward-fields (k.0 ∷ p) T.scoped)
moved_typed (m_leave-element {i = i} {p = p} e m) T = moved_typed m (outward-element (i ∷ p) T.scoped)

-- ---- into a mapping

nth-value : (vs : Values) {ss : Selectors} {k : ℕ} {x : Selector} → Nth ss k x → value_at (evals vs ss) k ≡ eval vs x
unfolding value_at evals
nth-value vs s_here = refl
nth-value vs (s_there a) = nth-value vs a

any-mapped : (f : Value → Bool) (g : Value → Value) (vs : Values) → any_of f (map_values g vs) ≡ any_of (λ v. f (g v)) vs
unfolding any_of map_values
any-mapped f g vnil = refl
any-mapped f g (vcons v vs) = ap (λ b. f (g v) || b) (any-mapped f g vs)

module _ (f : Value → Bool) (k : ℕ) where
  into-field : {fs : Fields} {v : Value} {ss : Selectors} {x : Selector} → Nth ss k x → FitsOver (struct fs) v
      → some_part k f (on_struct (λ vs. evals vs ss) v) ≡ in_struct_lem (λ vs. f (eval vs x)) v
  unfolding some_part on_struct in_struct_lem
  into-field a over-null = refl
  into-field a (over-struct {vs = vs} h) = ap f (nth-value vs a)

  into-list : {t : DataType} {v : Value} (g : Values → Value) → FitsOver (list t) v → some_part k f (on_list (λ x. g (vcons x vnil)) v) ≡ in_elements
      (λ vs. f (g vs)) v
  unfolding some_part on_list in_elements
  into-list g over-null = refl
  into-list g (over-list {vs = vs} c h) = any-mapped f (λ x. g (vcons x vnil)) vs

  into-array : {w : ℕ} {t : DataType} {v : Value} (g : Values → Value) → FitsOver (array w t) v → some_part k f (on_array (λ x. g (vcons x vnil)) v) ≡
      in_elements (λ vs. f (g vs)) v
  unfolding some_part on_array in_elements
  into-array g over-null = refl
  into-array g (over-array {vs = vs} c h) = any-mapped f (λ x. g (vcons x vnil)) vs

  -- ---- out of a mapping

  from_field : {fs : Fields} {v : Value} → FitsOver (struct fs) v → in_struct_lem (λ vs. f (value_at vs k)) v ≡ some_part k f v
  unfolding some_part in_struct_lem
  from_field over-null = refl
  from_field (over-struct h) = refl

  from_list : {t : DataType} {v : Value} (j : ℕ) → j ≡ 0 → FitsOver (list t) v → in_elements (λ vs. f (value_at vs j)) v ≡ some_part k f v
  unfolding some_part in_elements value_at
  from_list j e over-null = refl
  from_list j e (over-list c h) = rw e

  from-array : {w : ℕ} {t : DataType} {v : Value} (j : ℕ) → j ≡ 0 → FitsOver (array w t) v → in_elements (λ vs. f (value_at vs j)) v ≡ some_part k f v
  unfolding some_part in_elements value_at
  from-array j e over-null = refl
  from-array j e (over-array c h) = rw e

-- ---- a move

module _ {Γ : Fields} {ρ : Values} (r : FitsAllOver Γ ρ) (w : Want) (p : List ℕ) {E : List Frame} where
  module _ {Δ : Fields} (c : Scoped Γ E Δ) where
    enter-field : {n : Bytes} {t : DataType} {s x : Selector} {ss : Selectors} (k : ℕ) → Nth ss k x → Typed Δ (struct_mapping s ss) n t
        → asked ρ (state (struct_mapping s ss) E (k ∷ p)) w ≡ asked ρ (state x (fields s ∷ E) p) w
    unfolding asked some_in some eval
    enter-field {s = s} {x = x} {ss = ss} k a (t_struct d ds b) =
        in_same r (λ σ. some w (k ∷ p) (on_struct (λ vs. evals vs ss) (eval σ s))) (λ σ. in_struct_lem (λ vs. some w p (eval vs x)) (eval σ s)) c
        (λ σ h. into-field (λ v. some w p v) k a (eval-over d h))

    enter-list : {n : Bytes} {t : DataType} {s e : Selector} (k : ℕ) → Typed Δ (list_mapping s e) n t → asked ρ (state (list_mapping s e) E (k ∷ p)) w ≡
        asked ρ (state e (element s k ∷ E) p) w
    unfolding asked some_in some eval
    enter-list {s = s} {e = e} k (t_list d f b) =
        in_same r (λ σ. some w (k ∷ p) (on_list (λ v. eval (vcons v vnil) e) (eval σ s))) (λ σ. in_elements (λ vs. some w p (eval vs e)) (eval σ s)) c
        (λ σ h. into-list (λ v. some w p v) k (λ vs. eval vs e) (eval-over d h))

    enter-array : {n : Bytes} {t : DataType} {s e : Selector} (k : ℕ) → Typed Δ (array_mapping s e) n t
        → asked ρ (state (array_mapping s e) E (k ∷ p)) w ≡ asked ρ (state e (element s k ∷ E) p) w
    unfolding asked some_in some eval
    enter-array {s = s} {e = e} k (t_array d f b) =
        in_same r (λ σ. some w (k ∷ p) (on_array (λ v. eval (vcons v vnil) e) (eval σ s))) (λ σ. in_elements (λ vs. some w p (eval vs e)) (eval σ s)) c
        (λ σ h. into-array (λ v. some w p v) k (λ vs. eval vs e) (eval-over d h))

  leave-field : {s : Selector} {Δ : Fields} (k : Position) → Scoped Γ (fields s ∷ E) Δ → asked ρ (state (position k) (fields s ∷ E) p) w ≡ asked ρ
      (state s E (k.0 ∷ p)) w
  unfolding asked some_in some eval
  leave-field {s} k (in_fields c d) =
      in_same r (λ σ. in_struct_lem (λ vs. some w p (value_at vs k.0)) (eval σ s)) (λ σ. some w (k.0 ∷ p) (eval σ s)) c
      (λ σ h. from_field (λ v. some w p v) k.0 (eval-over d h))

  leave-element : {s : Selector} {Δ : Fields} (k : Position) {i : ℕ} → k.0 ≡ 0 → Scoped Γ (element s i ∷ E) Δ
      → asked ρ (state (position k) (element s i ∷ E) p) w ≡ asked ρ (state s E (i ∷ p)) w
  unfolding asked some_in some eval
  leave-element {s} k {i} e (in_list c d) =
      in_same r (λ σ. in_elements (λ vs. some w p (value_at vs k.0)) (eval σ s)) (λ σ. some w (i ∷ p) (eval σ s)) c
      (λ σ h. from_list (λ v. some w p v) i k.0 e (eval-over d h))
  leave-element {s} k {i} e (in_array c d) =
      in_same r (λ σ. in_elements (λ vs. some w p (value_at vs k.0)) (eval σ s)) (λ σ. some w (i ∷ p) (eval σ s)) c
      (λ σ h. from-array (λ v. some w p v) i k.0 e (eval-over d h))

pub rename-asked : (ρ : Values) (w : Want) (E : List Frame) (p : List ℕ) (s : Selector) (m : Bytes) → asked ρ (state (rename s m) E p) w ≡ asked ρ
    (state s E p) w
unfolding asked eval
rename-asked ρ w E p s m = refl

pub moved_asked : {Γ : Fields} {ρ : Values} → FitsAllOver Γ ρ → (w : Want) {x y : State} → Moves x y → TypedState Γ x → asked ρ x w ≡ asked ρ y w
moved_asked r w m_here T = refl
moved_asked r w (m_rename {s = s} {n = n} {E = E} {k = k} {p = p} m) T = rename-asked _ w E (k ∷ p) s n ∙ moved_asked r w m (rename-typed (k ∷ p) T)
moved_asked r w (m_field {k = k} {p = p} a m) T = enter-field r w p T.scoped k a T.typed ∙ moved_asked r w m (field-inner p T.scoped a T.typed)
moved_asked r w (m_list {k = k} {p = p} m) T = enter-list r w p T.scoped k T.typed ∙ moved_asked r w m (each-inner p T.scoped k T.typed)
moved_asked r w (m_array {k = k} {p = p} m) T = enter-array r w p T.scoped k T.typed ∙ moved_asked r w m (each-array-inner p T.scoped k T.typed)
moved_asked r w (m_leave {k = k} {p = p} m) T = leave-field r w p k T.scoped ∙ moved_asked r w m (outward-fields (k.0 ∷ p) T.scoped)
moved_asked r w (m_leave-element {k = k} {i = i} {p = p} e m) T = leave-element r w p k e T.scoped ∙ moved_asked r w m (outward-element (i ∷ p) T.scoped)
