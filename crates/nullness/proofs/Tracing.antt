-- A walk through selectors that passed the check, with a path into what they give: its moves keep what can be null
-- there. Assumes nothing.
use Prim.Native.Nat.{ℕ, zero, suc, ◌≤◌, ◌<◌}
use mathlib.Core.Path.{◌≡◌, refl, sym, ap, ◌∙◌, subst}
use mathlib.Core.Bool.{true}
use mathlib.Core.List.{List, [], ◌∷◌}
use native.Mathlib.Omega.{arith}
use Rattle.layout.specs.Bytes.{Bytes}
use Rattle.layout.specs.Tree.{DataType, struct, list, array, Fields, fnil, fcons}
use Rattle.layout.specs.declared.columns.Position.{Position}
use Rattle.layout.proofs.Ways.{clash}
use Rattle.rules.specs.declared.outcome.CastOption.{CastOption}
use Rattle.plan.specs.Result.{gives}
use Rattle.plan.specs.Selector.{Selector, position, cast, rename, struct_mapping, list_mapping, array_mapping, Selectors, count_selectors}
use Rattle.plan.specs.Check.{Column, column_at, element_of}
use Rattle.plan.specs.Reach.{SelectorAt as Nth, s_here, s_there}
use Rattle.plan.specs.Nullness.{Nullnesses, inside_of, nullness_at, nullness_of}
use Rattle.plan.specs.Marks.{allowed}
use Rattle.plan.specs.code.Paths.{place_in}
use Rattle.plan.proofs.Results.{never_refused, gives_eq}
use Rattle.plan.proofs.Typed.{At, here, there, at_column_lem, Typed, t_position, t_cast, t_rename, t_struct, t_list, t_array, TypedAll, t_nil, t_cons}
use Rattle.plan.proofs.Paths.{place-field}
use Rattle.walk.specs.code.State.{Frame, fields, element, State, state}
use Rattle.walk.specs.code.Moves.{Moves, m_here, m_rename, m_field, m_list, m_array, m_leave, m_leave-element}
use Rattle.overflow.proofs.Scoped.{Scoped, in_fields, in_list, in_array}
use Rattle.nullness.specs.code.Places.{Leads, l_here, l_field, l_list, l_array, fills_at}
use Rattle.nullness.specs.code.Stops.{scope_of, fills_here}

-- elements were entered by the number 0
abbrev pub Zeroed : List Frame → Type 0
Zeroed [] = Unit {0}
Zeroed (fields s ∷ E) = Zeroed E
Zeroed (element s i ∷ E) = (i ≡ 0) × Zeroed E

pub record Traced (Γ : Fields) (x : State) : Type 0 where
  pub scope : Fields
  pub name : Bytes
  pub type : DataType
  pub end : DataType
  pub scoped : Scoped Γ x.frames scope
  pub typed : Typed scope x.selector name type
  pub leads : Leads type x.path end
  pub zeroed : Zeroed x.frames

-- a field of what a struct mapping gives
record FieldOf (fs : Fields) (x : Selector) (p : List ℕ) (u : DataType) : Type 0 where
  name : Bytes
  type : DataType
  typed : Typed fs x name type
  leads : Leads type p u

nth-field : {fs gs : Fields} {ss : Selectors} {k : ℕ} {x : Selector} {c : Column} {p : List ℕ} {u : DataType}
    → Nth ss k x → TypedAll fs ss gs → column_at gs k ≡ gives c → Leads c.type p u → FieldOf fs x p u
unfolding column_at
nth-field {p = p} {u} s_here (t_cons {n = m} {t = v} d ds) e L =
    record { name = m; type = v; typed = d; leads = subst (λ (a : Column). Leads a.type p u) (sym (gives_eq e)) L }
nth-field (s_there a) (t_cons d ds) e L = nth-field a ds e L

no_field : {B : Type 0} {fs gs : Fields} {ss : Selectors} {k : ℕ} {c : Column} → TypedAll fs ss gs → count_selectors ss ≤ k → column_at gs k ≡ gives c → B
unfolding count_selectors column_at
no_field t_nil h e = clash (cc)
no_field {k = zero} (t_cons d ds) h e = absurd (omega arith)
no_field {k = suc k} (t_cons d ds) h e = no_field {k = k} ds (omega arith) e

only-type : {m n : Bytes} {a t : DataType} {k : ℕ} → At (fcons m a fnil) k n t → k ≡ 0 → a ≡ t
only-type here e = refl
only-type (there x) e = absurd (omega arith)

pub only-first : {B : Type 0} {m n : Bytes} {a t : DataType} {k : ℕ} → At (fcons m a fnil) k n t → 0 < k → B
unfolding column_at
only-first here h = absurd (omega arith)
only-first (there x) h = never_refused (at_column_lem x) refl

module _ {Γ : Fields} {E : List Frame} (z : Zeroed E) where
  module _ {Δ : Fields} (c : Scoped Γ E Δ) where
    pub to-rename : {s : Selector} {m n : Bytes} {t u : DataType} {p : List ℕ} → Typed Δ (rename s m) n t → Leads t p u → Traced Γ (state s E p)
    to-rename {t = t} {u} (t_rename {m = m} d b) L = record { scope = Δ; name = m; type = t; end = u; scoped = c; typed = d; leads = L; zeroed = z }

    pub to-cast : {s : Selector} {n : Bytes} {t u : DataType} {o : CastOption} → Typed Δ (cast s u o) n t → Traced Γ (state s E [])
    to-cast {n = n} (t_cast {t = t} d r b) = record { scope = Δ; name = n; type = t; end = t; scoped = c; typed = d; leads = l_here; zeroed = z }

    pub to-struct : {s : Selector} {ss : Selectors} {n : Bytes} {t : DataType} → Typed Δ (struct_mapping s ss) n t → Traced Γ (state s E [])
    to-struct {n = n} (t_struct {fs = fs} d ds b) = record {
      scope = Δ;
      name = n;
      type = struct fs;
      end = struct fs;
      scoped = c;
      typed = d;
      leads =
          l_here;
      zeroed = z;
    }

    pub to-list : {s e : Selector} {n : Bytes} {t : DataType} → Typed Δ (list_mapping s e) n t → Traced Γ (state s E [])
    to-list {n = n} (t_list {t = t} d f b) = record { scope = Δ; name = n; type = list t; end = list t; scoped = c; typed = d; leads = l_here; zeroed = z }

    pub to-array : {s e : Selector} {n : Bytes} {t : DataType} → Typed Δ (array_mapping s e) n t → Traced Γ (state s E [])
    to-array {n = n} (t_array {w = w} {t = t} d f b) =
        record { scope = Δ; name = n; type = array w t; end = array w t; scoped = c; typed = d; leads = l_here; zeroed = z }

    into-field : {s x : Selector} {ss : Selectors} {n : Bytes} {t u : DataType} {k : ℕ} {p : List ℕ} → Nth ss k x → Typed Δ (struct_mapping s ss) n t →
        Leads t (k ∷ p) u
        → Traced Γ (state x (fields s ∷ E) p)
    into-field {u = u} a (t_struct {fs = fs} d ds b) (l_field e L) =
        let F = nth-field a ds e L in
        record { scope = fs; name = F.name; type = F.type; end = u; scoped = in_fields c d; typed = F.typed; leads = F.leads; zeroed = z }

    pub missing-field : {B : Type 0} {s : Selector} {ss : Selectors} {n : Bytes} {t u : DataType} {k : ℕ} {p : List ℕ} → count_selectors ss ≤ k
        → Typed Δ (struct_mapping s ss) n t → Leads t (k ∷ p) u → B
    missing-field h (t_struct d ds b) (l_field e L) = no_field ds h e

    into-list : {s e : Selector} {n : Bytes} {t u : DataType} {k : ℕ} {p : List ℕ} → Typed Δ (list_mapping s e) n t → Leads t (k ∷ p) u
        → (k ≡ 0) × Traced Γ (state e (element s k ∷ E) p)
    into-list {u = u} (t_list {m = m} {t = a} {u = b} d f h) (l_list L) =
        (refl, record { scope = element_of a; name = m; type = b; end = u; scoped = in_list c d; typed = f; leads = L; zeroed = (refl, z) })

    into-array : {s e : Selector} {n : Bytes} {t u : DataType} {k : ℕ} {p : List ℕ} → Typed Δ (array_mapping s e) n t → Leads t (k ∷ p) u
        → (k ≡ 0) × Traced Γ (state e (element s k ∷ E) p)
    into-array {u = u} (t_array {m = m} {t = a} {u = b} d f h) (l_array L) =
        (refl, record { scope = element_of a; name = m; type = b; end = u; scoped = in_array c d; typed = f; leads = L; zeroed = (refl, z) })

  out-field : {Δ : Fields} {s : Selector} {k : Position} {n : Bytes} {t u : DataType} {p : List ℕ} → Scoped Γ (fields s ∷ E) Δ → Typed Δ (position k) n
      t → Leads t p u
      → Traced Γ (state s E (k.0 ∷ p))
  out-field {u = u} (in_fields {n = m} {Δ = Δ} {fs = fs} c d) (t_position a) L =
      record { scope = Δ; name = m; type = struct fs; end = u; scoped = c; typed = d; leads = l_field (at_column_lem a) L; zeroed = z }

  out-element : {Δ : Fields} {s : Selector} {i : ℕ} {k : Position} {n : Bytes} {t u : DataType} {p : List ℕ} → i ≡ 0 → k.0 ≡ 0 → Scoped Γ (element s i ∷ E) Δ
      → Typed Δ (position k) n t → Leads t p u → Traced Γ (state s E (i ∷ p))
  out-element {u = u} {p} j q (in_list {n = m} {Δ = Δ} {t = a} c d) (t_position x) L =
      let M : Leads a p u = subst (λ (b : DataType). Leads b p u) (sym (only-type x q)) L in
      record {
        scope = Δ;
        name = m;
        type = list a;
        end = u;
        scoped = c;
        typed = d;
        leads = subst (λ (b : ℕ). Leads (list a) (b ∷ p) u) (sym j)
            (l_list M);
        zeroed = z;
      }
  out-element {u = u} {p} j q (in_array {w = w} {n = m} {Δ = Δ} {t = a} c d) (t_position x) L =
      let M : Leads a p u = subst (λ (b : DataType). Leads b p u) (sym (only-type x q)) L in
      record {
        scope = Δ;
        name = m;
        type = array w a;
        end = u;
        scoped = c;
        typed = d;
        leads = subst (λ (b : ℕ). Leads (array w a) (b ∷ p) u) (sym j)
            (l_array M);
        zeroed = z;
      }

-- ---- the moves

pub moved_traced : {Γ : Fields} {x y : State} → Moves x y → Traced Γ x → Traced Γ y
moved_traced m_here T = T
moved_traced (m_rename m) T = moved_traced m (to-rename T.zeroed T.scoped T.typed T.leads)
moved_traced (m_field a m) T = moved_traced m (into-field T.zeroed T.scoped a T.typed T.leads)
moved_traced (m_list m) T = moved_traced m (into-list T.zeroed T.scoped T.typed T.leads).1
moved_traced (m_array m) T = moved_traced m (into-array T.zeroed T.scoped T.typed T.leads).1
moved_traced (m_leave m) T = moved_traced m (out-field T.zeroed T.scoped T.typed T.leads)
moved_traced (m_leave-element e m) T = moved_traced m (out-element T.zeroed.1 T.zeroed.0 e T.scoped T.typed T.leads)

module _ (N : Nullnesses) (E : List Frame) (s : Selector) (p : List ℕ) where
  enter-field : {ss : Selectors} {k : ℕ} {x : Selector} → Nth ss k x → fills_here N (state (struct_mapping s ss) E (k ∷ p)) ≡ fills_here N
      (state x (fields s ∷ E) p)
  unfolding fills_here scope_of
  enter-field a = ap (λ q. allowed q true) (place-field (scope_of N E) p s a)

  enter-list : (e : Selector) {k : ℕ} → k ≡ 0 → fills_here N (state (list_mapping s e) E (k ∷ p)) ≡ fills_here N (state e (element s k ∷ E) p)
  unfolding fills_here scope_of nullness_of place_in nullness_at
  enter-list e j = ap (λ (k : ℕ). fills_at (nullness_of (scope_of N E) (list_mapping s e)) (k ∷ p)) j

  enter-array : (e : Selector) {k : ℕ} → k ≡ 0 → fills_here N (state (array_mapping s e) E (k ∷ p)) ≡ fills_here N (state e (element s k ∷ E) p)
  unfolding fills_here scope_of nullness_of place_in nullness_at
  enter-array e j = ap (λ (k : ℕ). fills_at (nullness_of (scope_of N E) (array_mapping s e)) (k ∷ p)) j

  leave-field : (k : Position) → fills_here N (state (position k) (fields s ∷ E) p) ≡ fills_here N (state s E (k.0 ∷ p))
  unfolding fills_here scope_of nullness_of place_in
  leave-field k = refl

  leave-element : (k : Position) {i : ℕ} → k.0 ≡ 0 → i ≡ 0 → fills_here N (state (position k) (element s i ∷ E) p) ≡ fills_here N (state s E (i ∷ p))
  unfolding fills_here scope_of nullness_of place_in
  leave-element k q j = ap (λ (m : ℕ). fills_at (nullness_at (inside_of (nullness_of (scope_of N E) s)) m) p) (q ∙ sym j)

  pub renamed_fills : (n : Bytes) → fills_here N (state (rename s n) E p) ≡ fills_here N (state s E p)
  unfolding fills_here nullness_of
  renamed_fills n = refl

pub moved_fills : {Γ : Fields} (N : Nullnesses) {x y : State} → Moves x y → Traced Γ x → fills_here N x ≡ fills_here N y
moved_fills N m_here T = refl
moved_fills N (m_rename {s = s} {n = n} {E = E} {k = k} {p = p} m) T =
    renamed_fills N E s (k ∷ p) n ∙ moved_fills N m (to-rename T.zeroed T.scoped T.typed T.leads)
moved_fills N (m_field {s = s} {E = E} {p = p} a m) T = enter-field N E s p a ∙ moved_fills N m (into-field T.zeroed T.scoped a T.typed T.leads)
moved_fills N (m_list {s = s} {e = e} {E = E} {p = p} m) T =
    let (j, U) = into-list T.zeroed T.scoped T.typed T.leads in
    enter-list N E s p e j ∙ moved_fills N m U
moved_fills N (m_array {s = s} {e = e} {E = E} {p = p} m) T =
    let (j, U) = into-array T.zeroed T.scoped T.typed T.leads in
    enter-array N E s p e j ∙ moved_fills N m U
moved_fills N (m_leave {s = s} {k = k} {E = E} {p = p} m) T = leave-field N E s p k ∙ moved_fills N m (out-field T.zeroed T.scoped T.typed T.leads)
moved_fills N (m_leave-element {s = s} {k = k} {E = E} {p = p} e m) T =
    leave-element N E s p k e T.zeroed.0 ∙ moved_fills N m (out-element T.zeroed.1 T.zeroed.0 e T.scoped T.typed T.leads)
