-- States of a walk through selectors that passed the check, and what is asked of the values that positions take there.
-- Assumes nothing.
use Prim.Native.Nat.{ℕ}
use mathlib.Core.Path.{◌≡◌, refl, ◌∙◌}
use mathlib.Core.Bool.{Bool, false}
use mathlib.Core.List.{List, [], ◌∷◌}
use Rattle.layout.specs.Bytes.{Bytes}
use Rattle.layout.specs.Tree.{DataType, struct, list, array, Fields}
use Rattle.values.specs.Value.{Value, vnull, vnumber, vtext, voverflow, vstruct, vlist, varray, Values, vnil, vcons}
use Rattle.plan.specs.Selector.{Selector}
use Rattle.plan.specs.Check.{element_of}
use Rattle.plan.specs.Run.{eval}
use Rattle.plan.specs.code.Fits.{FitsOver, over-null, over-struct, over-list, over-array, FitsAllOver, FitsEachOver, over_none, over-more}
use Rattle.plan.proofs.Typed.{Typed}
use Rattle.plan.proofs.Preserve.{eval-over, only}
use Rattle.walk.specs.code.State.{Frame, fields, element, State}
use Rattle.overflow.specs.code.Some.{any_of, some, in_struct_lem, in_elements, some_in, asked}
use Rattle.overflow.specs.declared.want.Want.{Want}

-- `Scoped Γ E Δ`: over the columns Γ, positions inside the entered mappings E take from the columns Δ
pub data Scoped (Γ : Fields) : List Frame → Fields → Type 0 where
  in_record : Scoped Γ [] Γ
  in_fields : {E : List Frame} {s : Selector} {n : Bytes} {Δ fs : Fields} → Scoped Γ E Δ → Typed Δ s n (struct fs) → Scoped Γ (fields s ∷ E) fs
  in_list : {E : List Frame} {s : Selector} {i : ℕ} {n : Bytes} {Δ : Fields} {t : DataType} → Scoped Γ E Δ → Typed Δ s n (list t) → Scoped Γ
      (element s i ∷ E) (element_of t)
  in_array : {E : List Frame} {s : Selector} {i w : ℕ} {n : Bytes} {Δ : Fields} {t : DataType} → Scoped Γ E Δ → Typed Δ s n (array w t) → Scoped Γ
      (element s i ∷ E) (element_of t)

pub record TypedState (Γ : Fields) (x : State) : Type 0 where
  pub scope : Fields
  pub name : Bytes
  pub type : DataType
  pub scoped : Scoped Γ x.frames scope
  pub typed : Typed scope x.selector name type

-- ---- what is asked is the same where it is of every value that fits

struct-same : {fs : Fields} {v : Value} (f g : Values → Bool) → ((vs : Values) → FitsAllOver fs vs → f vs ≡ g vs) → FitsOver (struct fs) v → in_struct_lem f
    v ≡ in_struct_lem g v
unfolding in_struct_lem
struct-same f g h over-null = refl
struct-same f g h (over-struct {vs = vs} a) = h vs a

pub any_same : {t : DataType} {vs : Values} (f g : Value → Bool) → ((v : Value) → FitsOver t v → f v ≡ g v) → FitsEachOver t vs → any_of f vs ≡ any_of g vs
unfolding any_of
any_same f g h over_none = refl
any_same f g h (over-more {v = v} a b) = rw (h v a, any_same f g h b)

list_same : {t : DataType} {v : Value} (f g : Values → Bool) → ((vs : Values) → FitsAllOver (element_of t) vs → f vs ≡ g vs) → FitsOver (list t) v →
    in_elements f v ≡ in_elements g v
unfolding in_elements
list_same f g h over-null = refl
list_same f g h (over-list c a) = any_same (λ v. f (vcons v vnil)) (λ v. g (vcons v vnil)) (λ v b. h (vcons v vnil) (only b)) a

array_same : {w : ℕ} {t : DataType} {v : Value} (f g : Values → Bool) → ((vs : Values) → FitsAllOver (element_of t) vs → f vs ≡ g vs) → FitsOver
    (array w t) v → in_elements f v ≡ in_elements g v
unfolding in_elements
array_same f g h over-null = refl
array_same f g h (over-array c a) = any_same (λ v. f (vcons v vnil)) (λ v. g (vcons v vnil)) (λ v b. h (vcons v vnil) (only b)) a

pub in_same : {Γ : Fields} {ρ : Values} → FitsAllOver Γ ρ → {E : List Frame} {Δ : Fields} (f g : Values → Bool) → Scoped Γ E Δ →
    ((σ : Values) → FitsAllOver Δ σ → f σ ≡ g σ)
    → some_in ρ E f ≡ some_in ρ E g
unfolding some_in
in_same {ρ = ρ} r f g in_record h = h ρ r
in_same r f g (in_fields {s = s} c d) h = in_same r (λ σ. in_struct_lem f (eval σ s)) (λ σ. in_struct_lem g (eval σ s)) c (λ σ a. struct-same f g h (eval-over d a))
in_same r f g (in_list {s = s} c d) h = in_same r (λ σ. in_elements f (eval σ s)) (λ σ. in_elements g (eval σ s)) c (λ σ a. list_same f g h (eval-over d a))
in_same r f g (in_array {s = s} c d) h = in_same r (λ σ. in_elements f (eval σ s)) (λ σ. in_elements g (eval σ s)) c (λ σ a. array_same f g h (eval-over d a))

-- ---- what is asked of nothing

struct-none : (v : Value) → in_struct_lem (λ vs. false) v ≡ false
unfolding in_struct_lem
struct-none vnull = refl
struct-none (vnumber k n) = refl
struct-none (vtext b) = refl
struct-none voverflow = refl
struct-none (vstruct vs) = refl
struct-none (vlist vs) = refl
struct-none (varray vs) = refl

any_none : (vs : Values) → any_of (λ v. false) vs ≡ false
unfolding any_of
any_none vnil = refl
any_none (vcons v vs) = any_none vs

elements-none : (v : Value) → in_elements (λ vs. false) v ≡ false
unfolding in_elements
elements-none vnull = refl
elements-none (vnumber k n) = refl
elements-none (vtext b) = refl
elements-none voverflow = refl
elements-none (vstruct vs) = refl
elements-none (vlist vs) = any_none vs
elements-none (varray vs) = any_none vs

pub in_none : (ρ : Values) (E : List Frame) → some_in ρ E (λ σ. false) ≡ false
unfolding some_in
in_none ρ [] = refl
in_none ρ (fields s ∷ E) = (λ i. some_in ρ E (λ σ. struct-none (eval σ s) i)) ∙ in_none ρ E
in_none ρ (element s j ∷ E) = (λ i. some_in ρ E (λ σ. elements-none (eval σ s) i)) ∙ in_none ρ E

module _ {Γ : Fields} {ρ : Values} (r : FitsAllOver Γ ρ) {x : State} (T : TypedState Γ x) where
  -- asked of another selector in its place
  pub asked-same : (w : Want) (f : Values → Bool) → ((σ : Values) → FitsAllOver T.scope σ → some w x.path (eval σ x.selector) ≡ f σ) → asked ρ
      x w ≡ some_in ρ x.frames f
  unfolding asked
  asked-same w f h = in_same r (λ σ. some w x.path (eval σ x.selector)) f T.scoped h

  pub asked-none : (w : Want) → ((σ : Values) → FitsAllOver T.scope σ → some w x.path (eval σ x.selector) ≡ false) → asked ρ x w ≡ false
  asked-none w h = asked-same w (λ σ. false) h ∙ in_none ρ x.frames

  -- no value of the type is such
  pub type-none : (w : Want) → ((v : Value) → FitsOver T.type v → some w x.path v ≡ false) → asked ρ x w ≡ false
  type-none w h = asked-none w (λ σ a. h (eval σ x.selector) (eval-over T.typed a))
