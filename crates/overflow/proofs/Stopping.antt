-- What is asked where a walk stops, by what it stops at. Assumes nothing.
use Prim.Native.Nat.{ℕ, zero, suc, ◌<◌, ◌≤◌}
use mathlib.Core.Path.{◌≡◌, refl, ap, ◌∙◌}
use mathlib.Core.Bool.{Bool, true, false}
use mathlib.Core.List.{List, [], ◌∷◌}
use native.Mathlib.Omega.{arith}
use Rattle.layout.specs.Bytes.{Bytes}
use Rattle.layout.specs.Tree.{LeafType, leaf_of, datetime, DataType, leaf, struct, list, array, Fields, fnil}
use Rattle.layout.specs.declared.leaf.TimeUnit.{TimeUnit}
use Rattle.layout.specs.declared.columns.Position.{Position}
use Rattle.layout.proofs.Ways.{clash}
use Rattle.rules.specs.declared.outcome.CastOption.{CastOption}
use Rattle.rules.proofs.OfClass.{datetime-leaf}
use Rattle.rules.proofs.Casts.{passes-casts}
use Rattle.values.specs.Value.{Value, vnull, vnumber, vtext, voverflow, vstruct, vlist, varray, Values, vnil, vcons}
use Rattle.plan.specs.Selector.{Selector, position, constant, cast, struct_mapping, list_mapping, array_mapping, Selectors, snil, scons, count_selectors}
use Rattle.plan.specs.Convert.{unit_change}
use Rattle.plan.specs.Check.{element_of, cast_fits_of}
use Rattle.plan.specs.Run.{value_at, cast_value, map_values, on_struct, on_list, on_array, eval, evals}
use Rattle.plan.specs.code.Fits.{FitsOver, over-null, over-number, over-text, over-datetime, over-struct, over-list, over-array, FitsAllOver}
use Rattle.plan.proofs.Results.{true≠false}
use Rattle.plan.proofs.Typed.{At, here, there, Typed, t_position, t_cast, t_struct, t_list, t_array}
use Rattle.plan.proofs.Preserve.{eval-over}
use Rattle.walk.specs.code.State.{Frame, fields, element, state}
use Rattle.overflow.specs.code.Want.{Small, bounds_before, time_of, count_beyond, filled, is_beyond, is_struct, is_filled, meets}
use Rattle.overflow.specs.code.Some.{any_of, some_part, some, in_struct_lem, in_elements, some_in, asked}
use Rattle.overflow.specs.declared.want.Bounds.{Bounds}
use Rattle.overflow.specs.declared.want.Timed.TheVariants.{In, Never}
use Rattle.overflow.specs.declared.want.Want.{Want}
use Rattle.overflow.specs.declared.want.Want.TheVariants.{Parts, Element, Beyond}
use Rattle.overflow.proofs.Before.{leaf-cast}
use Rattle.overflow.proofs.Clean.{some-null}
use Rattle.overflow.proofs.Scoped.{Scoped, in_list, in_array, TypedState, in_none, in_same, asked-none, type-none}

-- ---- a column, a constant

pub column-asked : (ρ : Values) (w : Want) (k : Position) (p : List ℕ) → asked ρ (state (position k) [] p) w ≡ some w p (value_at ρ k.0)
unfolding asked some_in eval
column-asked ρ w k p = refl

any_filled_lem : (vs : Values) → any_of (λ v. true) vs ≡ filled vs
unfolding any_of filled
any_filled_lem vnil = refl
any_filled_lem (vcons v vs) = refl

-- what is run over a struct's fields is run where there is a struct, over elements where there is one
struct-run : (v : Value) → in_struct_lem (λ vs. true) v ≡ meets Parts v
unfolding in_struct_lem meets is_struct
struct-run vnull = refl
struct-run (vnumber k n) = refl
struct-run (vtext b) = refl
struct-run voverflow = refl
struct-run (vstruct vs) = refl
struct-run (vlist vs) = refl
struct-run (varray vs) = refl

element-run : (v : Value) → in_elements (λ vs. true) v ≡ meets Element v
unfolding in_elements meets is_filled
element-run vnull = refl
element-run (vnumber k n) = refl
element-run (vtext b) = refl
element-run voverflow = refl
element-run (vstruct vs) = refl
element-run (vlist vs) = any_filled_lem vs
element-run (varray vs) = any_filled_lem vs

module _ (ρ : Values) (w : Want) (n : Bytes) (t : DataType) (v : Value) (p : List ℕ) where
  constant-is : (E : List Frame) {b : Bool} → some w p v ≡ b → asked ρ (state (constant n t v) E p) w ≡ some_in ρ E (λ σ. b)
  unfolding asked eval
  constant-is E e = λ i. some_in ρ E (λ σ. e i)

  pub constant-none : (E : List Frame) → some w p v ≡ false → asked ρ (state (constant n t v) E p) w ≡ false
  constant-none E e = constant-is E e ∙ in_none ρ E

  pub constant-top : some w p v ≡ true → asked ρ (state (constant n t v) [] p) w ≡ true
  unfolding some_in
  constant-top e = constant-is [] e

  pub constant-fields : (s : Selector) (E : List Frame) → some w p v ≡ true → asked ρ (state (constant n t v) (fields s ∷ E) p) w ≡ asked ρ (state s E []) Parts
  unfolding some_in asked some
  constant-fields s E e = constant-is (fields s ∷ E) e ∙ (λ i. some_in ρ E (λ σ. struct-run (eval σ s) i))

  pub constant-element : (s : Selector) (j : ℕ) (E : List Frame) → some w p v ≡ true → asked ρ (state (constant n t v) (element s j ∷ E) p) w ≡ asked ρ
      (state s E []) Element
  unfolding some_in asked some
  constant-element s j E e = constant-is (element s j ∷ E) e ∙ (λ i. some_in ρ E (λ σ. element-run (eval σ s) i))

-- ---- values of a type: a leaf has no parts

leaf-path : {l : LeafType} {v : Value} (w : Want) (k : ℕ) (p : List ℕ) → FitsOver (leaf l) v → some w (k ∷ p) v ≡ false
unfolding some some_part
leaf-path w k p over-null = refl
leaf-path w k p (over-number e h t) = refl
leaf-path w k p (over-text e h) = refl
leaf-path w k p (over-datetime e) = refl

leaf_parts : {l : LeafType} {v : Value} → FitsOver (leaf l) v → meets Parts v ≡ false
unfolding meets is_struct
leaf_parts over-null = refl
leaf_parts (over-number e h t) = refl
leaf_parts (over-text e h) = refl
leaf_parts (over-datetime e) = refl

leaf-element : {l : LeafType} {v : Value} → FitsOver (leaf l) v → meets Element v ≡ false
unfolding meets is_filled
leaf-element over-null = refl
leaf-element (over-number e h t) = refl
leaf-element (over-text e h) = refl
leaf-element (over-datetime e) = refl

-- no time stands in another leaf
leaf-beyond : {l : LeafType} {v : Value} (d : Bounds) (u : TimeUnit) → time_of (leaf_of l) ≡ Never → FitsOver (leaf l) v → meets (Beyond d u) v ≡ false
unfolding meets is_beyond count_beyond
leaf-beyond d u q over-null = refl
leaf-beyond d u q (over-number e h t) = rw (← e, q)
leaf-beyond d u q (over-text e h) = refl
leaf-beyond {l} d u q (over-datetime e) = let z = datetime-leaf (leaf_of l) e in let y : In _ ≡ Never = rw z at q in clash (cc)

leaf-other : {l : LeafType} {v : Value} (w : Want) → time_of (leaf_of l) ≡ Never → FitsOver (leaf l) v → meets w v ≡ false
leaf-other Parts q h = leaf_parts h
leaf-other Element q h = leaf-element h
leaf-other (Beyond d u) q h = leaf-beyond d u q h

struct-element : {fs : Fields} {v : Value} → FitsOver (struct fs) v → meets Element v ≡ false
unfolding meets is_filled
struct-element over-null = refl
struct-element (over-struct a) = refl

struct-beyond : {fs : Fields} {v : Value} (d : Bounds) (u : TimeUnit) → FitsOver (struct fs) v → meets (Beyond d u) v ≡ false
unfolding meets is_beyond
struct-beyond d u over-null = refl
struct-beyond d u (over-struct a) = refl

list-parts : {t : DataType} {v : Value} → FitsOver (list t) v → meets Parts v ≡ false
unfolding meets is_struct
list-parts over-null = refl
list-parts (over-list c a) = refl

list-beyond : {t : DataType} {v : Value} (d : Bounds) (u : TimeUnit) → FitsOver (list t) v → meets (Beyond d u) v ≡ false
unfolding meets is_beyond
list-beyond d u over-null = refl
list-beyond d u (over-list c a) = refl

array_parts : {w : ℕ} {t : DataType} {v : Value} → FitsOver (array w t) v → meets Parts v ≡ false
unfolding meets is_struct
array_parts over-null = refl
array_parts (over-array c a) = refl

array-beyond : {w : ℕ} {t : DataType} {v : Value} (d : Bounds) (u : TimeUnit) → FitsOver (array w t) v → meets (Beyond d u) v ≡ false
unfolding meets is_beyond
array-beyond d u over-null = refl
array-beyond d u (over-array c a) = refl

-- ---- a cast

-- only null is both a leaf's and a nested type's
struct-null : {l : LeafType} {fs : Fields} {v : Value} → FitsOver (leaf l) v → FitsOver (struct fs) v → v ≡ vnull
struct-null h over-null = refl
struct-null {l = l} {fs = fs} h (over-struct {vs = vs} _) = elim h [ ]

list-null : {l : LeafType} {t : DataType} {v : Value} → FitsOver (leaf l) v → FitsOver (list t) v → v ≡ vnull
list-null h over-null = refl
list-null {l = l} {t = t} h (over-list {vs = vs} _ _) = elim h [ ]

array-null : {l : LeafType} {w : ℕ} {t : DataType} {v : Value} → FitsOver (leaf l) v → FitsOver (array w t) v → v ≡ vnull
array-null h over-null = refl
array-null {l = l} {w = w} {t = t} h (over-array {vs = vs} _ _) = elim h [ ]

-- a nested type
pub data Nested : DataType → Type 0 where
  a_struct_lem : {fs : Fields} → Nested (struct fs)
  a_list_lem : {t : DataType} → Nested (list t)
  an_array_lem : {w : ℕ} {t : DataType} → Nested (array w t)

-- a cast to a nested type gives null
cast-null : {u : DataType} {v : Value} → Nested u → (t : DataType) (o : CastOption) → cast_fits_of t u o ≡ true → FitsOver t v → FitsOver u (cast_value u v)
    → cast_value u v ≡ vnull
unfolding cast_fits_of cast_value
cast-null a_struct_lem (leaf l) o e h g = struct-null h g
cast-null a_list_lem (leaf l) o e h g = list-null h g
cast-null an_array_lem (leaf l) o e h g = array-null h g
cast-null n (struct fs) o e h g = true≠false e refl
cast-null n (list t) o e h g = true≠false e refl
cast-null n (array w t) o e h g = true≠false e refl

module _ {Δ : Fields} {n : Bytes} {σ : Values} (h : FitsAllOver Δ σ) (w : Want) where
  nested_none : {t u : DataType} {s : Selector} {o : CastOption} (p : List ℕ) → Nested u → Typed Δ (cast s u o) n t → some w p (eval σ (cast s u o)) ≡ false
  unfolding eval
  nested_none p a (t_cast {t = t} {o = o} d r b) = ap (some w p) (cast-null a t o r (eval-over d h) (eval-over (t_cast d r b) h)) ∙ some-null w p

  path-none : {t : DataType} (u : DataType) {s : Selector} {o : CastOption} (k : ℕ) (p : List ℕ) → Typed Δ (cast s u o) n t → some w (k ∷ p)
      (eval σ (cast s u o)) ≡ false
  path-none (leaf l) k p (t_cast d r b) = leaf-path w k p (eval-over (t_cast d r b) h)
  path-none (struct fs) k p d = nested_none (k ∷ p) a_struct_lem d
  path-none (list t) k p d = nested_none (k ∷ p) a_list_lem d
  path-none (array m t) k p d = nested_none (k ∷ p) an_array_lem d

-- to a leaf that is no date-time, and to one that is
other_none : {Δ : Fields} {n : Bytes} {σ : Values} → FitsAllOver Δ σ → (w : Want) {t : DataType} {l : LeafType} {s : Selector} {o : CastOption} → time_of
    (leaf_of l) ≡ Never
    → Typed Δ (cast s (leaf l) o) n t → some w [] (eval σ (cast s (leaf l) o)) ≡ false
unfolding some
other_none h w q (t_cast d r b) = leaf-other w q (eval-over (t_cast d r b) h)

casts-leaf : (c : TimeUnit) (z : Bytes) {d : Bounds} (u : TimeUnit) → Small d → (t : DataType) (o : CastOption) {v : Value} → cast_fits_of t
    (leaf (datetime c z)) o ≡ true → FitsOver t v
    → is_beyond d u (cast_value (leaf (datetime c z)) v) ≡ is_beyond (bounds_before (unit_change c u) d) c v
unfolding cast_fits_of cast_value
casts-leaf c z u s (leaf l) o e f = leaf-cast c u s (passes-casts l (datetime c z) o e) f
casts-leaf c z u s (struct fs) o e f = true≠false e refl
casts-leaf c z u s (list t) o e f = true≠false e refl
casts-leaf c z u s (array w t) o e f = true≠false e refl

module _ (c : TimeUnit) (z : Bytes) {Δ : Fields} {n : Bytes} {σ : Values} (h : FitsAllOver Δ σ) where
  parts_none : {t : DataType} {s : Selector} {o : CastOption} → Typed Δ (cast s (leaf (datetime c z)) o) n t → some Parts []
      (eval σ (cast s (leaf (datetime c z)) o)) ≡ false
  unfolding some
  parts_none (t_cast d r b) = leaf_parts (eval-over (t_cast d r b) h)

  element-none : {t : DataType} {s : Selector} {o : CastOption} → Typed Δ (cast s (leaf (datetime c z)) o) n t → some Element []
      (eval σ (cast s (leaf (datetime c z)) o)) ≡ false
  unfolding some
  element-none (t_cast d r b) = leaf-element (eval-over (t_cast d r b) h)

  time_cast : {d : Bounds} (u : TimeUnit) → Small d → {t : DataType} {s : Selector} {o : CastOption} → Typed Δ (cast s (leaf (datetime c z)) o) n t
      → some (Beyond d u) [] (eval σ (cast s (leaf (datetime c z)) o)) ≡ some (Beyond (bounds_before (unit_change c u) d) c) [] (eval σ s)
  unfolding some meets eval
  time_cast u s (t_cast {t = t} {o = o} d r b) = casts-leaf c z u s t o r (eval-over d h)

module _ {Γ : Fields} {ρ : Values} (r : FitsAllOver Γ ρ) (w : Want) {E : List Frame} {s : Selector} {u : DataType} {o : CastOption} where
  pub cast-path : (k : ℕ) (p : List ℕ) → TypedState Γ (state (cast s u o) E (k ∷ p)) → asked ρ (state (cast s u o) E (k ∷ p)) w ≡ false
  cast-path k p T = asked-none r T w (λ σ h. path-none h w u k p T.typed)

  pub cast_nested : (p : List ℕ) → Nested u → TypedState Γ (state (cast s u o) E p) → asked ρ (state (cast s u o) E p) w ≡ false
  cast_nested p a T = asked-none r T w (λ σ h. nested_none h w p a T.typed)

module _ {Γ : Fields} {ρ : Values} (r : FitsAllOver Γ ρ) {E : List Frame} {s : Selector} {o : CastOption} where
  pub cast-other : (w : Want) (l : LeafType) → time_of (leaf_of l) ≡ Never → TypedState Γ (state (cast s (leaf l) o) E []) → asked ρ
      (state (cast s (leaf l) o) E []) w ≡ false
  cast-other w l q T = asked-none r T w (λ σ h. other_none h w q T.typed)

  module _ (c : TimeUnit) (z : Bytes) (T : TypedState Γ (state (cast s (leaf (datetime c z)) o) E [])) where
    pub cast-parts : asked ρ (state (cast s (leaf (datetime c z)) o) E []) Parts ≡ false
    cast-parts = asked-none r T Parts (λ σ h. parts_none c z h T.typed)

    pub cast-element : asked ρ (state (cast s (leaf (datetime c z)) o) E []) Element ≡ false
    cast-element = asked-none r T Element (λ σ h. element-none c z h T.typed)

    pub cast-beyond : (d : Bounds) (u : TimeUnit) → Small d
        → asked ρ (state (cast s (leaf (datetime c z)) o) E []) (Beyond d u) ≡ asked ρ (state s E []) (Beyond (bounds_before (unit_change c u) d) c)
    unfolding asked
    cast-beyond d u k =
        in_same r (λ σ. some (Beyond d u) [] (eval σ (cast s (leaf (datetime c z)) o)))
        (λ σ. some (Beyond (bounds_before (unit_change c u) d) c) [] (eval σ s)) T.scoped
        (λ σ h. time_cast c z h u k T.typed)

-- ---- a mapping at the path's end

struct-kept : (f : Values → Values) (v : Value) → meets Parts (on_struct f v) ≡ meets Parts v
unfolding meets is_struct on_struct
struct-kept f vnull = refl
struct-kept f (vnumber k n) = refl
struct-kept f (vtext b) = refl
struct-kept f voverflow = refl
struct-kept f (vstruct vs) = refl
struct-kept f (vlist vs) = refl
struct-kept f (varray vs) = refl

filled-mapped : (f : Value → Value) (vs : Values) → filled (map_values f vs) ≡ filled vs
unfolding filled map_values
filled-mapped f vnil = refl
filled-mapped f (vcons v vs) = refl

list-kept : (f : Value → Value) (v : Value) → meets Element (on_list f v) ≡ meets Element v
unfolding meets is_filled on_list
list-kept f vnull = refl
list-kept f (vnumber k n) = refl
list-kept f (vtext b) = refl
list-kept f voverflow = refl
list-kept f (vstruct vs) = refl
list-kept f (vlist vs) = filled-mapped f vs
list-kept f (varray vs) = refl

array-kept : (f : Value → Value) (v : Value) → meets Element (on_array f v) ≡ meets Element v
unfolding meets is_filled on_array
array-kept f vnull = refl
array-kept f (vnumber k n) = refl
array-kept f (vtext b) = refl
array-kept f voverflow = refl
array-kept f (vstruct vs) = refl
array-kept f (vlist vs) = refl
array-kept f (varray vs) = filled-mapped f vs

module _ (ρ : Values) (E : List Frame) (s : Selector) where
  pub struct-end : (ss : Selectors) → asked ρ (state (struct_mapping s ss) E []) Parts ≡ asked ρ (state s E []) Parts
  unfolding asked some eval
  struct-end ss = λ i. some_in ρ E (λ σ. struct-kept (λ vs. evals vs ss) (eval σ s) i)

  pub list-end : (e : Selector) → asked ρ (state (list_mapping s e) E []) Element ≡ asked ρ (state s E []) Element
  unfolding asked some eval
  list-end e = λ i. some_in ρ E (λ σ. list-kept (λ v. eval (vcons v vnil) e) (eval σ s) i)

  pub array-end : (e : Selector) → asked ρ (state (array_mapping s e) E []) Element ≡ asked ρ (state s E []) Element
  unfolding asked some eval
  array-end e = λ i. some_in ρ E (λ σ. array-kept (λ v. eval (vcons v vnil) e) (eval σ s) i)

-- nothing else is found there
module _ {Γ : Fields} {ρ : Values} (r : FitsAllOver Γ ρ) {E : List Frame} {s : Selector} where
  module _ {ss : Selectors} (T : TypedState Γ (state (struct_mapping s ss) E [])) where
    mapped-struct : {Δ : Fields} {n : Bytes} {t : DataType} → Typed Δ (struct_mapping s ss) n t → (gs : Fields) × (t ≡ struct gs)
    mapped-struct (t_struct {gs = gs} d ds b) = (gs, refl)

    pub struct-end-element : asked ρ (state (struct_mapping s ss) E []) Element ≡ false
    unfolding some
    struct-end-element = type-none r T Element (λ v h. struct-element (rw (mapped-struct T.typed).1 at h))

    pub struct-end-beyond : (d : Bounds) (u : TimeUnit) → asked ρ (state (struct_mapping s ss) E []) (Beyond d u) ≡ false
    unfolding some
    struct-end-beyond d u = type-none r T (Beyond d u) (λ v h. struct-beyond d u (rw (mapped-struct T.typed).1 at h))

  module _ {e : Selector} (T : TypedState Γ (state (list_mapping s e) E [])) where
    mapped-list : {Δ : Fields} {n : Bytes} {t : DataType} → Typed Δ (list_mapping s e) n t → (u : DataType) × (t ≡ list u)
    mapped-list (t_list {u = u} d f b) = (u, refl)

    pub list-end-parts : asked ρ (state (list_mapping s e) E []) Parts ≡ false
    unfolding some
    list-end-parts = type-none r T Parts (λ v h. list-parts (rw (mapped-list T.typed).1 at h))

    pub list-end-beyond : (d : Bounds) (u : TimeUnit) → asked ρ (state (list_mapping s e) E []) (Beyond d u) ≡ false
    unfolding some
    list-end-beyond d u = type-none r T (Beyond d u) (λ v h. list-beyond d u (rw (mapped-list T.typed).1 at h))

  module _ {e : Selector} (T : TypedState Γ (state (array_mapping s e) E [])) where
    mapped-array : {Δ : Fields} {n : Bytes} {t : DataType} → Typed Δ (array_mapping s e) n t → (w : ℕ) × (u : DataType) × (t ≡ array w u)
    mapped-array (t_array {w = w} {u = u} d f b) = (w, u, refl)

    pub array-end-parts : asked ρ (state (array_mapping s e) E []) Parts ≡ false
    unfolding some
    array-end-parts = type-none r T Parts (λ v h. array_parts (rw (mapped-array T.typed).2 at h))

    pub array-end-beyond : (d : Bounds) (u : TimeUnit) → asked ρ (state (array_mapping s e) E []) (Beyond d u) ≡ false
    unfolding some
    array-end-beyond d u = type-none r T (Beyond d u) (λ v h. array-beyond d u (rw (mapped-array T.typed).2 at h))

-- ---- what no check passes

no_value : (vs : Values) (ss : Selectors) (k : ℕ) → count_selectors ss ≤ k → value_at (evals vs ss) k ≡ vnull
unfolding value_at evals count_selectors
no_value vs snil k h = refl
no_value vs (scons s ss) zero h = absurd (omega arith)
no_value vs (scons s ss) (suc k) h = no_value vs ss k (omega arith)

no_part : (f : Value → Bool) (k : ℕ) (ss : Selectors) {fs : Fields} {v : Value} → f vnull ≡ false → count_selectors ss ≤ k → FitsOver (struct fs) v
    → some_part k f (on_struct (λ vs. evals vs ss) v) ≡ false
unfolding some_part on_struct
no_part f k ss e h over-null = refl
no_part f k ss e h (over-struct {vs = vs} a) = ap f (no_value vs ss k h) ∙ e

field-none : {Δ : Fields} {n : Bytes} {t : DataType} {σ : Values} {s : Selector} {ss : Selectors} (w : Want) (k : ℕ) (p : List ℕ) → count_selectors ss ≤
    k → FitsAllOver Δ σ
    → Typed Δ (struct_mapping s ss) n t → some w (k ∷ p) (eval σ (struct_mapping s ss)) ≡ false
unfolding some eval
field-none {ss = ss} w k p l h (t_struct d ds b) = no_part (λ v. some w p v) k ss (some-null w p) l (eval-over d h)

pub no_field : {Γ : Fields} {ρ : Values} → FitsAllOver Γ ρ → (w : Want) {E : List Frame} {s : Selector} {ss : Selectors} (k : ℕ) (p : List ℕ) →
    count_selectors ss ≤ k
    → TypedState Γ (state (struct_mapping s ss) E (k ∷ p)) → asked ρ (state (struct_mapping s ss) E (k ∷ p)) w ≡ false
no_field r w k p l T = asked-none r T w (λ σ h. field-none w k p l h T.typed)

none-there : {X : Type 0} {fs : Fields} {k : ℕ} {n : Bytes} {t : DataType} → fs ≡ fnil → At fs k n t → X
none-there e here = clash (cc)
none-there e (there a) = clash (cc)

one-column : {u : DataType} {k : ℕ} {n : Bytes} {t : DataType} → At (element_of u) k n t → k ≡ 0
one-column here = refl
one-column (there a) = none-there refl a

element-position : {Γ : Fields} {E : List Frame} {s : Selector} {i : ℕ} {k : Position} {Δ : Fields} {n : Bytes} {t : DataType} → Scoped Γ
    (element s i ∷ E) Δ → Typed Δ (position k) n t → k.0 ≡ 0
element-position (in_list c d) (t_position a) = one-column a
element-position (in_array c d) (t_position a) = one-column a

pub no_element_lem : {Γ : Fields} {E : List Frame} {s : Selector} {i : ℕ} {k : Position} {p : List ℕ} {X : Type 0} → 0 < k.0 → TypedState Γ
    (state (position k) (element s i ∷ E) p) → X
no_element_lem h T = let e = element-position T.scoped T.typed in absurd (omega arith)
