-- The check as a relation, one rule for each selector, and that it is the check. Assumes nothing.
use Prim.Native.Nat.{ℕ, zero, suc}
use mathlib.Core.Path.{◌≡◌, refl, ap}
use mathlib.Core.Bool.{true}
use Rattle.layout.specs.Bytes.{Bytes}
use Rattle.layout.specs.Tree.{DataType, leaf, struct, list, array, Fields, fnil, fcons}
use Rattle.layout.specs.declared.columns.Position.{Position}
use Rattle.forms.proofs.Equal.{equal_fields-refl, equal_fields_eq}
use Rattle.rules.specs.declared.outcome.CastOption.{CastOption}
use Rattle.values.specs.Value.{Value}
use Rattle.values.specs.Fits.{Fits}
use Rattle.plan.specs.Result.{gives, ◌>>=◌, demand, accepted, placed, answered}
use Rattle.plan.specs.Selector.{Selector, position, constant, cast, rename, struct_mapping, list_mapping, array_mapping, Selectors, snil, scons}
use Rattle.plan.specs.Check.{Column, column, column_at, element_of, struct_of, list_of, Array, array_of, cast_fits_of, within_limits, resulting, check_cast}
use Rattle.plan.specs.Check.{check_rename, check_struct, check_list, check_array, type_of, types_of, top_types, against, check}
use Rattle.plan.specs.code.Formed.{Formed, f_position, f_constant, f_cast, f_rename, f_struct, f_list, f_array, FormedAll, f_nil, f_cons}
use Rattle.plan.proofs.Results.{never_refused, gives_eq, accepted_eq, bind_gives, demand-gives, placed-accepted, answered-accepted}

-- `At Γ k n t`: the field at position k of Γ has the name n and the type t
pub data At : Fields → ℕ → Bytes → DataType → Type 0 where
  here : {n : Bytes} {t : DataType} {fs : Fields} → At (fcons n t fs) 0 n t
  there : {m n : Bytes} {t u : DataType} {fs : Fields} {k : ℕ} → At fs k n t → At (fcons m u fs) (suc k) n t

-- `Typed Γ s n t`: over the columns Γ, s gives a column of name n and type t
mutual
  pub data Typed : Fields → Selector → Bytes → DataType → Type 0 where
    t_position : {Γ : Fields} {k : Position} {n : Bytes} {t : DataType} → At Γ k.0 n t → Typed Γ (position k) n t
    t_constant : {Γ : Fields} {n : Bytes} {t : DataType} {v : Value} → Fits t v → Typed Γ (constant n t v) n t
    t_cast : {Γ : Fields} {s : Selector} {n : Bytes} {t u : DataType} {o : CastOption} → Typed Γ s n t → cast_fits_of t u o ≡ true → within_limits u ≡ true →
        Typed Γ (cast s u o) n u
    t_rename : {Γ : Fields} {s : Selector} {m n : Bytes} {t : DataType} → Typed Γ s m t → within_limits t ≡ true → Typed Γ (rename s n) n t
    t_struct : {Γ : Fields} {s : Selector} {ss : Selectors} {n : Bytes} {fs gs : Fields} → Typed Γ s n (struct fs) → TypedAll fs ss gs → within_limits
        (struct gs) ≡ true
        → Typed Γ (struct_mapping s ss) n (struct gs)
    t_list : {Γ : Fields} {s e : Selector} {m n : Bytes} {t u : DataType} → Typed Γ s n (list t) → Typed (element_of t) e m u → within_limits (list u) ≡ true
        → Typed Γ (list_mapping s e) n (list u)
    t_array : {Γ : Fields} {s e : Selector} {m n : Bytes} {w : ℕ} {t u : DataType} → Typed Γ s n (array w t) → Typed (element_of t) e m u → within_limits
        (array w u) ≡ true
        → Typed Γ (array_mapping s e) n (array w u)

  pub data TypedAll : Fields → Selectors → Fields → Type 0 where
    t_nil : {Γ : Fields} → TypedAll Γ snil fnil
    t_cons : {Γ : Fields} {s : Selector} {ss : Selectors} {n : Bytes} {t : DataType} {fs : Fields} → Typed Γ s n t → TypedAll Γ ss fs → TypedAll Γ
        (scons s ss) (fcons n t fs)

-- ---- the relation gives the check

pub at_column_lem : {Γ : Fields} {k : ℕ} {n : Bytes} {t : DataType} → At Γ k n t → column_at Γ k ≡ gives (column n t)
unfolding column_at
at_column_lem here = refl
at_column_lem (there a) = at_column_lem a

mutual
  unfolding type_of types_of ◌>>=◌ check_cast check_rename check_struct check_list check_array resulting demand struct_of list_of array_of

  pub typed→check : {Γ : Fields} {s : Selector} {n : Bytes} {t : DataType} → Typed Γ s n t → type_of Γ s ≡ gives (column n t)
  typed→check (t_position a) = at_column_lem a
  typed→check (t_constant h) = refl
  typed→check (t_cast d r b) = rw (typed→check d, r, b)
  typed→check (t_rename d b) = rw (typed→check d, b)
  typed→check (t_struct d ds b) = rw (typed→check d, typed→checks ds, b)
  typed→check (t_list d e b) = rw (typed→check d, typed→check e, b)
  typed→check (t_array d e b) = rw (typed→check d, typed→check e, b)

  pub typed→checks : {Γ : Fields} {ss : Selectors} {fs : Fields} → TypedAll Γ ss fs → types_of Γ ss ≡ gives fs
  typed→checks t_nil = refl
  typed→checks (t_cons d ds) = rw (typed→check d, typed→checks ds)

pub typed→top : {Γ : Fields} {ss : Selectors} {fs : Fields} → TypedAll Γ ss fs → (k : ℕ) → top_types Γ ss k ≡ accepted fs
unfolding top_types placed answered
typed→top t_nil k = refl
typed→top (t_cons d ds) k = rw (typed→check d, typed→top ds)

-- ---- the check gives the relation

pub column_at_lem : (Γ : Fields) (k : ℕ) {c : Column} → column_at Γ k ≡ gives c → At Γ k c.name c.type
unfolding column_at
column_at_lem fnil k e = never_refused e refl
column_at_lem (fcons n t fs) zero e = rw (← gives_eq e) here
column_at_lem (fcons n t fs) (suc k) e = there (column_at_lem fs k e)

pub struct_is : (t : DataType) {fs : Fields} → struct_of t ≡ gives fs → t ≡ struct fs
unfolding struct_of
struct_is (leaf l) e = never_refused e refl
struct_is (struct fs) e = ap struct (gives_eq e)
struct_is (list t) e = never_refused e refl
struct_is (array w t) e = never_refused e refl

pub list-is : (t : DataType) {u : DataType} → list_of t ≡ gives u → t ≡ list u
unfolding list_of
list-is (leaf l) e = never_refused e refl
list-is (struct fs) e = never_refused e refl
list-is (list t) e = ap list (gives_eq e)
list-is (array w t) e = never_refused e refl

pub array-is : (t : DataType) {a : Array} → array_of t ≡ gives a → t ≡ array a.width a.element
unfolding array_of
array-is (leaf l) e = never_refused e refl
array-is (struct fs) e = never_refused e refl
array-is (list t) e = never_refused e refl
array-is (array w t) e = ap (λ (a : Array). array a.width a.element) (gives_eq e)

-- a result within the limits
resulting-is : (n : Bytes) (t : DataType) {c : Column} → resulting n t ≡ gives c → (within_limits t ≡ true) × (column n t ≡ c)
unfolding resulting
resulting-is n t e = let (b, q) = demand-gives _ _ _ e in (b, gives_eq q)

mutual
  unfolding type_of types_of check_cast check_rename check_struct check_list check_array

  pub check→typed : {Γ : Fields} {s : Selector} {c : Column} → Formed s → type_of Γ s ≡ gives c → Typed Γ s c.name c.type
  check→typed {Γ} (f_position {k} h) e = t_position (column_at_lem Γ k.0 e)
  check→typed (f_constant h g f) e = rw (← gives_eq e) (t_constant f)
  check→typed (f_cast {s} {t} {o} f g) e =
      let (a, p, q) = bind_gives _ _ e in
      let (c, q) = demand-gives _ _ _ q in
      let (b, r) = resulting-is _ _ q in
      rw (← r) (t_cast (check→typed f p) c b)
  check→typed (f_rename {s} {n} f g) e =
      let (a, p, q) = bind_gives _ _ e in
      let (b, r) = resulting-is _ _ q in
      rw (← r) (t_rename (check→typed f p) b)
  check→typed (f_struct {s} {ss} f g fs) e =
      let (a, p, q) = bind_gives _ _ e in
      let (gs, p₁, q) = bind_gives _ _ q in
      let (hs, p₂, q) = bind_gives _ _ q in
      let (b, r) = resulting-is _ _ q in
      rw (← r) (t_struct (rw (struct_is _ p₁) at (check→typed f p)) (checks→typed fs p₂) b)
  check→typed (f_list f g) e =
      let (a, p, q) = bind_gives _ _ e in
      let (u, p₁, q) = bind_gives _ _ q in
      let (d, p₂, q) = bind_gives _ _ q in
      let (b, r) = resulting-is _ _ q in
      rw (← r) (t_list (rw (list-is _ p₁) at (check→typed f p)) (check→typed g p₂) b)
  check→typed (f_array f g) e =
      let (a, p, q) = bind_gives _ _ e in
      let (u, p₁, q) = bind_gives _ _ q in
      let (d, p₂, q) = bind_gives _ _ q in
      let (b, r) = resulting-is _ _ q in
      rw (← r) (t_array (rw (array-is _ p₁) at (check→typed f p)) (check→typed g p₂) b)

  pub checks→typed : {Γ : Fields} {ss : Selectors} {fs : Fields} → FormedAll ss → types_of Γ ss ≡ gives fs → TypedAll Γ ss fs
  checks→typed f_nil e = rw (← gives_eq e) t_nil
  checks→typed (f_cons f fs) e =
      let (c, p, q) = bind_gives _ _ e in
      let (gs, p₁, q) = bind_gives _ _ q in
      rw (← gives_eq q) (t_cons (check→typed f p) (checks→typed fs p₁))

pub top→typed : {Γ : Fields} {ss : Selectors} {fs : Fields} (k : ℕ) → FormedAll ss → top_types Γ ss k ≡ accepted fs → TypedAll Γ ss fs
unfolding top_types
top→typed k f_nil e = rw (← accepted_eq e) t_nil
top→typed k (f_cons f fs) e =
    let (c, p, q) = placed-accepted _ _ _ e in
    let (gs, p₁, q) = answered-accepted _ _ q in
    rw (← accepted_eq q) (t_cons (check→typed f p) (top→typed _ fs p₁))

-- ---- the check of a plan

pub passed→typed : {Γ Δ : Fields} {ss : Selectors} → FormedAll ss → check Γ Δ ss ≡ accepted tt → TypedAll Γ ss Δ
unfolding check against
passed→typed {Γ} {Δ} {ss} f e =
    let (fs, p, q) = answered-accepted _ _ e in
    let (x, r, q) = placed-accepted _ _ _ q in
    let (b, r) = demand-gives _ _ _ r in
    rw (equal_fields_eq fs Δ b) at (top→typed 0 f p)

pub typed→passed : {Γ Δ : Fields} {ss : Selectors} → TypedAll Γ ss Δ → check Γ Δ ss ≡ accepted tt
unfolding check against answered placed demand
typed→passed {Γ} {Δ} d = rw (typed→top d 0, equal_fields-refl Δ)
