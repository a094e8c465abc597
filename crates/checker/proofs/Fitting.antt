-- What the functions of src/limits.rt answer on each way. Assumes nothing.
use Prim.Native.Nat.{ℕ, zero, suc, ◌+◌, ◌-◌, ◌≤◌, ◌<◌, max}
use mathlib.Core.Path.{◌≡◌, refl, sym, ap, ◌∙◌, subst}
use mathlib.Core.Bool.{Bool, true, false, ◌&&◌}
use mathlib.Core.List.{[], ◌++◌}
use native.Mathlib.Omega.{arith}
use lib.ListN.{length, drop, length-append, length-drop}
use lib.Seq.{length-take-le}
use lib.Dec.{leb}
use borrow.Author.Tests.{le-leb, lt-leb, leb-true}
use Rattle.layout.specs.Bytes.{Bytes}
use Rattle.layout.specs.Parser.{choose}
use Rattle.layout.specs.Tree.{DataType, leaf, struct, list, array, Fields, fnil, fcons, count_fields, dtype_of}
use Rattle.layout.specs.Layout.{a_leaf, a_struct, a_list, an_array}
use Rattle.layout.specs.declared.edition.Edition.{Edition}
use Rattle.layout.proofs.Ways.{clash}
use Rattle.forms.specs.Form.{u16_bytes, u32_bytes, text_bytes, kind_form, form, form_fields}
use Rattle.forms.specs.code.Heads.{head_of}
use Rattle.forms.specs.Depth.{depth_of, depth_of_fields}
use Rattle.plan.specs.Result.{gives}
use Rattle.plan.specs.Check.{Column, column, column_at}
use Rattle.plan.proofs.Results.{never_refused, gives_eq}
use Rattle.walk.specs.code.Stands.{SelectorAt}
use Rattle.walk.specs.declared.walk.Walk.{Walk}
use Rattle.nodes.specs.code.Typed.{TypeIs, SizeOf}
use Rattle.nodes.specs.declared.types.FormSize.{FormSize}
use Rattle.direct.specs.code.Places.{bytes_of, NameAt}
use Rattle.checker.specs.code.TypesAt.{parts_of, PartOf, NamedAt, Made, made_struct, made_list, made_array, MappedAt, ResolvedAt, head_kind, TypeHeadIs}
use Rattle.walk.specs.code.Children.{PassedTo}
use Rattle.checker.specs.code.Limits.{fit_of, type_fit, fields_fit_of, column_fit_of, around_of, joined_of, added_of, rest_fit, Bounded, size_of}
use Rattle.checker.specs.declared.limits.Fit.{Fit}
use Rattle.checker.specs.declared.limits.Size.{Size}
use Rattle.direct.specs.declared.place.Name.{Name}
use Rattle.direct.specs.declared.place.Place.{Place}
use Rattle.checker.specs.declared.place.TypeHead.{TypeHead}
use Rattle.checker.specs.declared.resolve.Source.{Source}
use Rattle.checker.specs.declared.resolve.Resolved.{Resolved}
use Rattle.checker.proofs.Fields.{column-there}
use Rattle.checker.proofs.Headed.{from-mapping}
use Rattle.walk.proofs.Children.{ChildAt}
use Rattle.checker.proofs.Children.{made_more, made-named}

-- ---- numbers

module _ (d s l r : ℕ) where
  pub fit_deep : l < d → Fit.Over ≡ fit_of d s l r
  unfolding fit_of choose
  fit_deep h = rw (lt-leb d l h)

  pub fit_long : r < s → Fit.Over ≡ fit_of d s l r
  unfolding fit_of choose
  fit_long h = go (leb d l)
    where
      go : (b : Bool) → Fit.Over ≡ choose (b && leb s r) (Fit.Within s d) Fit.Over
      go true = rw (lt-leb s r h)
      go false = refl

  pub fit_within : d ≤ l → s ≤ r → Fit.Within s d ≡ fit_of d s l r
  unfolding fit_of choose
  fit_within h k = rw (le-leb d l h, le-leb s r k)

  pub record Fitted (x y : ℕ) : Type 0 where
    pub deep : d ≤ l
    pub long : s ≤ r
    pub size : x ≡ s
    pub depth : y ≡ d

  -- the other way
  pub fits_in : {x y : ℕ} → fit_of d s l r ≡ Fit.Within x y → Fitted x y
  unfolding fit_of choose
  fits_in {x} {y} e = go (leb d l) (leb s r) refl refl e
    where
      go : (a b : Bool) → leb d l ≡ a → leb s r ≡ b → choose (a && b) (Fit.Within s d) Fit.Over ≡ Fit.Within x y → Fitted x y
      go true true p q e = record { deep = leb-true d l p; long = leb-true s r q; size = cc; depth = cc }
      go true false p q e = clash (cc)
      go false b p q e = clash (cc)

  pub fits_not : fit_of d s l r ≡ Fit.Over → d ≤ l → s ≤ r → ⊥
  fits_not e h k = let z : Fit.Within s d ≡ Fit.Over = fit_within h k ∙ e in clash (cc)

  pub fit_bounded : {f : Fit} → f ≡ fit_of d s l r → Bounded l r f
  fit_bounded e x y q = let A = fits_in (sym e ∙ q) in let i = A.size in let j = A.depth in (omega (arith, A.deep), omega (arith, A.long))

-- numbers made of others pass by the same tests
fit_same : (g : Fit → Fit) (d s l r e t m q : ℕ) → g Fit.Over ≡ Fit.Over → g (Fit.Within s d) ≡ Fit.Within t e → (d ≤ l → s ≤ r → (e ≤ m) × (t ≤ q))
    → (e ≤ m → t ≤ q → (d ≤ l) × (s ≤ r)) → g (fit_of d s l r) ≡ fit_of e t m q
fit_same g d s l r e t m q z w f h = go (fit_of d s l r) refl (fit_of e t m q) refl
  where
    go : (x : Fit) → fit_of d s l r ≡ x → (y : Fit) → fit_of e t m q ≡ y → g x ≡ y
    go (Fit.Within x y) p (Fit.Within i j) o =
        let A = fits_in d s l r p in
        let B = fits_in e t m q o in
        let a : Fit.Within x y ≡ Fit.Within s d = rw (A.size, A.depth) refl in
        let b : Fit.Within i j ≡ Fit.Within t e = rw (B.size, B.depth) refl in
        ap g a ∙ w ∙ sym b
    go (Fit.Within x y) p Fit.Over o = let A = fits_in d s l r p in let C = f A.deep A.long in absurd (fits_not e t m q o C.0 C.1)
    go Fit.Over p (Fit.Within i j) o = let B = fits_in e t m q o in let C = h B.deep B.long in absurd (fits_not d s l r p C.0 C.1)
    go Fit.Over p Fit.Over o = z

within_as : {s t d e : ℕ} → s ≡ t → d ≡ e → Fit.Within s d ≡ Fit.Within t e
within_as p q = rw (p, q) refl

fit_as : {d s e t : ℕ} (l r : ℕ) → d ≡ e → s ≡ t → fit_of d s l r ≡ fit_of e t l r
fit_as l r p q = rw (p, q) refl

-- a head of h bytes
pub fit_around : (h d s l r : ℕ) → 0 < l → h ≤ r → around_of h (fit_of d s (l - 1) (r - h)) ≡ fit_of (d + 1) (h + s) l r
fit_around h d s l r p k = fit_same (around_of h) d s (l - 1) (r - h) (d + 1) (h + s) l r refl refl (λ a b. (omega arith, omega arith)) (λ a b.
    (omega arith, omega arith))

-- behind b bytes of m levels
pub fit_joined : (b m d s l r : ℕ) → m ≤ l → b ≤ r → joined_of b m (fit_of d s l (r - b)) ≡ fit_of (max m d) (b + s) l r
fit_joined b m d s l r p k = fit_same (joined_of b m) d s l (r - b) (max m d) (b + s) l r refl refl (λ a c. (omega arith, omega arith)) (λ a c.
    (omega arith, omega arith))

joined-joined : (a m b n : ℕ) (f : Fit) → joined_of a m (joined_of b n f) ≡ joined_of (a + b) (max m n) f
joined-joined a m b n (Fit.Within s d) = within_as (omega arith) (omega arith)
joined-joined a m b n Fit.Over = refl

-- ---- trees

struct-long : (fs : Fields) → length (form (struct fs)) ≡ 3 + length (form_fields fs)
unfolding form kind_form u16_bytes
struct-long fs = let e : length (form (struct fs)) ≡ suc (suc (suc (length (form_fields fs)))) = refl in omega arith

list-long : (t : DataType) → length (form (list t)) ≡ 1 + length (form t)
unfolding form kind_form
list-long t = let e : length (form (list t)) ≡ suc (length (form t)) = refl in omega arith

array_long : (w : ℕ) (t : DataType) → length (form (array w t)) ≡ 5 + length (form t)
unfolding form kind_form u16_bytes u32_bytes
array_long w t = let e : length (form (array w t)) ≡ suc (suc (suc (suc (suc (length (form t)))))) = refl in omega arith

fields-long : (n : Bytes) (t : DataType) (fs : Fields) → length (form_fields (fcons n t fs)) ≡ suc (length n) + (length (form t) + length (form_fields fs))
unfolding form_fields text_bytes
fields-long n t fs =
    let e : length (form_fields (fcons n t fs)) ≡ suc (length n + (length (form t) + length (form_fields fs))) =
    ap suc (length-append n (form t ++ form_fields fs) ∙ ap (λ (i : ℕ). length n + i) (length-append (form t) (form_fields fs))) in
    omega arith

pub fit_struct : (fs : Fields) (l r : ℕ) → 0 < l → 3 ≤ r → around_of 3 (fields_fit_of fs (l - 1) (r - 3)) ≡ type_fit (struct fs) l r
unfolding depth_of
fit_struct fs l r h k = fit_around 3 (depth_of_fields fs) (length (form_fields fs)) l r h k ∙ fit_as l r (omega arith) (sym (struct-long fs))

pub fit_struct-short : (fs : Fields) (l r : ℕ) → r < 3 → Fit.Over ≡ type_fit (struct fs) l r
fit_struct-short fs l r h = fit_long (depth_of (struct fs)) (length (form (struct fs))) l r (let e = struct-long fs in omega arith)

pub fit_list : (t : DataType) (l r : ℕ) → fit_of (depth_of t + 1) (1 + length (form t)) l r ≡ type_fit (list t) l r
unfolding depth_of
fit_list t l r = fit_as l r (omega arith) (sym (list-long t))

pub fit_array : (w : ℕ) (t : DataType) (l r : ℕ) → fit_of (depth_of t + 1) (5 + length (form t)) l r ≡ type_fit (array w t) l r
unfolding depth_of
fit_array w t l r = fit_as l r (omega arith) (sym (array_long w t))

-- every type has a level
depth-some : (t : DataType) → 0 < depth_of t
unfolding depth_of
depth-some (leaf l) = omega arith
depth-some (struct fs) = omega arith
depth-some (list t) = omega arith
depth-some (array w t) = omega arith

pub fit_none : (t : DataType) (l r : ℕ) → l ≡ 0 → Fit.Over ≡ type_fit t l r
fit_none t l r h = fit_deep (depth_of t) (length (form t)) l r (let z = depth-some t in omega arith)

-- a field's name and its type
module _ (n d s l r : ℕ) where
  pub fit_name : n < r → joined_of (n + 1) 0 (fit_of d s l (r - n - 1)) ≡ fit_of d (n + 1 + s) l r
  fit_name h = fit_same (joined_of (n + 1) 0) d s l (r - n - 1) d (n + 1 + s) l r refl (within_as refl (omega arith)) (λ a b. (a, omega arith)) (λ a b.
      (a, omega arith))

  pub fit_name-long : r ≤ n → Fit.Over ≡ fit_of d (n + 1 + s) l r
  fit_name-long h = fit_long d (n + 1 + s) l r (omega arith)

-- and the fields behind it
module _ (a : Column) (fs : Fields) (l r : ℕ) where
  fields_as : fit_of (max (depth_of a.type) (depth_of_fields fs)) (length a.name + 1 + length (form a.type) + length (form_fields fs)) l r
      ≡ fields_fit_of (fcons a.name a.type fs) l r
  unfolding depth_of_fields
  fields_as = let z = fields-long a.name a.type fs in fit_as l r refl (omega arith)

  pub fit_field : {s d : ℕ} → column_fit_of a l r ≡ Fit.Within s d → fields_fit_of (fcons a.name a.type fs) l r ≡ joined_of s d (fields_fit_of fs l (r - s))
  fit_field {s} {d} e =
      let A = fits_in _ _ _ _ e in
      let i = A.size in
      let j = A.depth in
      sym fields_as ∙ fit_as l r (omega arith) (omega arith)
      ∙ sym (fit_joined s d (depth_of_fields fs) (length (form_fields fs)) l r (omega (arith, A.deep)) (omega (arith, A.long)))

  pub fit_field-over : column_fit_of a l r ≡ Fit.Over → Fit.Over ≡ fields_fit_of (fcons a.name a.type fs) l r
  fit_field-over e = go (fit_of (max (depth_of a.type) (depth_of_fields fs)) (length a.name + 1 + length (form a.type) + length
      (form_fields fs)) l r) refl ∙ fields_as
    where
      go : (y : Fit) → fit_of (max (depth_of a.type) (depth_of_fields fs)) (length a.name + 1 + length (form a.type) + length (form_fields fs)) l r ≡ y
          → Fit.Over ≡ fit_of (max (depth_of a.type) (depth_of_fields fs)) (length a.name + 1 + length (form a.type) + length (form_fields fs)) l r
      go Fit.Over p = sym p
      go (Fit.Within x y) p = let B = fits_in _ _ _ _ p in absurd (fits_not _ _ _ _ e (omega (arith, B.deep)) (omega (arith, B.long)))

-- the fields so far and the others
module _ (l r : ℕ) where
  pub rest-start : (fs : Fields) → rest_fit l r (Fit.Within 0 0) fs ≡ fields_fit_of fs l r
  rest-start fs = fit_joined 0 0 (depth_of_fields fs) (length (form_fields fs)) l r (omega arith) (omega arith) ∙ fit_as l r (omega arith) (omega arith)

  pub rest-none : (f : Fit) → rest_fit l r f fnil ≡ f
  unfolding depth_of_fields form_fields
  rest-none (Fit.Within s d) = ap (joined_of s d) (sym (fit_within 0 0 l (r - s) (omega arith) (omega arith))) ∙ within_as (omega arith) (omega arith)
  rest-none Fit.Over = refl

  module _ (a : Column) where
    pub rest_more : (f : Fit) (fs : Fields) → rest_fit l r f (fcons a.name a.type fs) ≡ rest_fit l r (added_of l r f a) fs
    rest_more (Fit.Within s d) fs = go (column_fit_of a l (r - s)) refl
      where
        go : (x : Fit) → column_fit_of a l (r - s) ≡ x → joined_of s d (fields_fit_of (fcons a.name a.type fs) l (r - s)) ≡ rest_fit l r (joined_of s d x) fs
        go (Fit.Within x y) e =
            let z : r - s - x ≡ r - (s + x) = omega arith in
            ap (joined_of s d) (fit_field a fs l (r - s) e) ∙ joined-joined s d x y (fields_fit_of fs l (r - s - x))
            ∙ ap (λ (i : ℕ). joined_of (s + x) (max d y) (fields_fit_of fs l i)) z
        go Fit.Over e = ap (joined_of s d) (sym (fit_field-over a fs l (r - s) e))
    rest_more Fit.Over fs = refl

    pub added_bounded : (f : Fit) → Bounded l r f → Bounded l r (added_of l r f a)
    added_bounded (Fit.Within s d) B = go (column_fit_of a l (r - s)) refl
      where
        go : (x : Fit) → column_fit_of a l (r - s) ≡ x → Bounded l r (joined_of s d x)
        go (Fit.Within x y) e i j q =
            let A = fits_in _ _ _ _ e in
            let (m, n) = B s d refl in
            let b : s + x ≡ i = cc in
            let c : max d y ≡ j = cc in
            let u = A.size in
            let v = A.depth in
            (omega (arith, A.deep), omega (arith, A.long))
        go Fit.Over e i j q = clash (cc)
    added_bounded Fit.Over B = B

-- what is behind others, with them
pub joined_is : (b m : ℕ) {s d i : ℕ} {f : Fit} → i ≡ max m d → f ≡ Fit.Within s d → Fit.Within (b + s) i ≡ joined_of b m f
joined_is b m p e = within_as refl p ∙ sym (ap (joined_of b m) e)

-- a sum that stays within the bytes
pub bounded_sum : {l b : ℕ} (r : ℕ) {f : Fit} → Bounded l (r - b) f → b ≤ r → (size deep : ℕ) → f ≡ Fit.Within size deep → b + size ≤ r
bounded_sum r B h s d e = let (m, n) = B s d e in omega arith

-- ---- raw_fit

-- by the type's other name
pub sized_as : {v : Edition} {s : Bytes} {at : ℕ} {t : DataType} (T : TypeIs v s at t) {z : FormSize} → SizeOf (dtype_of T.type.tree) T.type.end
    z → SizeOf t T.type.end z
sized_as T {z} Z = subst (λ (u : DataType). SizeOf u T.type.end z) T.is Z

pub raw-is : {v : Edition} {s : Bytes} {at : ℕ} {t : DataType} (T : TypeIs v s at t) {z : FormSize} → SizeOf (dtype_of T.type.tree) T.type.end z →
    (l r : ℕ) {f : Fit}
    → f ≡ fit_of z.deep z.size l r → f ≡ type_fit t l r
raw-is T Z l r e = let S = sized_as T Z in e ∙ fit_as l r S.deep S.size

-- ---- mapped_fit

pub made_no_leaf : {X : Type 0} {incoming : Bytes} {v : Edition} {n : ℕ} {plan : Bytes} {r : Resolved} {t : DataType} → ResolvedAt incoming v n plan r t
    → r.source ≡ Source.Mapped
    → {h : TypeHead} {p : Place} {l : _} → TypeHeadIs incoming plan t h → h ≡ TypeHead.Leaf p l → X
unfolding head_of
made_no_leaf {incoming = incoming} {plan = plan} R e H f = go (from-mapping R e).made (sym H.kind ∙ ap (head_kind incoming plan) f)
  where
    go : {X : Type 0} {Γ : _} {x : _} {t : DataType} {l : _} → Made Γ x t → head_of t ≡ a_leaf l → X
    go (made_struct a b c d) q = clash (cc)
    go (made_list a b c d) q = clash (cc)
    go (made_array a b c d) q = clash (cc)

-- what a head says of the type
pub head-struct : (t : DataType) {n : ℕ} → a_struct n ≡ head_of t → (fs : Fields) × ((t ≡ struct fs) × (count_fields fs ≡ n))
unfolding head_of
head-struct (leaf l) e = clash (cc)
head-struct (struct fs) e = (fs, (refl, cc))
head-struct (list t) e = clash (cc)
head-struct (array w t) e = clash (cc)

pub head-list : (t : DataType) → a_list ≡ head_of t → (u : DataType) × (t ≡ list u)
unfolding head_of
head-list (leaf l) e = clash (cc)
head-list (struct fs) e = clash (cc)
head-list (list t) e = (t, refl)
head-list (array w t) e = clash (cc)

pub head-array : (t : DataType) {w : ℕ} → an_array w ≡ head_of t → (u : DataType) × (t ≡ array w u)
unfolding head_of
head-array (leaf l) e = clash (cc)
head-array (struct fs) e = clash (cc)
head-array (list t) e = clash (cc)
head-array (array x t) {w} e = (t, ap (λ (i : ℕ). array i t) (let q : x ≡ w = cc in q))

-- the element of a list or an array
pub element_part : (t : DataType) → PartOf (list t) 0 (column [] t)
unfolding parts_of column_at
element_part t = record { found = refl }

pub array_element-part : (w : ℕ) (t : DataType) → PartOf (array w t) 0 (column [] t)
unfolding parts_of column_at
array_element-part w t = record { found = refl }

module _ {incoming plan : Bytes} {t : DataType} {h : TypeHead} (H : TypeHeadIs incoming plan t h) where
  kind-is : {k : TypeHead} → h ≡ k → head_kind incoming plan k ≡ head_of t
  kind-is e = sym (ap (head_kind incoming plan) e) ∙ H.kind

  pub is_struct_mapping : {n : ℕ} → h ≡ TypeHead.Struct n → (fs : Fields) × ((t ≡ struct fs) × (count_fields fs ≡ n))
  is_struct_mapping e = head-struct t (kind-is e)

  pub is_list_mapping : h ≡ TypeHead.List → (u : DataType) × (t ≡ list u)
  is_list_mapping e = head-list t (kind-is e)

  pub is-array : {w : ℕ} → h ≡ TypeHead.Array w → (u : DataType) × (t ≡ array w u)
  is-array e = head-array t (kind-is e)

  pub struct-short : {n : ℕ} (l r : ℕ) → h ≡ TypeHead.Struct n → r < 3 → Fit.Over ≡ type_fit t l r
  struct-short l r e k = let (fs, (q, c)) = is_struct_mapping e in fit_struct-short fs l r k ∙ ap (λ (u : DataType). type_fit u l r) (sym q)

  -- a mapping makes it
  pub struct_asks : {v : Edition} {m : ℕ} {q : Resolved} {n : ℕ} → ResolvedAt incoming v m plan q t → q.source ≡ Source.Mapped → h ≡ TypeHead.Struct n
      → (fs : Fields) × MappedAt incoming v m plan q.walk (struct fs) × (count_fields fs ≡ n)
  struct_asks {v} {m} {q} R z e = let (fs, (p, c)) = is_struct_mapping e in (
    fs,
    subst (λ (u : DataType). MappedAt incoming v m plan q.walk u) p
        (from-mapping R z),
    c,
  )

  module _ {v : Edition} {m : ℕ} {q : Resolved} {n : ℕ} {f : Fit} (l r : ℕ) (R : ResolvedAt incoming v m plan q t) (y : q.source ≡ Source.Mapped)
      (e : h ≡ TypeHead.Struct n)
      (g : (fs : Fields) → MappedAt incoming v m plan q.walk (struct fs) → count_fields fs ≡ n → f ≡ fields_fit_of fs (l - 1) (r - 3)) where
    struct_fields : f ≡ fields_fit_of (is_struct_mapping e).0 (l - 1) (r - 3)
    struct_fields = let (fs, (p, c)) = is_struct_mapping e in g fs (subst (λ (u : DataType). MappedAt incoming v m plan q.walk u) p (from-mapping R y)) c

    pub struct_bounded : Bounded (l - 1) (r - 3) f
    struct_bounded = let fs = (is_struct_mapping e).0 in fit_bounded (depth_of_fields (is_struct_mapping e).0) (length (form_fields (is_struct_mapping e).0)) (l - 1)
        (r - 3) struct_fields

    pub struct-fits : {x : Fit} → x ≡ around_of 3 f → 0 < l → 3 ≤ r → x ≡ type_fit t l r
    struct-fits o z k = let (fs, (p, c)) = is_struct_mapping e in o ∙ ap (around_of 3) struct_fields ∙ fit_struct (is_struct_mapping e).0 l r z k ∙ ap (λ
        (u : DataType). type_fit u l r) (sym p)

  module _ {v : Edition} {m : ℕ} {q : Resolved} (R : ResolvedAt incoming v m plan q t) where
    pub list_asks : h ≡ TypeHead.List → (u : DataType) × (a : Column) × ResolvedAt incoming v m plan q u × PartOf u 0 a
    list_asks e = let (u, p) = is_list_mapping e in (t, column [] u, R, subst (λ (y : DataType). PartOf y 0 (column [] u)) (sym p) (element_part u))

    pub array_asks : {w : ℕ} → h ≡ TypeHead.Array w → (u : DataType) × (a : Column) × ResolvedAt incoming v m plan q u × PartOf u 0 a
    array_asks {w} e = let (u, p) = is-array e in (t, column [] u, R, subst (λ (y : DataType). PartOf y 0 (column [] u)) (sym p) (array_element-part w u))

    pub list-fits : {f : Fit} (l r : ℕ) → h ≡ TypeHead.List
        → ((u : DataType) (a : Column) → ResolvedAt incoming v m plan q u → PartOf u 0 a → f ≡ fit_of (depth_of a.type + 1) (1 + length (form
        a.type)) l r) → f ≡ type_fit t l r
    list-fits l r e g =
        let (u, p) = is_list_mapping e in
        g t (column [] u) R (subst (λ (y : DataType). PartOf y 0 (column [] u)) (sym p) (element_part u)) ∙ fit_list u l r ∙ ap (λ
        (y : DataType). type_fit y l r) (sym p)

    pub array-fits : {f : Fit} {w : ℕ} (l r : ℕ) → h ≡ TypeHead.Array w
        → ((u : DataType) (a : Column) → ResolvedAt incoming v m plan q u → PartOf u 0 a → f ≡ fit_of (depth_of a.type + 1) (5 + length (form
        a.type)) l r) → f ≡ type_fit t l r
    array-fits {w = w} l r e g =
        let (u, p) = is-array e in
        g t (column [] u) R (subst (λ (y : DataType). PartOf y 0 (column [] u)) (sym p) (array_element-part w u)) ∙ fit_array w u l r ∙ ap (λ
        (y : DataType). type_fit y l r) (sym p)

-- ---- the fields of a struct

unfoldable pub drop_fields : ℕ → Fields → Fields
drop_fields zero fs = fs
drop_fields (suc k) fnil = fnil
drop_fields (suc k) (fcons n t fs) = drop_fields k fs

pub drop-next : (fs : Fields) (k : ℕ) {c : Column} → column_at fs k ≡ gives c → drop_fields k fs ≡ fcons c.name c.type (drop_fields (suc k) fs)
unfolding drop_fields column_at
drop-next fnil k e = never_refused e refl
drop-next (fcons n t fs) zero {c} e = let g = gives_eq e in ap (λ (a : Column). fcons a.name a.type fs) g
drop-next (fcons n t fs) (suc k) e = drop-next fs k e

pub drop_all : (fs : Fields) (k : ℕ) → count_fields fs ≤ k → drop_fields k fs ≡ fnil
unfolding drop_fields count_fields
drop_all fnil zero h = refl
drop_all fnil (suc k) h = refl
drop_all (fcons n t fs) zero h = absurd (omega arith)
drop_all (fcons n t fs) (suc k) h = drop_all fs k (omega arith)

pub name-long : {incoming plan : Bytes} {m : Name} {b : Bytes} → NameAt incoming plan m b → m.span.len ≡ length b
name-long {incoming} {plan} {m} {b} N =
    let s = bytes_of incoming plan m.place in
    let i = N.inside in
    sym (length-take-le m.span.len (drop m.span.start (bytes_of incoming plan m.place))
    (let e = length-drop m.span.start (bytes_of incoming plan m.place) in omega arith)) ∙ ap length N.is

-- what is known of a type
size-known : (b : Bool) (t : DataType) {z : Size} {x y : ℕ} → z ≡ size_of b t → z ≡ Size.Is x y → (x ≡ length (form t)) × (y ≡ depth_of t)
size-known true t {x = x} {y = y} e f = let q : Size.Is (length (form t)) (depth_of t) ≡ Size.Is x y = sym e ∙ f in (
  sym (let a : length (form t) ≡ x = cc
      in a),
  sym (let a : depth_of t ≡ y = cc in a),
)
size-known false t {x = x} {y = y} e f = let q : Size.Unknown ≡ Size.Is x y = sym e ∙ f in clash (cc)

pub sized-is : (b : Bool) (t : DataType) (l r : ℕ) {z : Size} {x y : ℕ} {f : Fit} → z ≡ size_of b t → z ≡ Size.Is x y → f ≡ fit_of y x l r → f ≡ type_fit t l r
sized-is b t l r e g h = let (p, q) = size-known b t e g in h ∙ fit_as l r q p

-- ---- column_fit

module _ {incoming plan : Bytes} {m : Name} (a : Column) (N : NameAt incoming plan m a.name) (l r : ℕ) where
  pub column-over : r ≤ m.span.len → Fit.Over ≡ column_fit_of a l r
  column-over h = fit_name-long (length a.name) (depth_of a.type) (length (form a.type)) l r (let e = name-long N in omega arith)

  pub column_fits : m.span.len < r → {f x : Fit} → f ≡ type_fit a.type l (r - m.span.len - 1) → x ≡ joined_of (m.span.len + 1) 0 f → x ≡ column_fit_of a l r
  column_fits h e g =
      let z = name-long N in
      g ∙ ap (joined_of (m.span.len + 1) 0) e ∙ fit_name m.span.len (depth_of a.type) (length (form a.type)) l r h
      ∙ fit_as l r refl (omega arith)

-- ---- fields_fit

pub record Fitting (incoming : Bytes) (v : Edition) (n : ℕ) (plan : Bytes) (w : Walk) (count levels room at size deep k : ℕ) : Type 0 where
  pub some : Fields
  pub start : MappedAt incoming v n plan w (struct some)
  pub counted : count_fields some ≡ count
  pub within : k ≤ count
  pub small : size ≤ room
  pub passed : PassedTo plan w.at k at
  pub keeps : (fs : Fields) → MappedAt incoming v n plan w (struct fs) → count_fields fs ≡ count
      → fields_fit_of fs levels room ≡ rest_fit levels room (Fit.Within size deep) (drop_fields k fs)

module _ {incoming : Bytes} {v : Edition} {n : ℕ} {plan : Bytes} {w : Walk} {count levels room : ℕ} where
  pub fitting-start : {fs : Fields} {at : ℕ} → MappedAt incoming v n plan w (struct fs) → count_fields fs ≡ count → PassedTo plan w.at 0 at
      → Fitting incoming v n plan w count levels room at 0 0 0
  unfolding drop_fields
  fitting-start {fs} M e B = record {
    some = fs;
    start = M;
    counted = e;
    within = omega arith;
    small = omega arith;
    passed = B;
    keeps = λ gs S c. sym (rest-start levels room gs);
  }

  module _ {at size deep k : ℕ} (O : Fitting incoming v n plan w count levels room at size deep k) where
    pub fitting-end : count ≤ k → (fs : Fields) → MappedAt incoming v n plan w (struct fs) → count_fields fs ≡ count
        → Fit.Within size deep ≡ fields_fit_of fs levels room
    fitting-end h fs M c =
        sym (rest-none levels room (Fit.Within size deep)) ∙ ap (λ (gs : Fields). rest_fit levels room (Fit.Within size deep) gs) (sym (drop_all fs k
        (omega arith)))
        ∙ sym (O.keeps fs M c)

    module _ (h : k < count) {x : Walk} (g : ChildAt w k at x) where
      below : k < count_fields O.some
      below = let c = O.counted in omega arith

      pub fitting-asks : (a : Column) × NamedAt incoming v n plan x a
      fitting-asks = let (a, e) = column-there O.some k below in (a, made-named O.start O.passed below g O.start e)

      module _ {f : Fit} (F : (b : Bool) (a : Column) → NamedAt incoming v n plan x a → Size.Unknown ≡ size_of b a.type → f ≡ column_fit_of a levels
          (room - size)) where
        -- the field k of any reading of the type
        record Here (fs : Fields) : Type 0 where
          field : Column
          fits : f ≡ column_fit_of field levels (room - size)
          is : fields_fit_of fs levels room ≡ rest_fit levels room (joined_of size deep f) (drop_fields (suc k) fs)

        here : (fs : Fields) → MappedAt incoming v n plan w (struct fs) → count_fields fs ≡ count → Here fs
        here fs M c =
            let (a, e) = column-there fs k (omega arith) in
            let p = F false a (made-named O.start O.passed below g M e) refl in
            record {
              field = a;
              fits = p;
              is = O.keeps fs M c ∙ ap (λ (gs : Fields). rest_fit levels room (Fit.Within size deep) gs) (drop-next fs k e)
                  ∙ rest_more levels room a (Fit.Within size deep) (drop_fields (suc k) fs)
                  ∙ ap (λ (y : Fit). rest_fit levels room (joined_of size deep y) (drop_fields (suc k) fs)) (sym p);
            }

        pub fitting-over : f ≡ Fit.Over → (fs : Fields) → MappedAt incoming v n plan w (struct fs) → count_fields fs ≡ count
            → Fit.Over ≡ fields_fit_of fs levels room
        fitting-over e fs M c =
            let H = here fs M c in ap (λ (y : Fit). rest_fit levels room (joined_of size deep y) (drop_fields (suc k) fs)) (sym e) ∙ sym H.is

        module _ {s d : ℕ} (e : f ≡ Fit.Within s d) where
          pub fitting-small : size + s ≤ room
          fitting-small = let H = here O.some O.start O.counted in bounded_sum room (fit_bounded _ _ _ _ H.fits) O.small s d e

          pub fitting-more : {m i : ℕ} → m ≡ size + s → i ≡ max deep d → {y : ℕ} → ((P : SelectorAt plan at) → y ≡ P.end)
              → Fitting incoming v n plan w count levels room y m i (k + 1)
          fitting-more {m} {i} p q t = record {
            some = O.some;
            start = O.start;
            counted = O.counted;
            within = omega arith;
            small = let z = fitting-small in omega arith;
            passed = made_more O.start O.passed below t;
            keeps = λ fs M c.
                let H = here fs M c in
                let z : suc k ≡ k + 1 = omega arith in
                H.is ∙ ap (λ (y : Fit). rest_fit levels room (joined_of size deep y) (drop_fields (suc k) fs)) e
                ∙ ap (λ (y : Fit). rest_fit levels room y (drop_fields (suc k) fs)) (within_as (sym p) (sym q))
                ∙ ap (λ (j : ℕ). rest_fit levels room (Fit.Within m i) (drop_fields j fs)) z;
          }
