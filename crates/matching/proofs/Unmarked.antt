-- "Older columns count as optional" (document 02, L5): where no column of the target is required, 54 and 55 are never
-- met, and the builders' clauses are document 01's, as the equations here have them. Assumes nothing.
use Prim.Native.Nat.{ℕ}
use mathlib.Core.Path.{◌≡◌, refl}
use mathlib.Core.Bool.{Bool, true, false}
use Rattle.layout.specs.Tree.{Label, ColumnType, cleaf, cstruct, clist, carray, Columns, cnil, ccons, dtype_of}
use Rattle.layout.specs.Find.{counterpart}
use Rattle.layout.specs.declared.columns.Position.{Position}
use Rattle.layout.specs.declared.edition.Edition.{Edition}
use Rattle.layout.specs.declared.edition.Edition.TheVariants.{One, Two, Three}
use Rattle.layout.specs.declared.matching.Matching.{Matching}
use Rattle.layout.specs.declared.matching.Matching.TheVariants.{ByName}
use Rattle.layout.proofs.Ways.{clash}
use Rattle.rules.specs.declared.policy.Policy.{Policy}
use Rattle.values.specs.Value.{Value}
use Rattle.values.specs.Filled.{required_of}
use Rattle.values.proofs.Unmarked.{Unmarked, bare_struct, bare-list, bare-array, UnmarkedAll, bare-cons}
use Rattle.plan.specs.Result.{Result, gives, ◌>>=◌, demand}
use Rattle.plan.specs.Selector.{Selector, constant, scons}
use Rattle.plan.specs.Nullness.{Place, required, optional, novalue, Nullness, Nullnesses, nnil, ncons, top_of, inside_of, nullness_at, of_value}
use Rattle.plan.specs.Marks.{allowed, meets, meets_all}
use Rattle.plan.proofs.Results.{and-true}
use Rattle.matching.specs.Default.{Defaults, no_defaults, missing_value}
use Rattle.matching.specs.Build.{list_part, array_part, unless_null_type, renamed, same_element, inserts, keeps_required, fills_required, missing, list_selector}
use Rattle.matching.specs.Build.{array_selector, first, sought, attach_transforms, attach_fields, build_column_selector}
use Rattle.matching.specs.Calls.{takes}
use Rattle.matching.proofs.Required.{keeps-optional}

-- ---- the parts of what has no required column inside

pub struct-bare : {cs : Columns} → Unmarked required_of (cstruct cs) → UnmarkedAll required_of cs
struct-bare (bare_struct h) = h

pub list-bare : {l : Label} {t : ColumnType} → Unmarked required_of (clist l t) → (l.required ≡ false) × Unmarked required_of t
list-bare (bare-list e h) = (e, h)

pub array-bare : {w : ℕ} {l : Label} {t : ColumnType} → Unmarked required_of (carray w l t) → (l.required ≡ false) × Unmarked required_of t
array-bare (bare-array e h) = (e, h)

pub column-bare : {l : Label} {t : ColumnType} {cs : Columns} → UnmarkedAll required_of (ccons l t cs)
    → (l.required ≡ false) × (Unmarked required_of t × UnmarkedAll required_of cs)
column-bare (bare-cons e h hs) = (e, (h, hs))

-- ---- 54 and 55 are never met

allowed-optional : (p : Place) → allowed p false ≡ true
unfolding allowed
allowed-optional required = refl
allowed-optional optional = refl
allowed-optional novalue = refl

mutual
  unfolding meets meets_all

  meets_unmarked : (t : ColumnType) (n : Nullness) (r : Bool) → r ≡ false → Unmarked required_of t → meets n r t ≡ true
  meets_unmarked (cleaf l) n r e u = rw e (allowed-optional (top_of n))
  meets_unmarked (cstruct cs) n r e u = rw e (and-true (allowed-optional (top_of n)) (meet_unmarked cs (inside_of n) (struct-bare u)))
  meets_unmarked (clist l t) n r e u =
      let (o, h) = list-bare u in rw e (and-true (allowed-optional (top_of n)) (meets_unmarked t (nullness_at (inside_of n) 0) l.required o h))
  meets_unmarked (carray w l t) n r e u =
      let (o, h) = array-bare u in rw e (and-true (allowed-optional (top_of n)) (meets_unmarked t (nullness_at (inside_of n) 0) l.required o h))

  meet_unmarked : (cs : Columns) (ns : Nullnesses) → UnmarkedAll required_of cs → meets_all ns cs ≡ true
  meet_unmarked cnil ns u = refl
  meet_unmarked (ccons l t cs) nnil u = refl
  meet_unmarked (ccons l t cs) (ncons n ns) u =
      let (e, (h, hs)) = column-bare u in and-true (meets_unmarked t n l.required e h) (meet_unmarked cs ns hs)

pub fills_unmarked : (l : Label) (u : ColumnType) (x : Value) → l.required ≡ false → Unmarked required_of u → fills_required l u x ≡ true
unfolding fills_required
fills_unmarked l u x e h = meets_unmarked u (of_value x) l.required e h

passed : {A : Type 0} {b : Bool} (n : ℕ) (x : Result A) → b ≡ true → demand b n x ≡ x
unfolding demand
passed n x e = rw e

pub missing_unmarked : (d : Defaults) (insert : Bool) (n : ℕ) (l : Label) (u : ColumnType) → l.required ≡ false → Unmarked required_of u
    → missing d insert n l u ≡ demand insert n (missing_value d l u >>= λ x. gives (constant l.name (dtype_of u) x))
unfolding missing
missing_unmarked d insert n l u e h =
    λ i. demand insert n (missing_value d l u >>= λ x. passed 54 (gives (constant l.name (dtype_of u) x)) (fills_unmarked l u x e h) i)

module _ (v : Matching) (p : Policy) where
  pub list_unmarked : (d : Defaults) (b : Label) (u : ColumnType) (k : Position) (t : ColumnType) → b.required ≡ false
      → attach_transforms v p d (clist b u) k t ≡ unless_null_type v p k (clist b u) t
      (list_part t >>= λ x.
      demand (same_element v x.label b) 25
      (attach_transforms v p no_defaults u first x.type >>= λ s. gives (list_selector k (renamed v b x.label s))))
  unfolding attach_transforms
  list_unmarked d b u k t e =
      λ i. unless_null_type v p k (clist b u) t (list_part t >>= λ x.
      demand (same_element v x.label b) 25
      (passed 55 (attach_transforms v p no_defaults u first x.type >>= λ s. gives (list_selector k (renamed v b x.label s)))
      (keeps-optional x.label x.type b e) i))

  pub array_unmarked : (d : Defaults) (w : ℕ) (b : Label) (u : ColumnType) (k : Position) (t : ColumnType) → b.required ≡ false
      → attach_transforms v p d (carray w b u) k t ≡ unless_null_type v p k (carray w b u) t
      (array_part w t >>= λ x.
      demand (same_element v x.label b) 25
      (attach_transforms v p no_defaults u first x.type >>= λ s. gives (array_selector k (renamed v b x.label s))))
  unfolding attach_transforms
  array_unmarked d w b u k t e =
      λ i. unless_null_type v p k (carray w b u) t (array_part w t >>= λ x.
      demand (same_element v x.label b) 25
      (passed 55 (attach_transforms v p no_defaults u first x.type >>= λ s. gives (array_selector k (renamed v b x.label s)))
      (keeps-optional x.label x.type b e) i))

  -- a column that was found
  found : (d : Defaults) (b : Label) (u : ColumnType) (m : Label) → b.required ≡ false → (k : Position) (t : ColumnType)
      → demand (keeps_required m t b) 55 (attach_transforms v p d u k t >>= λ s. gives (renamed v b m s)) ≡
      (attach_transforms v p d u k t >>= λ s. gives (renamed v b m s))
  found d b u m e k t = passed 55 (attach_transforms v p d u k t >>= λ s. gives (renamed v b m s)) (keeps-optional m t b e)

  -- the missing column's clause is `missing_unmarked`
  pub fields_unmarked : (d : Defaults) (b : Label) (u : ColumnType) (gs fs : Columns) → b.required ≡ false
      → attach_fields v p d (ccons b u gs) fs
      ≡ (sought (counterpart v b fs) (missing d (inserts p.missing_struct_fields) 14 b u)
      (λ k m t. attach_transforms v p d u k t >>= λ s. gives (renamed v b m s)) >>= λ s.
      attach_fields v p d gs fs >>= λ ss.
      gives (scons s ss))
  unfolding attach_fields
  fields_unmarked d b u gs fs e =
      λ i. sought (counterpart v b fs) (missing d (inserts p.missing_struct_fields) 14 b u) (λ k m t. found d b u m e k t i) >>= λ s.
      attach_fields v p d gs fs >>= λ ss.
      gives (scons s ss)

  pub column_unmarked : (d : Defaults) (b : Label) (u : ColumnType) (fs : Columns) → b.required ≡ false
      → build_column_selector v p d b u fs
      ≡ sought (counterpart v b fs) (missing d (inserts p.missing_columns) 11 b u) (λ k m t. attach_transforms v p d u k t >>= λ s. gives (renamed v b m s))
  unfolding build_column_selector
  column_unmarked d b u fs e =
      λ i. sought (counterpart v b fs) (missing d (inserts p.missing_columns) 11 b u) (λ k m t. found d b u m e k t i)

-- what is built by name has no mark (`layout_older`, crate values)
pub by_name_older : (v : Edition) → takes ByName v ≡ true → v ≡ Three → ⊥
by_name_older One e q = clash (cc)
by_name_older Two e q = clash (cc)
by_name_older Three e q = clash (cc)
