-- A constant passes 55 just where no null of it stands at a required place: 54 is the same test. Assumes nothing.
use mathlib.Core.Path.{◌≡◌, refl}
use mathlib.Core.Bool.{Bool, true, false}
use mathlib.Core.Logic.{◌↔◌}
use Rattle.layout.specs.Tree.{ColumnType, cleaf, cstruct, clist, carray, Columns, cnil, ccons, dtype_of}
use Rattle.values.specs.Value.{Value, Values}
use Rattle.values.specs.Fits.{Fits}
use Rattle.plan.proofs.Results.{both, and-true}
use Rattle.plan.proofs.Over.{fits-over}
use Rattle.values.specs.Filled.{required_of, Filled, full-null, full-number, full-text, full-over, full-struct, full-list, full-array, FilledAll, full-nil}
use Rattle.values.specs.Filled.{full-cons, FilledEach, full-none, full-more}
use Rattle.plan.specs.Nullness.{Place, required, optional, novalue, Nullness, node, Nullnesses, nnil, ncons, nowhere, nullness_at, join_place, join}
use Rattle.plan.specs.Nullness.{join_all, of_value, of_fields, of_elements}
use Rattle.plan.specs.Marks.{allowed, meets, meets_all}
use Rattle.plan.proofs.Holds.{value-holds}
use Rattle.plan.proofs.Sound.{holds-filled}

allowed-join : (p q : Place) (r : Bool) → allowed p r ≡ true → allowed q r ≡ true → allowed (join_place p q) r ≡ true
unfolding join_place allowed
allowed-join required required r a b = refl
allowed-join required optional r a b = b
allowed-join required novalue r a b = refl
allowed-join optional q r a b = a
allowed-join novalue q r a b = b

-- the first places
first_joins : (r : Bool) (t : ColumnType) (ns ms : Nullnesses) → meets (nullness_at ns 0) r t ≡ true → meets (nullness_at ms 0) r t ≡ true
    → ((n m : Nullness) → meets n r t ≡ true → meets m r t ≡ true → meets (join n m) r t ≡ true) → meets (nullness_at (join_all ns ms) 0) r t ≡ true
unfolding join_all nullness_at
first_joins r t nnil ms a b h = b
first_joins r t (ncons n ns) nnil a b h = a
first_joins r t (ncons n ns) (ncons m ms) a b h = h n m a b

-- ---- where nothing has a value

none-meet : (cs : Columns) → meets_all nnil cs ≡ true
unfolding meets_all
none-meet cnil = refl
none-meet (ccons l t cs) = refl

pub nowhere-meets : (u : ColumnType) (r : Bool) → meets nowhere r u ≡ true
unfolding meets allowed nullness_at
nowhere-meets (cleaf l) r = refl
nowhere-meets (cstruct cs) r = none-meet cs
nowhere-meets (clist l u) r = nowhere-meets u l.required
nowhere-meets (carray w l u) r = nowhere-meets u l.required

-- a leaf, cast to any type
pub leaf-meets : (p : Place) (r : Bool) (u : ColumnType) → allowed p r ≡ true → meets (node p nnil) r u ≡ true
unfolding meets nullness_at
leaf-meets p r (cleaf l) e = e
leaf-meets p r (cstruct cs) e = and-true e (none-meet cs)
leaf-meets p r (clist l u) e = and-true e (nowhere-meets u l.required)
leaf-meets p r (carray w l u) e = and-true e (nowhere-meets u l.required)

-- ---- what both meet

mutual
  unfolding meets meets_all join join_all nullness_at

  join-meets : (t : ColumnType) (n m : Nullness) (r : Bool) → meets n r t ≡ true → meets m r t ≡ true → meets (join n m) r t ≡ true
  join-meets (cleaf l) (node p ns) (node q ms) r a b = allowed-join p q r a b
  join-meets (cstruct cs) (node p ns) (node q ms) r a b =
      let (a₁, a₂) = both (allowed p r) a in
      let (b₁, b₂) = both (allowed q r) b in
      and-true (allowed-join p q r a₁ b₁) (join-meet cs ns ms a₂ b₂)
  join-meets (clist l t) (node p ns) (node q ms) r a b =
      let (a₁, a₂) = both (allowed p r) a in
      let (b₁, b₂) = both (allowed q r) b in
      and-true (allowed-join p q r a₁ b₁) (first_joins l.required t ns ms a₂ b₂ (λ n m a b. join-meets t n m l.required a b))
  join-meets (carray w l t) (node p ns) (node q ms) r a b =
      let (a₁, a₂) = both (allowed p r) a in
      let (b₁, b₂) = both (allowed q r) b in
      and-true (allowed-join p q r a₁ b₁) (first_joins l.required t ns ms a₂ b₂ (λ n m a b. join-meets t n m l.required a b))

  join-meet : (cs : Columns) (ns ms : Nullnesses) → meets_all ns cs ≡ true → meets_all ms cs ≡ true → meets_all (join_all ns ms) cs ≡ true
  join-meet cnil ns ms a b = refl
  join-meet (ccons l t cs) nnil ms a b = b
  join-meet (ccons l t cs) (ncons n ns) nnil a b = a
  join-meet (ccons l t cs) (ncons n ns) (ncons m ms) a b =
      let (a₁, a₂) = both (meets n l.required t) a in
      let (b₁, b₂) = both (meets m l.required t) b in
      and-true (join-meets t n m l.required a₁ b₁) (join-meet cs ns ms a₂ b₂)

-- ---- constants

mutual
  unfolding meets meets_all allowed of_value of_fields of_elements nullness_at

  pub filled-meets : {r : Bool} {t : ColumnType} {v : Value} → Filled required_of r t v → meets (of_value v) r t ≡ true
  filled-meets (full-null {t}) = leaf-meets optional false t refl
  filled-meets full-number = refl
  filled-meets full-text = refl
  filled-meets full-over = refl
  filled-meets (full-struct a) = filled-meet a
  filled-meets (full-list a) = filled-elements a
  filled-meets (full-array a) = filled-elements a

  filled-meet : {cs : Columns} {vs : Values} → FilledAll required_of cs vs → meets_all (of_fields vs) cs ≡ true
  filled-meet full-nil = refl
  filled-meet (full-cons a bs) = and-true (filled-meets a) (filled-meet bs)

  filled-elements : {r : Bool} {t : ColumnType} {vs : Values} → FilledEach required_of r t vs → meets (nullness_at (of_elements vs) 0) r t ≡ true
  filled-elements (full-none {r} {t}) = nowhere-meets t r
  filled-elements (full-more {r} {t} {v} {vs} a bs) =
      first_joins r t (ncons (of_value v) nnil) (of_elements vs) (filled-meets a) (filled-elements bs) (λ n m a b. join-meets t n m r a b)

-- "counts as required at each place where none of the values it has there is null"
pub constant_exact : (r : Bool) (t : ColumnType) (v : Value) → Fits (dtype_of t) v → (meets (of_value v) r t ≡ true) ↔ Filled required_of r t v
constant_exact r t v f = (λ e. holds-filled (value-holds v) t (fits-over f) e, filled-meets)
