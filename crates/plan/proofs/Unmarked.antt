-- "Older columns count as optional" (document 02, L5): where no column of the target is required, 55 is never met.
-- Assumes nothing.
use mathlib.Core.Path.{◌≡◌, refl}
use mathlib.Core.Bool.{Bool, true, false}
use Rattle.layout.specs.Tree.{ColumnType, Columns}
use Rattle.values.specs.Filled.{required_of}
use Rattle.values.proofs.Unmarked.{Unmarked, bare-leaf, bare_struct, bare-list, bare-array, UnmarkedAll, bare-nil, bare-cons}
use Rattle.plan.specs.Nullness.{Place, required, optional, novalue, Nullness, Nullnesses, nnil, ncons, top_of, inside_of, nullness_at}
use Rattle.plan.specs.Marks.{allowed, meets, meets_all}
use Rattle.plan.proofs.Results.{and-true}

allowed-optional : (p : Place) → allowed p false ≡ true
unfolding allowed
allowed-optional required = refl
allowed-optional optional = refl
allowed-optional novalue = refl

mutual
  unfolding meets meets_all

  pub meets_unmarked : {t : ColumnType} → Unmarked required_of t → (n : Nullness) (r : Bool) → r ≡ false → meets n r t ≡ true
  meets_unmarked bare-leaf n r e = rw e (allowed-optional (top_of n))
  meets_unmarked (bare_struct U) n r e = rw e (and-true (allowed-optional (top_of n)) (meet_unmarked U (inside_of n)))
  meets_unmarked (bare-list f U) n r e = rw e (and-true (allowed-optional (top_of n)) (meets_unmarked U (nullness_at (inside_of n) 0) _ f))
  meets_unmarked (bare-array f U) n r e = rw e (and-true (allowed-optional (top_of n)) (meets_unmarked U (nullness_at (inside_of n) 0) _ f))

  pub meet_unmarked : {cs : Columns} → UnmarkedAll required_of cs → (ns : Nullnesses) → meets_all ns cs ≡ true
  meet_unmarked bare-nil ns = refl
  meet_unmarked (bare-cons f U W) nnil = refl
  meet_unmarked (bare-cons f U W) (ncons n ns) = and-true (meets_unmarked U n _ f) (meet_unmarked W ns)
