-- Document 02, L5: required marks in the check, and its last test (55).
use Rattle.std.specs.Prelude.{ℕ, Bool, true, false, ◌&&◌, not}
use Rattle.layout.specs.Tree.{leaf_of, ColumnType, cleaf, cstruct, clist, carray, Columns, cnil, ccons, fields_of}
use Rattle.rules.specs.Classes.{is_null}
use Rattle.plan.specs.Result.{gives, demand, Answer, accepted, placed, answered}
use Rattle.plan.specs.Selector.{Selectors}
use Rattle.plan.specs.Check.{check}
use Rattle.plan.specs.Nullness.{Place, required, optional, novalue, Nullness, node, Nullnesses, nnil, ncons, top_of, inside_of, nullness_at, nullnesses_of}

abbrev pub place_of : Bool → Place
place_of true = required
place_of false = optional

-- a required field may not be null where it has a value
unfoldable pub allowed : Place → Bool → Bool
allowed required r = true
allowed optional r = not r
allowed novalue r = true

-- a column's nullness: "a null-type input is optional with nothing inside it", even where it is marked
unfoldable mutual
  pub given : Bool → ColumnType → Nullness
  given r (cleaf l) = node (place_of (r && not (is_null (leaf_of l)))) nnil
  given r (cstruct cs) = node (place_of r) (givens cs)
  given r (clist l t) = node (place_of r) (ncons (given l.required t) nnil)
  given r (carray w l t) = node (place_of r) (ncons (given l.required t) nnil)

  pub givens : Columns → Nullnesses
  givens cnil = nnil
  givens (ccons l t cs) = ncons (given l.required t) (givens cs)

-- `meets n r t`: what has the nullness n may stand in a column of the mark r and the type t. "A place, of any type,
-- where a constant or a cast of null has no value never counts".
unfoldable mutual
  pub meets : Nullness → Bool → ColumnType → Bool
  meets n r (cleaf l) = allowed (top_of n) r
  meets n r (cstruct cs) = allowed (top_of n) r && meets_all (inside_of n) cs
  meets n r (clist l t) = allowed (top_of n) r && meets (nullness_at (inside_of n) 0) l.required t
  meets n r (carray w l t) = allowed (top_of n) r && meets (nullness_at (inside_of n) 0) l.required t

  pub meets_all : Nullnesses → Columns → Bool
  meets_all ns cnil = true
  meets_all nnil (ccons l t cs) = true
  meets_all (ncons n ns) (ccons l t cs) = meets n l.required t && meets_all ns cs

-- the check of a plan, 55 "as the last test, after 33"
unfoldable pub check_marked : Columns → Columns → Selectors → Answer (Unit {0})
check_marked Γ Δ ss =
    answered (check (fields_of Γ) (fields_of Δ) ss) (λ u. placed 0 (demand (meets_all (nullnesses_of (givens Γ) ss) Δ) 55 (gives u)) accepted)
