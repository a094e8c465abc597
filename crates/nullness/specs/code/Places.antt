-- Document 02, L5, nullness by the path to a place: a field has its number, the element of a list or array, every one,
-- 0.
use Rattle.std.specs.Prelude.{ℕ, zero, suc, ◌≡◌, Bool, true, List, [], ◌∷◌}
use Rattle.layout.specs.Tree.{DataType, struct, list, array, Fields}
use Rattle.plan.specs.Result.{gives}
use Rattle.plan.specs.Check.{Column, column_at}
use Rattle.plan.specs.Nullness.{Nullness, inside_of, Nullnesses, nnil, ncons, nullness_at}
use Rattle.plan.specs.Marks.{allowed}
use Rattle.plan.specs.code.Paths.{place_in}

-- `Leads t p u`: the path p leads from the type t to the type u
pub data Leads : DataType → List ℕ → DataType → Type 0 where
  l_here : {t : DataType} → Leads t [] t
  l_field : {fs : Fields} {k : ℕ} {c : Column} {p : List ℕ} {u : DataType} → column_at fs k ≡ gives c → Leads c.type p u → Leads (struct fs) (k ∷ p) u
  l_list : {t u : DataType} {p : List ℕ} → Leads t p u → Leads (list t) (0 ∷ p) u
  l_array : {w : ℕ} {t u : DataType} {p : List ℕ} → Leads t p u → Leads (array w t) (0 ∷ p) u

-- what is inside, from the path on
unfoldable pub nullness_in : Nullness → List ℕ → Nullness
nullness_in n [] = n
nullness_in n (k ∷ p) = nullness_in (nullness_at (inside_of n) k) p

-- a required field may stand at the path
abbrev pub fills_at : Nullness → List ℕ → Bool
fills_at n p = allowed (place_in n p) true

-- the places after the first i
unfoldable pub drop_places : ℕ → Nullnesses → Nullnesses
drop_places zero ns = ns
drop_places (suc i) nnil = nnil
drop_places (suc i) (ncons n ns) = drop_places i ns
