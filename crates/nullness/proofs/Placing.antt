-- Paths that go on, and the places of columns one after the other. Assumes nothing.
use Prim.Native.Nat.{ℕ, zero, suc, ◌+◌}
use mathlib.Core.Path.{◌≡◌, refl, sym, ap, ◌∙◌}
use mathlib.Core.Bool.{Bool, true, false, not, ◌&&◌}
use mathlib.Core.List.{List, [], ◌∷◌, ◌++◌}
use native.Mathlib.Numerals.{add-one}
use Rattle.layout.specs.Tree.{Label, ColumnType, cstruct, DataType, Columns, cnil, ccons}
use Rattle.plan.specs.Nullness.{Nullness, nowhere, Nullnesses, nnil, ncons, top_of, inside_of, nullness_at}
use Rattle.plan.specs.Marks.{allowed, meets, meets_all}
use Rattle.plan.specs.code.Paths.{place_in}
use Rattle.plan.proofs.Results.{and-true}
use Rattle.plan.proofs.Exact.{nowhere-meets}
use Rattle.nullness.specs.code.Places.{Leads, l_here, l_field, l_list, l_array, nullness_in, fills_at, drop_places}

pub leads-more : {t u v : DataType} {p q : List ℕ} → Leads t p u → Leads u q v → Leads t (p ++ q) v
leads-more l_here M = M
leads-more (l_field e L) M = l_field e (leads-more L M)
leads-more (l_list L) M = l_list (leads-more L M)
leads-more (l_array L) M = l_array (leads-more L M)

pub in_place : (p : List ℕ) (n : Nullness) → place_in n p ≡ top_of (nullness_in n p)
unfolding place_in nullness_in
in_place [] n = refl
in_place (k ∷ p) n = in_place p (nullness_at (inside_of n) k)

pub in_further : (p : List ℕ) (k : ℕ) (n : Nullness) → nullness_in n (p ++ (k ∷ [])) ≡ nullness_at (inside_of (nullness_in n p)) k
unfolding nullness_in
in_further [] k n = refl
in_further (j ∷ p) k n = in_further p k (nullness_at (inside_of n) j)

-- what has no value passes
pub nowhere_fills : (p : List ℕ) → fills_at nowhere p ≡ true
unfolding place_in nullness_at allowed
nowhere_fills [] = refl
nowhere_fills (k ∷ p) = nowhere_fills p

-- ---- columns, one after the other

drop-none : (i : ℕ) → drop_places i nnil ≡ nnil
unfolding drop_places
drop-none zero = refl
drop-none (suc i) = refl

-- where nothing has a value
none-meet : (cs : Columns) → meets_all nnil cs ≡ true
unfolding meets allowed
none-meet cs = nowhere-meets (cstruct cs) true

-- the first of them, and the others
first-meets : (ns : Nullnesses) (i : ℕ) (l : Label) (t : ColumnType) (cs : Columns)
    → meets_all (drop_places i ns) (ccons l t cs) ≡ (meets (nullness_at ns i) l.required t && meets_all (drop_places (suc i) ns) cs)
unfolding meets_all drop_places nullness_at
first-meets nnil zero l t cs = sym (and-true (nowhere-meets t l.required) (none-meet cs))
first-meets nnil (suc i) l t cs = sym (and-true (nowhere-meets t l.required) (none-meet cs))
first-meets (ncons n ns) zero l t cs = refl
first-meets (ncons n ns) (suc i) l t cs = first-meets ns i l t cs

pub next-meets : (ns : Nullnesses) (i : ℕ) {ds : Columns} {l : Label} {t : ColumnType} {cs : Columns} → ds ≡ ccons l t cs
    → meets_all (drop_places i ns) ds ≡ (meets (nullness_at ns i) l.required t && meets_all (drop_places (i + 1) ns) cs)
next-meets ns i {l = l} {t} {cs} e = ap (meets_all (drop_places i ns)) e ∙ first-meets ns i l t cs ∙ ap
    (λ (j : ℕ). meets (nullness_at ns i) l.required t && meets_all (drop_places j ns) cs) (sym (add-one i))

pub none_left : (ns : Nullnesses) (i : ℕ) {ds : Columns} → ds ≡ cnil → meets_all (drop_places i ns) ds ≡ true
unfolding meets_all
none_left ns i e = ap (meets_all (drop_places i ns)) e

-- ---- a test that was turned round

pub untold : (b : Bool) → not b ≡ true → b ≡ false
untold true e = sym e
untold false e = refl
