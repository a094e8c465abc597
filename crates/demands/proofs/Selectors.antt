-- With which numbers the check of a plan and the run of one that passed can refuse, over trees; a top selector's
-- refusal has its position. Assumes nothing.
use Prim.Native.Nat.{ℕ, zero, suc, ◌+◌, ◌≤◌, ◌<◌}
use mathlib.Core.Path.{◌≡◌, refl}
use mathlib.Core.Bool.{Bool, true, false}
use mathlib.Core.List.{List, [], ◌∷◌}
use native.Mathlib.Omega.{arith}
use lib.ListN.{length}
use lib.Dec.{leb}
use borrow.Author.Tests.{leb-true}
use Rattle.layout.specs.Bytes.{Bytes}
use Rattle.layout.specs.Tree.{Columns, cnil, ccons, DataType, leaf, struct, list, array, Fields, fnil, fcons, fields_of}
use Rattle.values.specs.Value.{Values}
use Rattle.values.specs.Encode.{encode_values}
use Rattle.values.specs.Record.{longest}
use Rattle.plan.specs.Result.{gives, refuses, demand, accepted, placed}
use Rattle.plan.specs.Selector.{Selector, position, constant, cast, rename, struct_mapping, list_mapping, array_mapping, Selectors, snil, scons, count_selectors}
use Rattle.forms.specs.Same.{equal_fields}
use Rattle.plan.specs.Check.{column_at, element_of, struct_of, list_of, array_of, resulting, check_cast, check_rename, check_struct, check_list, check_array, type_of}
use Rattle.plan.specs.Check.{types_of, top_types, against, check}
use Rattle.plan.specs.Nullness.{nnil, nullnesses_of}
use Rattle.plan.specs.Marks.{givens, meets_all, check_marked}
use Rattle.plan.specs.Run.{evals, clean_all_of, spacious, written, run}
use Rattle.plan.proofs.Results.{both, true≠false}
use Rattle.demands.specs.Refusals.{is_in}
use Rattle.demands.proofs.Refusing.{ResultIn, in_gives, in_refuses, bind_in, demand_in, Answers, in_accepted, in_refused_at, placed_in, answered_in}
use Rattle.demands.proofs.Refusing.{ColumnRefusal}

-- a selector's numbers
abbrev pub selector_refusals : List ℕ
selector_refusals = 31 ∷ 32 ∷ []

column_at_in : (Γ : Fields) (k : ℕ) → ResultIn selector_refusals (column_at Γ k)
unfolding column_at is_in
column_at_in fnil k = in_refuses refl
column_at_in (fcons n t fs) zero = in_gives
column_at_in (fcons n t fs) (suc k) = column_at_in fs k

unfit : {A : Type 0} → ResultIn {A = A} selector_refusals (refuses 32)
unfolding is_in
unfit = in_refuses refl

struct_of_in : (t : DataType) → ResultIn selector_refusals (struct_of t)
unfolding struct_of
struct_of_in (leaf l) = unfit
struct_of_in (struct fs) = in_gives
struct_of_in (list t) = unfit
struct_of_in (array w t) = unfit

list_of_in : (t : DataType) → ResultIn selector_refusals (list_of t)
unfolding list_of
list_of_in (leaf l) = unfit
list_of_in (struct fs) = unfit
list_of_in (list t) = in_gives
list_of_in (array w t) = unfit

array_of_in : (t : DataType) → ResultIn selector_refusals (array_of t)
unfolding array_of
array_of_in (leaf l) = unfit
array_of_in (struct fs) = unfit
array_of_in (list t) = unfit
array_of_in (array w t) = in_gives

resulting_in : (n : Bytes) (t : DataType) → ResultIn selector_refusals (resulting n t)
unfolding resulting is_in
resulting_in n t = demand_in _ 32 refl in_gives

mutual
  unfolding type_of types_of check_cast check_rename check_struct check_list check_array is_in

  type_of_in : (s : Selector) (Γ : Fields) → ResultIn selector_refusals (type_of Γ s)
  type_of_in (position k) Γ = column_at_in Γ k.0
  type_of_in (constant n t v) Γ = in_gives
  type_of_in (cast s t o) Γ = bind_in (type_of_in s Γ) (λ c. demand_in _ 32 refl (resulting_in c.name t))
  type_of_in (rename s n) Γ = bind_in (type_of_in s Γ) (λ c. resulting_in n c.type)
  type_of_in (struct_mapping s ss) Γ =
      bind_in (type_of_in s Γ) (λ c.
      bind_in (struct_of_in c.type) (λ fs.
      bind_in (types_of_in ss fs) (λ gs. resulting_in c.name (struct gs))))
  type_of_in (list_mapping s e) Γ =
      bind_in (type_of_in s Γ) (λ c.
      bind_in (list_of_in c.type) (λ t.
      bind_in (type_of_in e (element_of t)) (λ d. resulting_in c.name (list d.type))))
  type_of_in (array_mapping s e) Γ =
      bind_in (type_of_in s Γ) (λ c.
      bind_in (array_of_in c.type) (λ a.
      bind_in (type_of_in e (element_of a.element)) (λ d. resulting_in c.name (array a.width d.type))))

  types_of_in : (ss : Selectors) (Γ : Fields) → ResultIn selector_refusals (types_of Γ ss)
  types_of_in snil Γ = in_gives
  types_of_in (scons s ss) Γ = bind_in (type_of_in s Γ) (λ c. bind_in (types_of_in ss Γ) (λ fs. in_gives))

top_in : (Γ : Fields) (ss : Selectors) (i count : ℕ) → i + count_selectors ss ≤ count
    → Answers (λ fs. Unit {0}) (ColumnRefusal selector_refusals count) (top_types Γ ss i)
unfolding top_types count_selectors
top_in Γ snil i count h = in_accepted tt
top_in Γ (scons s ss) i count h =
    placed_in i (type_of_in s Γ) (λ n e. record { among = e; place = omega (arith, h) })
    (λ c. answered_in (top_in Γ ss (i + 1) count (omega (arith, h))) (λ n k r. r) (λ fs x. in_accepted tt))

-- 55 asks for a selector
nothing-meets : (cs : Columns) → meets_all nnil cs ≡ true
unfolding meets_all
nothing-meets cnil = refl
nothing-meets (ccons l t cs) = refl

some-selector : (Γ Δ : Columns) (ss : Selectors) → meets_all (nullnesses_of (givens Γ) ss) Δ ≡ false → 0 < count_selectors ss
unfolding nullnesses_of count_selectors
some-selector Γ Δ snil e = true≠false (nothing-meets Δ) e
some-selector Γ Δ (scons s ss) e = omega arith

pub check_in : (Γ Δ : Fields) (ss : Selectors) {P : ℕ → ℕ → Type 0} → ((n k : ℕ) → ColumnRefusal selector_refusals (count_selectors ss) n k → P n k) → P 33 0
    → Answers (λ x. Unit {0}) P (check Γ Δ ss)
unfolding check against placed demand
check_in Γ Δ ss {P} c p = answered_in (top_in Γ ss 0 (count_selectors ss) (omega arith)) c (λ fs x. go (equal_fields fs Δ))
  where
    go : (b : Bool) → Answers (λ (x : Unit {0}). Unit {0}) P (placed 0 (demand b 33 (gives tt)) accepted)
    go true = in_accepted tt
    go false = in_refused_at p

-- 55, last: there is a selector where it is met
pub check_marked_in : (Γ Δ : Columns) (ss : Selectors) {P : ℕ → ℕ → Type 0} → ((n k : ℕ) → ColumnRefusal selector_refusals (count_selectors ss) n k → P n
    k) → P 33 0
    → (0 < count_selectors ss → P 55 0) → Answers (λ x. Unit {0}) P (check_marked Γ Δ ss)
unfolding check_marked placed demand
check_marked_in Γ Δ ss {P} c p q = answered_in (check_in (fields_of Γ) (fields_of Δ) ss c p) (λ n k r. r)
    (λ u x. go (meets_all (nullnesses_of (givens Γ) ss) Δ) refl)
  where
    go : (b : Bool) → meets_all (nullnesses_of (givens Γ) ss) Δ ≡ b → Answers (λ (x : Unit {0}). Unit {0}) P (placed 0 (demand b 55 (gives tt)) accepted)
    go true e = in_accepted tt
    go false e = in_refused_at (q (some-selector Γ Δ ss e))

-- ---- the run of what passed: 44, 45, and what is written is no longer than a record may be

pub run_in : (ρ : Values) (ss : Selectors) (room : ℕ) {P : ℕ → ℕ → Type 0} → P 44 0 → P 45 0 → Answers (λ b. length b ≤ longest) P (run ρ ss room)
unfolding run written spacious placed demand
run_in ρ ss room {P} p q = go (clean_all_of (evals ρ ss)) (spacious room (encode_values (evals ρ ss))) refl
  where
    b : Bytes
    b = encode_values (evals ρ ss)

    go : (c d : Bool) → spacious room b ≡ d → Answers (λ b. length b ≤ longest) P (placed 0 (demand c 44 (demand d 45 (gives b))) accepted)
    go true true e = in_accepted (leb-true _ _ (both (leb (length b) room) e).1)
    go true false e = in_refused_at q
    go false d e = in_refused_at p
