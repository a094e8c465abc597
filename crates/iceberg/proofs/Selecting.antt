-- What document 01 finds by number is what the specification selects. Assumes nothing.
use Prim.Native.Nat.{ℕ, suc, ◌+◌}
use mathlib.Core.Path.{◌≡◌, refl, ap}
use mathlib.Core.Bool.{Bool, true, false}
use native.Mathlib.Omega.{arith}
use lib.Dec.{eqb}
use borrow.Author.Tests.{eqb-true, eqb-false}
use Rattle.layout.specs.Parser.{choose}
use Rattle.layout.specs.Tree.{LeafType, Label, ColumnType, Columns, cnil, ccons, leaf}
use Rattle.layout.specs.Find.{absent, present, find_from, counterpart}
use Rattle.layout.specs.declared.columns.FieldId.{FieldId}
use Rattle.layout.specs.declared.columns.Position.{Position}
use Rattle.layout.specs.declared.matching.Matching.TheVariants.{ByNumber}
use Rattle.layout.proofs.Ways.{clash}
use Rattle.forms.specs.Same.{equal_types}
use Rattle.values.specs.Value.{vnull}
use Rattle.plan.specs.Run.{cast_leaf}
use Rattle.matching.specs.Due.{due_leaf}
use Rattle.matching.proofs.Lookup.{at_eq, never_absent}
use Rattle.iceberg.specs.Specification.{HasId, id-here, id-there, Lacks, lacks_nil, lacks_cons}

pub id_eq : {i j : FieldId} → i.0 ≡ j.0 → i ≡ j
id_eq e = ap (λ (n : ℕ). record { 0 = n }) e

abbrev is_id : FieldId → ℕ → Label → Bool
is_id j i l = eqb l.id.0 j.0

record Selected (j : FieldId) (i : ℕ) (cs : Columns) (k : Position) (a : Label) (t : ColumnType) : Type 0 where
  index : ℕ
  counted : i + index ≡ k.0
  has : HasId cs j index a t

selected : (j : FieldId) (i : ℕ) (cs : Columns) {k : Position} {a : Label} {t : ColumnType} → find_from (is_id j) i cs ≡ present k a t
    → Selected j i cs k a t
unfolding find_from choose
selected j i cnil e = never_absent e
selected j i (ccons l u cs) {k} {a} {t} e = go (eqb l.id.0 j.0) refl e (λ h. selected j (i + 1) cs h)
  where
    go : (x : Bool) → eqb l.id.0 j.0 ≡ x → choose x (present (record { 0 = i }) l u) (find_from (is_id j) (i + 1) cs) ≡ present k a t
        → (find_from (is_id j) (i + 1) cs ≡ present k a t → Selected j (i + 1) cs k a t) → Selected j i (ccons l u cs) k a t
    go true q e ih =
        let (p, (r, z)) = at_eq e in
        let w : i ≡ k.0 = ap (λ (k : Position). k.0) p in
        record { index = 0; counted = omega arith; has = rw (← r, ← z) (id-here (id_eq (eqb-true _ _ q))) }
    go false q e ih = let S = ih e in record { index = suc S.index; counted = let c = S.counted in omega arith; has = id-there S.has }

-- what document 01 finds by number is what the specification selects,
pub counterpart_selected : (b : Label) (fs : Columns) {k : Position} {a : Label} {t : ColumnType} → counterpart ByNumber b fs ≡ present k a t
    → HasId fs b.id k.0 a t
counterpart_selected b fs {k} {a} {t} e =
    let S = selected b.id 0 fs e in
    let c = S.counted in
    let z : S.index ≡ k.0 = omega arith in
    moved z S.has
  where
    moved : {i j : ℕ} → i ≡ j → HasId fs b.id i a t → HasId fs b.id j a t
    moved z h = rw (← z) h

lacking : (j : FieldId) (i : ℕ) (cs : Columns) → find_from (is_id j) i cs ≡ absent → Lacks cs j
unfolding find_from choose
lacking j i cnil e = lacks_nil
lacking j i (ccons l u cs) e = go (eqb l.id.0 j.0) refl e (λ h. lacking j (i + 1) cs h)
  where
    go : (x : Bool) → eqb l.id.0 j.0 ≡ x → choose x (present (record { 0 = i }) l u) (find_from (is_id j) (i + 1) cs) ≡ absent
        → (find_from (is_id j) (i + 1) cs ≡ absent → Lacks cs j) → Lacks (ccons l u cs) j
    go true q e ih = clash (cc)
    go false q e ih = lacks_cons (λ p. eqb-false _ _ q (ap (λ (i : FieldId). i.0) p)) (ih e)

-- and where it finds nothing, the specification's file lacks the id
pub counterpart_lacks : (b : Label) (fs : Columns) → counterpart ByNumber b fs ≡ absent → Lacks fs b.id
counterpart_lacks b fs e = lacking b.id 0 fs e

-- ---- leaves

-- a null leaf stays null
pub null-due : (l m : LeafType) → due_leaf l m vnull ≡ vnull
unfolding due_leaf cast_leaf choose
null-due l m = go (equal_types (leaf l) (leaf m))
  where
    go : (b : Bool) → choose b vnull vnull ≡ vnull
    go true = refl
    go false = refl
