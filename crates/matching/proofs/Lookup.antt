-- What a look-up among columns finds: a column of the wanted label, at the position where it stands. Assumes nothing.
use Prim.Native.Nat.{ℕ, suc, ◌+◌}
use mathlib.Core.Path.{◌≡◌, refl, sym, ap, ◌∙◌}
use mathlib.Core.Bool.{Bool, true, false}
use native.Mathlib.Omega.{arith}
use Rattle.layout.specs.Bytes.{Bytes, same_bytes}
use Rattle.layout.specs.Parser.{choose}
use Rattle.layout.specs.Tree.{Label, ColumnType, Columns, cnil, ccons, DataType, Fields, fnil, fcons, dtype_of, fields_of}
use Rattle.layout.specs.Layout.{same_label}
use Rattle.layout.specs.Find.{Lookup, absent, present, find_from, column_named, counterpart}
use Rattle.layout.specs.code.Finding.{match_rule}
use Rattle.layout.specs.declared.columns.Position.{Position}
use Rattle.layout.specs.declared.matching.Matching.{Matching}
use Rattle.layout.proofs.OfBytes.{same_bytes-refl, same_bytes_eq}
use Rattle.layout.proofs.Ways.{clash}
use Rattle.layout.proofs.Finding.{counterpart-first}
use Rattle.plan.proofs.Results.{true≠false, both}
use Rattle.plan.proofs.Typed.{At, here, there}
use Rattle.matching.specs.Build.{is_absent, distinct_names}

-- ---- what was found

pub at_eq : {j k : Position} {a b : Label} {t u : ColumnType} → present j a t ≡ present k b u → (j ≡ k) × ((a ≡ b) × (t ≡ u))
at_eq e = (cc, (cc, cc))

pub never_absent : {k : Position} {a : Label} {t : ColumnType} {X : Type 0} → absent ≡ present k a t → X
never_absent e = clash (cc)

-- The columns cs, of which the first has the position i, have at position k the label l and the type t, and f takes it.
pub record Stands (f : ℕ → Label → Bool) (i : ℕ) (cs : Columns) (k : Position) (l : Label) (t : ColumnType) : Type 0 where
  pub index : ℕ
  pub counted : i + index ≡ k.0
  pub place : At (fields_of cs) index l.name (dtype_of t)
  pub wanted : f k.0 l ≡ true

pub found-stands : (f : ℕ → Label → Bool) (i : ℕ) (cs : Columns) {k : Position} {l : Label} {t : ColumnType} → find_from f i cs ≡ present k l t → Stands
    f i cs k l t
unfolding find_from choose fields_of
found-stands f i cnil e = never_absent e
found-stands f i (ccons a u cs) {k} {l} {t} e = go (f i a) refl e (λ h. found-stands f (i + 1) cs h)
  where
    go : (x : Bool) → f i a ≡ x → choose x (present (record { 0 = i }) a u) (find_from f (i + 1) cs) ≡ present k l t →
        (find_from f (i + 1) cs ≡ present k l t → Stands f (i + 1) cs k l t)
        → Stands f i (ccons a u cs) k l t
    go true q e ih =
        let (p, (r, z)) = at_eq e in
        let w : i ≡ k.0 = ap (λ (k : Position). k.0) p in
        record { index = 0; counted = omega arith; place = rw (← r, ← z) here; wanted = rw (← w, ← r) q }
    go false q e ih =
        let S = ih e in
        record { index = suc S.index; counted = let c = S.counted in omega arith; place = there S.place; wanted = S.wanted }

-- ---- counterparts

-- an incoming label a is of the same field as the target's b
abbrev pub matches : Matching → Label → Label → Bool
matches v b a = same_label (match_rule v) a b

-- the counterpart of the label b has the position k, the label a and the type t
pub record Counterpart (v : Matching) (b : Label) (cs : Columns) (k : Position) (a : Label) (t : ColumnType) : Type 0 where
  pub place : At (fields_of cs) k.0 a.name (dtype_of t)
  pub match : matches v b a ≡ true

pub counterpart-at : (v : Matching) (b : Label) (cs : Columns) {k : Position} {a : Label} {t : ColumnType} → counterpart v b cs ≡ present k a t →
    Counterpart v b cs k a t
counterpart-at v b cs {k} {a} {t} e =
    let S = found-stands (λ i a. matches v b a) 0 cs (sym (counterpart-first v b cs) ∙ e) in
    let c = S.counted in
    let z : S.index ≡ k.0 = omega arith in
    record { place = placed z S.place; match = S.wanted }
  where
    placed : {i j : ℕ} → i ≡ j → At (fields_of cs) i a.name (dtype_of t) → At (fields_of cs) j a.name (dtype_of t)
    placed z p = rw (← z) p

-- ---- positions

-- one position has one name and type
pub at_unique : {fs : Fields} {k : ℕ} {n m : Bytes} {t u : DataType} → At fs k n t → At fs k m u → (n ≡ m) × (t ≡ u)
at_unique here here = (refl, refl)
at_unique (there a) (there b) = at_unique a b

-- `Suffix i fs gs`: gs is fs without its first i fields
pub data Suffix : ℕ → Fields → Fields → Type 0 where
  all : {fs : Fields} → Suffix 0 fs fs
  past : {i : ℕ} {n : Bytes} {t : DataType} {fs gs : Fields} → Suffix i fs gs → Suffix (suc i) (fcons n t fs) gs

pub suffix_at : {i : ℕ} {n : Bytes} {t : DataType} {fs gs : Fields} → Suffix i fs (fcons n t gs) → At fs i n t
suffix_at all = here
suffix_at (past s) = there (suffix_at s)

pub suffix_next : {i : ℕ} {n : Bytes} {t : DataType} {fs gs : Fields} → Suffix i fs (fcons n t gs) → Suffix (suc i) fs gs
suffix_next all = past all
suffix_next (past s) = past (suffix_next s)

pub suffix_equal : {fs gs : Fields} → fs ≡ gs → Suffix 0 fs gs
suffix_equal p = rw p all

-- ---- among distinct names each is found where it stands

data AtCases (n : Bytes) (t : DataType) (fs : Fields) (k : ℕ) (m : Bytes) (u : DataType) : Type 0 where
  at_here : 0 ≡ k → n ≡ m → t ≡ u → AtCases n t fs k m u
  at_there : (j : ℕ) → suc j ≡ k → At fs j m u → AtCases n t fs k m u

at_cases : {n m : Bytes} {t u : DataType} {fs : Fields} {k : ℕ} → At (fcons n t fs) k m u → AtCases n t fs k m u
at_cases here = at_here refl refl refl
at_cases (there a) = at_there _ refl a

at_none : {k : ℕ} {m : Bytes} {u : DataType} {X : Type 0} → At fnil k m u → X
at_none a = elim a [ ]

abbrev is_named : Bytes → ℕ → Label → Bool
is_named n i l = same_bytes l.name n

-- the positions do not count
absent_shifts : (n : Bytes) (i j : ℕ) (cs : Columns) → is_absent (find_from (is_named n) i cs) ≡ is_absent (find_from (is_named n) j cs)
unfolding find_from choose
absent_shifts n i j cnil = refl
absent_shifts n i j (ccons l t cs) = go (same_bytes l.name n) (absent_shifts n (i + 1) (j + 1) cs)
  where
    go : (x : Bool) → is_absent (find_from (is_named n) (i + 1) cs) ≡ is_absent (find_from (is_named n) (j + 1) cs)
        → is_absent (choose x (present (record { 0 = i }) l t) (find_from (is_named n) (i + 1) cs)) ≡ is_absent
        (choose x (present (record { 0 = j }) l t) (find_from (is_named n) (j + 1) cs))
    go true h = refl
    go false h = h

pub record First (n : Bytes) (i : ℕ) (cs : Columns) (j : ℕ) (t : DataType) : Type 0 where
  pub label : Label
  pub type : ColumnType
  pub found : find_from (λ i l. same_bytes l.name n) i cs ≡ present (record { 0 = i + j }) label type
  pub equal : dtype_of type ≡ t

abbrev moved : ℕ → Label → ColumnType → Lookup
moved i l t = present (record { 0 = i }) l t

pub first-named : (n : Bytes) (i : ℕ) (cs : Columns) {j : ℕ} {t : DataType} → distinct_names cs ≡ true → At (fields_of cs) j n t → First n i cs j t
unfolding fields_of distinct_names find_from choose
first-named n i cnil d a = at_none a
first-named n i (ccons l u cs) {j} {t} d a =
    let (x, y) = both (is_absent (column_named l.name cs)) d in
    go x (at_cases a) (λ j b. first-named n (i + 1) cs y b)
  where
    here_found : l.name ≡ n → choose (same_bytes l.name n) (present (record { 0 = i }) l u) (find_from (is_named n) (i + 1) cs) ≡ moved i l u
    here_found p = rw (p, same_bytes-refl n)

    later-found : {k : Position} {a : Label} {w : ColumnType} (x : Bool) → same_bytes l.name n ≡ x → is_absent (column_named l.name cs) ≡ true →
        find_from (is_named n) (i + 1) cs ≡ present k a w
        → choose x (present (record { 0 = i }) l u) (find_from (is_named n) (i + 1) cs) ≡ present k a w
    later-found true q p h =
        let r = same_bytes_eq l.name n q in
        true≠false p (ap (λ (m : Bytes). is_absent (column_named m cs)) r ∙ (absent_shifts n 0 (i + 1) cs ∙ ap is_absent h))
    later-found false q p h = h

    go : is_absent (column_named l.name cs) ≡ true → AtCases l.name (dtype_of u) (fields_of cs) j n t →
        ((j : ℕ) → At (fields_of cs) j n t → First n (i + 1) cs j t) → First n i (ccons l u cs) j t
    go x (at_here z p q) ih = record { label = l; type = u; found = here_found p ∙ ap (λ (k : ℕ). moved k l u) (omega arith); equal = q }
    go x (at_there k z b) ih =
        let F = ih k b in
        record {
          label = F.label;
          type = F.type;
          found = later-found (same_bytes l.name n) refl x F.found ∙ ap (λ (k : ℕ). moved k F.label F.type) (omega arith);
          equal = F.equal;
        }
