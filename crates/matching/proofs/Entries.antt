-- The first entry that a test takes. Assumes nothing.
use mathlib.Core.Path.{◌≡◌, refl}
use mathlib.Core.Bool.{Bool, true, false, not}
use mathlib.Core.List.{List, [], ◌∷◌}
use lib.Dec.{eqb}
use Rattle.layout.specs.Parser.{choose}
use Rattle.layout.specs.declared.columns.FieldId.{FieldId}
use Rattle.layout.proofs.Ways.{clash}
use Rattle.plan.proofs.Results.{both}
use Rattle.defaults.specs.Table.{Given, Entry, is_partition}
use Rattle.defaults.specs.Lookup.{is_partition_of, is_initial_of, first_entry_of}

pub data Match : Type 0 where
  unmatched : Match
  matched : Given → Match

abbrev pub match_of : (Entry → Bool) → List Entry → Match
match_of f es = first_entry_of f matched es unmatched

abbrev pub of_match : {A : Type 0} → (Given → A) → A → Match → A
of_match g r unmatched = r
of_match g r (matched x) = g x

-- whatever is asked of it
pub first_match : {A : Type 0} (f : Entry → Bool) (g : Given → A) (es : List Entry) (r : A) → first_entry_of f g es r ≡ of_match g r (match_of f es)
unfolding first_entry_of choose
first_match f g [] r = refl
first_match f g (x ∷ es) r = go (f x) (first_match f g es r)
  where
    go : (b : Bool) → first_entry_of f g es r ≡ of_match g r (match_of f es) → choose b (g x.given) (first_entry_of f g es r) ≡ of_match g r
        (choose b (matched x.given) (match_of f es))
    go true h = refl
    go false h = h

pub match_is : (f : Entry → Bool) (es : List Entry) {g : Given} → match_of f es ≡ matched g → (x : Entry) × (f x ≡ true) × (x.given ≡ g)
unfolding first_entry_of choose
match_is f [] e = clash (cc)
match_is f (x ∷ es) {g} e = go (f x) refl e (λ h. match_is f es h)
  where
    go : (b : Bool) → f x ≡ b → choose b (matched x.given) (match_of f es) ≡ matched g →
        (match_of f es ≡ matched g → (x : Entry) × (f x ≡ true) × (x.given ≡ g)) → (x : Entry) × (f x ≡ true) × (x.given ≡ g)
    go true q e ih = (x, q, cc)
    go false q e ih = ih e

pub partition-is : (i : FieldId) (es : List Entry) {g : Given} → match_of (is_partition_of i) es ≡ matched g → is_partition g ≡ true
partition-is i es e = let (x, p, q) = match_is (is_partition_of i) es e in rw (← q) (both (eqb x.id.0 i.0) p).1

pub initial-is : (i : FieldId) (es : List Entry) {g : Given} → match_of (is_initial_of i) es ≡ matched g → not (is_partition g) ≡ true
initial-is i es e = let (x, p, q) = match_is (is_initial_of i) es e in rw (← q) (both (eqb x.id.0 i.0) p).1
