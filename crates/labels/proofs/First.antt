-- The first column that is wanted, by the first that has the hash of what is wanted. Assumes nothing.
use Prim.Native.Nat.{ℕ, ◌+◌, ◌%◌}
use mathlib.Core.Path.{◌≡◌, refl, sym, ap, ◌∙◌}
use mathlib.Core.Bool.{Bool, true, false}
use lib.Dec.{eqb}
use borrow.Author.Tests.{eq-eqb}
use Rattle.layout.specs.Parser.{choose}
use Rattle.layout.specs.Tree.{Label, ColumnType, Columns, cnil, ccons}
use Rattle.layout.specs.Layout.{same_label}
use Rattle.layout.specs.code.Seen.{label_hash}
use Rattle.layout.specs.declared.columns.Siblings.{Siblings}
use Rattle.layout.specs.Find.{Lookup, absent, present, find_from}
use Rattle.layout.specs.code.Finding.{match_rule}
use Rattle.layout.specs.declared.columns.Position.{Position}
use Rattle.layout.specs.declared.matching.Matching.{Matching}
use Rattle.layout.proofs.Ways.{clash, choose-true, choose-false}
use Rattle.layout.proofs.Noting.{same_hash}
use Rattle.labels.specs.code.LabelTable.{slot_of}

pub untrue : (b : Bool) → (b ≡ true → false ≡ true) → b ≡ false
untrue true h = sym (h refl)
untrue false h = refl

-- a column before others: a and b say whether it is wanted and whether it has the hash
none_before : (a b : Bool) (p : Position) (l : Label) (t : ColumnType) (x y : Lookup) → (a ≡ true → b ≡ true) → choose b (present p l t) y ≡ absent →
    (y ≡ absent → x ≡ absent)
    → choose a (present p l t) x ≡ absent
unfolding choose
none_before true true p l t x y h e k = let w : present p l t ≡ absent = e in clash (cc)
none_before false true p l t x y h e k = let w : present p l t ≡ absent = e in clash (cc)
none_before true false p l t x y h e k = let w : false ≡ true = h refl in clash (cc)
none_before false false p l t x y h e k = k e

first-before : (f : Label → Bool) (b : Bool) (i : Position) (m : Label) (u : ColumnType) (x y : Lookup) {p : Position} {l : Label} {t : ColumnType} →
    (f m ≡ true → b ≡ true)
    → choose b (present i m u) y ≡ present p l t → f l ≡ true → (y ≡ present p l t → x ≡ present p l t) → choose (f m) (present i m u) x ≡ present p l t
unfolding choose
first-before f true i m u x y {p} {l} {t} h e k r =
    let w : present i m u ≡ present p l t = e in
    let z : m ≡ l = cc in
    sym (choose-true (f m) (present i m u) x (ap f z ∙ k) (sym w))
first-before f false i m u x y h e k r = sym (choose-false (f m) (present i m u) x (untrue (f m) h) (sym (r e)))

-- all that f takes, g takes
module _ (f g : Label → Bool) (h : (l : Label) → f l ≡ true → g l ≡ true) where
  pub none_of : (i : ℕ) (cs : Columns) → find_from (λ j l. g l) i cs ≡ absent → find_from (λ j l. f l) i cs ≡ absent
  unfolding find_from
  none_of i cnil e = refl
  none_of i (ccons l t cs) e =
      none_before (f l) (g l) (record { 0 = i }) l t (find_from (λ j m. f m) (i + 1) cs) (find_from (λ j m. g m) (i + 1) cs) (h l) e (none_of (i + 1) cs)

  pub first_of_lem : (i : ℕ) (cs : Columns) {p : Position} {l : Label} {t : ColumnType} → find_from (λ j m. g m) i cs ≡ present p l t → f l ≡ true → find_from
      (λ j m. f m) i cs ≡ present p l t
  unfolding find_from
  first_of_lem i cnil {p} {l} {t} e k = let w : absent ≡ present p l t = e in clash (cc)
  first_of_lem i (ccons m u cs) e k =
      first-before f (g m) (record { 0 = i }) m u (find_from (λ j a. f a) (i + 1) cs) (find_from (λ j a. g a) (i + 1) cs) (h m) e k (λ q. first_of_lem (i + 1) cs q k)

-- labels that match have the same hash
pub same-slot : (how : Matching) (q : ℕ) (w l : Label) → same_label (match_rule how) l w ≡ true → eqb (slot_of how q l) (slot_of how q w) ≡ true
same-slot how q w l e = eq-eqb (slot_of how q l) (slot_of how q w) (ap (λ (h : ℕ). h % q) (same_hash (match_rule how) 0 l w e))

-- a label's chain, by its hash
pub slot_is : (how : Matching) (q : ℕ) (l : Label) {r : Siblings} {h : ℕ} → r ≡ match_rule how → h ≡ label_hash r 0 l → h % q ≡ slot_of how q l
slot_is how q l e f = ap (λ (h : ℕ). h % q) (f ∙ ap (λ (r : Siblings). label_hash r 0 l) e)
