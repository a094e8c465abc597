-- Part of an arena that was lent and came back: what the borrower says of it, and what the owner keeps. Assumes
-- nothing.
use Prim.Native.Nat.{ℕ, ◌≤◌, ◌<◌}
use mathlib.Core.Path.{◌≡◌, refl, sym, ap, ◌∙◌, subst}
use mathlib.Core.List.{List, [], ◌∷◌, ◌++◌}
use native.Mathlib.Omega.{arith}
use lib.ListN.{length, take, length-append}
use lib.Seq.{length-take-le}
use Rattle.layout.specs.Bytes.{Bytes}
use Rattle.layout.specs.declared.edition.Edition.{Edition}
use Rattle.layout.specs.declared.matching.Matching.{Matching}
use Rattle.labels.specs.code.LabelTable.{Table}

all_front : (ys zs : List ℕ) → take (length ys) (ys ++ zs) ≡ ys
all_front [] zs = refl
all_front (y ∷ ys) zs = ap (λ (r : List ℕ). y ∷ r) (all_front ys zs)

-- the front was lent
pub front_is : {k : ℕ} (ys zs : List ℕ) → length ys ≡ k → take k (ys ++ zs) ≡ ys
front_is ys zs e = ap (λ (i : ℕ). take i (ys ++ zs)) (sym e) ∙ all_front ys zs

pub front_long : {k : ℕ} (ys zs : List ℕ) → length ys ≡ k → k ≤ length (ys ++ zs)
front_long ys zs e = let z = length-append ys zs in omega arith

-- a table that stands at the front of an arena, after what is behind it was lent
pub table_kept : {v : Edition} {how : Matching} {d : ℕ} {s : Bytes} {n from k : ℕ} (xs ys : List ℕ) → k ≤ length xs → take k ys ≡ take k xs →
    (0 < k → Table v how d s n from (take k xs))
    → 0 < length (take k ys) → Table v how d s n from (take k ys)
table_kept {v} {how} {d} {s} {n} {from} {k} xs ys le e T lt =
    let z : length (take k ys) ≡ k = ap (λ (l : List ℕ). length l) e ∙ length-take-le k xs le in
    subst (λ (l : List ℕ). Table v how d s n from l) (sym e) (T (omega arith))
