-- The two tables that the general way is lent: what looks at one of them alone. Assumes nothing.
use Prim.Native.Nat.{ℕ, ◌+◌, ◌-◌, ◌≤◌}
use mathlib.Core.Path.{◌≡◌, sym, ap, ◌∙◌, subst}
use mathlib.Core.List.{List, ◌++◌}
use native.Mathlib.Omega.{arith}
use lib.ListN.{length, take, drop, get_or, length-drop, length-append}
use lib.Seq.{take_all, take_at, take-append-add, take-append-le, drop_at, length-take-le, get_or-take}
use Rattle.layout.specs.Bytes.{Bytes}
use Rattle.layout.specs.declared.edition.Edition.{Edition}
use Rattle.plan.proofs.Skipping.{skips-same}
use Rattle.plan.specs.code.Skips.{Skips}
use Rattle.index.specs.code.Indexed.{stride_of, Indexed}
use Rattle.checker.specs.code.Tables.{Tables}

-- the index, as a part of the slice
pub table-columns : {incoming : Bytes} {v : Edition} {n : ℕ} {plan : Bytes} {t : List ℕ} → Tables incoming v n plan t
    → Indexed v incoming n 7 (stride_of n) (take (length t - 4608) (drop 4608 t))
table-columns {incoming} {v} {n} {plan} {t} T =
    subst (λ (xs : List ℕ). Indexed v incoming n 7 (stride_of n) xs)
    (sym (take_all (length t - 4608) (drop 4608 t) (let e = length-drop 4608 t in omega arith))) T.columns

-- by the stride that was worked out
pub by_stride : {v : Edition} {s : Bytes} {n at stride : ℕ} {index : List ℕ} → stride ≡ stride_of n → Indexed v s n at (stride_of n) index
    → Indexed v s n at stride index
by_stride {v} {s} {n} {at} {index = index} e I = subst (λ (k : ℕ). Indexed v s n at k index) (sym e) I

-- where selectors end stands in the first 4,608 entries
pub skips_as : {s : Bytes} {t w : List ℕ} → take 4608 t ≡ take 4608 w → Skips s t → Skips s w
skips_as {s} {t} {w} e T = skips-same T (λ k l. sym (get_or-take 4608 t k 0 l) ∙ ap (λ (xs : List ℕ). get_or xs k 0) e ∙ get_or-take 4608 w k 0 l)

-- both tables, once the index was written behind where selectors end and the slice is cut at its end
module _ (f ys : List ℕ) (len : ℕ) (F : length f ≡ 4864) (l : len ≤ length ys) where
  abbrev rest : List ℕ
  rest = drop 256 (drop 4608 f)

  front : length (take 4608 f) ≡ 4608
  front = length-take-le 4608 f (omega arith)

  pub tables_room : 4608 + len ≤ length (take 4608 f ++ (ys ++ rest))
  tables_room = let a = length-append (take 4608 f) (ys ++ rest) in let b = length-append ys rest in let e = front in omega arith

  cut : take (4608 + len) (take 4608 f ++ (ys ++ rest)) ≡ take 4608 f ++ take len ys
  cut =
      ap (λ (k : ℕ). take (k + len) (take 4608 f ++ (ys ++ rest))) (sym front)
      ∙ take-append-add (take 4608 f) (ys ++ rest) len
      ∙ ap (λ (xs : List ℕ). take 4608 f ++ xs) (take-append-le len ys rest l)

  pub tables_made : {incoming : Bytes} {v : Edition} {n : ℕ} {plan : Bytes} {stride : ℕ} → Skips plan f → stride ≡ stride_of n
      → Indexed v incoming n 7 stride (take len ys) → Tables incoming v n plan (take (4608 + len) (take 4608 f ++ (ys ++ rest)))
  tables_made {incoming} {v} {n} {plan} {stride} C e I =
      let t : List ℕ = take 4608 f ++ take len ys in
      subst (λ (xs : List ℕ). Tables incoming v n plan xs) (sym cut) (record {
        room = let a = length-append (take 4608 f) (take len ys) in let g = front in omega arith;
        skips = skips_as {t = f} {w = t} (sym (take_at (take 4608 f) (take len ys) 4608 front)) C;
        columns = subst (λ (xs : List ℕ). Indexed v incoming n 7 (stride_of n) xs) (sym (drop_at (take 4608 f) (take len ys) 4608 front))
            (subst (λ (k : ℕ). Indexed v incoming n 7 k (take len ys)) e I);
      })
