-- What reading an edition and a whole layout returns on each way.
use Prim.Native.Nat.{ℕ, zero, suc, ◌≤◌, ◌<◌}
use mathlib.Core.Path.{◌≡◌, refl, sym, ap, subst}
use mathlib.Core.List.{List, [], ◌∷◌, ◌++◌}
use mathlib.Core.Bool.{false, not, and-false}
use native.Mathlib.Omega.{arith}
use lib.ListN.{length, take, length-take}
use lib.Dec.{eqb}
use borrow.Author.Tests.{le-leb, lt-leb, eq-eqb, ne_eqb}
use Rattle.layout.specs.Parser.{Res, refuse, ok, next, choose, test, Parser, u16}
use Rattle.layout.specs.Tree.{Label, ColumnType, cnil, ccons, count_columns}
use Rattle.layout.specs.Bytes.{same_bytes}
use Rattle.layout.specs.Layout.{label, columns, type, repeats_any, mark, edition, sized, ended, top_rule, inner_rule, counted, layout_from, layout}
use Rattle.layout.specs.code.Answers.{moved_of, short_res, edition_res, layout_of}
use Rattle.layout.specs.declared.cursor.Cursor.{Cursor}
use Rattle.layout.specs.declared.cursor.Moved.{Moved}
use Rattle.layout.specs.declared.cursor.Short.{Short}
use Rattle.layout.specs.declared.edition.Edition.{Edition}
use Rattle.layout.specs.declared.edition.EditionRead.{EditionRead}
use Rattle.layout.specs.declared.read.LayoutRead.{LayoutRead}
use Rattle.layout.specs.declared.columns.Siblings.{Siblings}
use Rattle.layout.proofs.Ways.{clash, moved_to, moved_refused}

shorter : (a b : List ℕ) → length a < length b → same_bytes a b ≡ false
unfolding same_bytes
shorter [] [] h = absurd (omega arith)
shorter [] (y ∷ ys) h = refl
shorter (x ∷ xs) [] h = refl
shorter (x ∷ xs) (y ∷ ys) h = rw (shorter xs ys (omega arith)) (and-false (eqb x y))

pub mark-short : (s : List ℕ) → length s < 5 → refuse 1 ≡ edition s 0
unfolding edition choose
mark-short s h =
    let k : length (take 5 s) < 5 = simp length-take (omega arith) in
    rw (shorter (take 5 s) (mark 1) k, shorter (take 5 s) (mark 2) k, shorter (take 5 s) (mark 3) k)

-- as many columns are read as were asked for
abbrev Gives : {A : Type 0} → Res A → (A → Type 0) → Type 0
Gives {A} x P = (a : A) (m : ℕ) → x ≡ ok a m → P a

next-gives : {A B : Type 0} (x : Res A) (k : A → ℕ → Res B) (P : B → Type 0) → ((a : A) (m : ℕ) → Gives (k a m) P) → Gives (next x k) P
unfolding next
next-gives (refuse n) k P h b e j = clash (cc)
next-gives (ok a m) k P h b e j = h a m b e j

next-after : {A B : Type 0} (x : Res A) (f : A → B) (Q : A → Type 0) (P : B → Type 0) → Gives x Q → ((a : A) → Q a → P (f a)) → Gives
    (next x (λ a m. ok (f a) m)) P
unfolding next
next-after (refuse n) f Q P h g b e j = clash (cc)
next-after (ok a m) f Q P h g b e j = let q : f a ≡ b = cc in subst P q (g a (h a m refl))

pub columns-count : (v : Edition) (r : Siblings) (p : Parser ColumnType) (n : ℕ) (ms : List Label) (s : List ℕ) (at : ℕ)
    → Gives (columns v r p n ms s at) (λ cs. count_columns cs ≡ n)
unfolding columns count_columns
columns-count v r p zero ms s at = λ cs m h. let e : cs ≡ cnil = cc in rw e
columns-count v r p (suc n) ms s at =
    next-gives (label v s at) _ _ (λ l i. next-gives (p s i) _ _ (λ t j. next-gives (test (not (repeats_any r l ms)) 5 s j) _ _ (λ u k.
    next-after (columns v r p n (ms ++ (l ∷ [])) s k) (ccons l t) (λ ds. count_columns ds ≡ n) (λ cs. count_columns cs ≡ suc n)
    (columns-count v r p n (ms ++ (l ∷ [])) s k) (λ ds q. rw q))))

-- rules for `search`
module _ (s : List ℕ) where
  pub layout_big : 16384 < length s → LayoutRead.Refused 4 ≡ layout_of (layout s)
  unfolding layout layout_from sized layout_of next choose
  layout_big h = rw (lt-leb (length s) 16384 h)

  pub layout_unmarked : {p : EditionRead} {k : ℕ} → length s ≤ 16384 → edition_res p ≡ edition s 0 → p ≡ EditionRead.Refused k
      → LayoutRead.Refused k ≡ layout_of (layout s)
  unfolding layout layout_from sized layout_of next choose
  layout_unmarked small e f = rw (le-leb (length s) 16384 small, ← e, f)

  pub layout_marked : {p : EditionRead} {v : Edition} {r : LayoutRead} → length s ≤ 16384 → edition_res p ≡ edition s 0 → p ≡ EditionRead.Is v
      → r ≡ layout_of (counted v s 5) → r ≡ layout_of (layout s)
  unfolding layout layout_from sized next choose
  layout_marked small e f g = rw (le-leb (length s) 16384 small, ← e, f) g

  module _ (v : Edition) {q : Short} (g : short_res q ≡ u16 s 5) where
    pub layout_uncounted : {k : ℕ} → q ≡ Short.Refused k → LayoutRead.Refused k ≡ layout_of (counted v s 5)
    unfolding counted layout_of next
    layout_uncounted h = rw (← g, h)

    module _ {n : ℕ} {c : Cursor} {top inner : Siblings} {o : Moved} (h : q ≡ Short.Is n c) (x : top ≡ top_rule v) (y : inner ≡ inner_rule v)
        (i : o ≡ moved_of (columns v top (type v inner 16) n [] s c.at)) where
      same-columns : o ≡ moved_of (columns v (top_rule v) (type v (inner_rule v) 16) n [] s c.at)
      same-columns = rw (x, y) at i

      pub layout-broken : {k : ℕ} → o ≡ Moved.Refused k → LayoutRead.Refused k ≡ layout_of (counted v s 5)
      unfolding counted layout_of next
      layout-broken j = rw (← g, h, moved_refused (columns v (top_rule v) (type v (inner_rule v) 16) n [] s c.at) same-columns j)

      module _ {d : Cursor} (j : o ≡ Moved.To d) where
        pub layout-longer : (d.at ≡ length s → ⊥) → LayoutRead.Refused 6 ≡ layout_of (counted v s 5)
        unfolding counted ended layout_of next choose
        layout-longer k =
            rw (← g, h, (moved_to (columns v (top_rule v) (type v (inner_rule v) 16) n [] s c.at) same-columns j).1, ne_eqb d.at (length s) k)

        pub layout-read : d.at ≡ length s → LayoutRead.Read v n (record { at = 7 }) ≡ layout_of (counted v s 5)
        unfolding counted ended layout_of next choose
        layout-read k =
            let t = moved_to (columns v (top_rule v) (type v (inner_rule v) 16) n [] s c.at) same-columns j in
            let l : count_columns t.0 ≡ n = columns-count v (top_rule v) (type v (inner_rule v) 16) n [] s c.at t.0 d.at t.1 in
            rw (← g, h, t.1, eq-eqb d.at (length s) k) (ap (λ (m : ℕ). LayoutRead.Read v m (record { at = 7 })) (sym l))
