-- What reads under a rule reads the same under no rule.
use Prim.Native.Nat.{ℕ, zero, suc}
use mathlib.Core.Path.{◌≡◌, refl}
use mathlib.Core.List.{List, [], ◌∷◌, ◌++◌}
use mathlib.Core.Bool.{Bool, true, false, not}
use Rattle.layout.specs.Parser.{Res, refuse, ok, next, choose, Parser, test}
use Rattle.layout.specs.Tree.{Label, ColumnType}
use Rattle.layout.specs.Layout.{Head, a_leaf, a_struct, a_list, an_array, label, kind, body, struct_type, list_type, array_type, element_label, columns, type}
use Rattle.layout.specs.Layout.{repeats_any}
use Rattle.layout.specs.declared.edition.Edition.{Edition}
use Rattle.layout.specs.declared.columns.Siblings.{Siblings}
use Rattle.layout.proofs.Ways.{clash}

-- wherever x reads, y reads the same
abbrev pub Within : {A : Type 0} → Res A → Res A → Type 0
Within {A} x y = (a : A) (m : ℕ) → x ≡ ok a m → y ≡ ok a m

pub next-within : {A B : Type 0} (x y : Res A) (j k : A → ℕ → Res B) → Within x y → ((a : A) (m : ℕ) → Within (j a m) (k a m)) → Within (next x j) (next y k)
unfolding next
next-within (refuse n) y j k f g b e h = clash (cc)
next-within (ok a m) y j k f g b e h = rw (f a m refl) (g a m b e h)

pub same : {A : Type 0} (x : Res A) → Within x x
same x a m h = h

pub repeats_free : (l : Label) (fs : List Label) → repeats_any Siblings.Free l fs ≡ false
unfolding repeats_any
repeats_free l [] = refl
repeats_free l (f ∷ fs) = repeats_free l fs

test-within : (b : Bool) (n : ℕ) (s : List ℕ) (at : ℕ) → Within (test b n s at) (test true n s at)
unfolding choose
test-within true n s at a m h = h
test-within false n s at a m h = clash (cc)

test_free : (r : Siblings) (l : Label) (fs : List Label) (s : List ℕ) (at : ℕ)
    → Within (test (not (repeats_any r l fs)) 5 s at) (test (not (repeats_any Siblings.Free l fs)) 5 s at)
test_free r l fs s at = rw (repeats_free l fs) (test-within (not (repeats_any r l fs)) 5 s at)

module _ (v : Edition) (r : Siblings) (s : List ℕ) where
  module _ (p q : Parser ColumnType) (w : (at : ℕ) → Within (p s at) (q s at)) where
    pub columns_free : (n : ℕ) (earlier : List Label) (at : ℕ) → Within (columns v r p n earlier s at) (columns v Siblings.Free q n earlier s at)
    unfolding columns
    columns_free zero earlier at = same _
    columns_free (suc n) earlier at =
        next-within _ _ _ _ (same (label v s at)) (λ l i. next-within _ _ _ _ (w i) (λ t j.
        next-within _ _ _ _ (test_free r l earlier s j) (λ u k. next-within _ _ _ _ (columns_free n (earlier ++ (l ∷ [])) k) (λ cs o. same _))))

    body-free : (k : Head) (at : ℕ) → Within (body v r p k s at) (body v Siblings.Free q k s at)
    unfolding body struct_type list_type array_type
    body-free (a_leaf l) at = same _
    body-free (a_struct n) at = next-within _ _ _ _ (columns_free n [] at) (λ cs i. same _)
    body-free a_list at = next-within _ _ _ _ (same (element_label v s at)) (λ l i. next-within _ _ _ _ (w i) (λ t j. same _))
    body-free (an_array x) at = next-within _ _ _ _ (same (element_label v s at)) (λ l i. next-within _ _ _ _ (w i) (λ t j. same _))

  pub type_free : (d : ℕ) (at : ℕ) → Within (type v r d s at) (type v Siblings.Free d s at)
  unfolding type
  type_free zero at = same _
  type_free (suc d) at = next-within _ _ _ _ (same (kind s at)) (λ k i. body-free (type v r d) (type v Siblings.Free d) (type_free d) k i)
