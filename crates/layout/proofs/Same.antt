-- Comparing two lists of bytes from the front.
use Prim.Native.Nat.{ℕ, ◌+◌, ◌-◌, ◌≤◌, ◌<◌}
use native.Mathlib.Nat.{add-sub_cancel_left}
use mathlib.Core.Path.{◌≡◌, refl, ◌∙◌}
use mathlib.Core.List.{List, []}
use mathlib.Core.Bool.{Bool, true, false}
use native.Mathlib.Omega.{arith}
use native.Mathlib.Numerals.{add-one}
use lib.ListN.{length, get_or, take, drop, drop_of_length-le}
use lib.Seq.{drop-cons}
use lib.Dec.{leb, eqb}
use borrow.Author.Tests.{leb-true, leb-false, eq-eqb, ne_eqb}
use Rattle.layout.specs.Bytes.{same_bytes}
use Rattle.layout.specs.Layout.{same_label}
use Rattle.layout.specs.code.Answers.{label_at}
use Rattle.layout.specs.declared.columns.Label.{Label as LabelSpan}
use Rattle.layout.specs.declared.columns.Siblings.{Siblings}

-- the first i bytes are the same
pub record Matched (a b : List ℕ) (i : ℕ) : Type 0 where
  pub in_a : i ≤ length a
  pub in_b : i ≤ length b
  pub rest : same_bytes a b ≡ same_bytes (drop i a) (drop i b)

module _ (a b : List ℕ) where
  pub matched-none : Matched a b 0
  matched-none = record { in_a = omega arith; in_b = omega arith; rest = refl }

  module _ (i : ℕ) (m : Matched a b i) where
    pub matched-more : i < length a → i < length b → get_or a i 0 ≡ get_or b i 0 → Matched a b (i + 1)
    unfolding same_bytes
    matched-more h k e = record {
      in_a = omega arith;
      in_b = omega arith;
      rest = m.rest ∙ rw (add-one, drop-cons a i 0 h, drop-cons b i 0 k, eq-eqb _ _ e);
    }

    pub matched-differs : i < length a → i < length b → (get_or a i 0 ≡ get_or b i 0 → ⊥) → false ≡ same_bytes a b
    unfolding same_bytes
    matched-differs h k e = rw (m.rest, drop-cons a i 0 h, drop-cons b i 0 k, ne_eqb _ _ e)

    pub matched-short : i < length a → length b ≤ i → false ≡ same_bytes a b
    unfolding same_bytes
    matched-short h k = rw (m.rest, drop-cons a i 0 h, drop_of_length-le b k)

    pub matched-all : length a ≤ i → leb (length b) i ≡ same_bytes a b
    unfolding same_bytes
    matched-all h = rw (m.rest, drop_of_length-le a h) (go (leb (length b) i) refl)
      where
        go : (t : Bool) → leb (length b) i ≡ t → t ≡ same_bytes [] (drop i b)
        go true q = rw (drop_of_length-le b (leb-true _ _ q))
        go false q = rw (drop-cons b i 0 (leb-false _ _ q))

module _ (s t : List ℕ) (l m : LabelSpan) {r : Siblings} where
  pub same_names : {b : Bool} → r ≡ Siblings.Names
      → b ≡ same_bytes (take (l.name.start + l.name.len - l.name.start) (drop l.name.start s))
      (take (m.name.start + m.name.len - m.name.start) (drop m.name.start t))
      → b ≡ same_label r (label_at s l) (label_at t m)
  same_names h e = rw h (rw (add-sub_cancel_left l.name.start l.name.len, add-sub_cancel_left m.name.start m.name.len) at e)

  pub same_ids : r ≡ Siblings.Ids → eqb l.id.0 m.id.0 ≡ same_label r (label_at s l) (label_at t m)
  same_ids h = rw h
