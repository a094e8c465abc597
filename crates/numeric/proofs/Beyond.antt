-- Counts beyond a pair of bounds, and what that means of the count before a change of unit: all changes are monotone,
-- so it is again a pair of bounds. Assumes nothing.
use mathlib.Core.Path.{◌≡◌, sym, ap, ◌∙◌}
use mathlib.Core.Logic.{◌⊎◌, inl, inr}
use mathlib.Core.Bool.{Bool}
use Prim.Native.Nat.{ℕ, suc, ◌+◌, ◌-◌, ◌*◌, ◌/◌, ◌^◌, ◌≤◌, ◌<◌}
use native.Mathlib.Nat.{suc-mul, div-lt_iff_lt-mul, le-div_iff_mul-le}
use native.Mathlib.Omega.{arith}
use borrow.Author.Tests.{lt-ltb, le-ltb, le-leb, lt-leb}
use lib.Dec.{leb, ltb}
use lib.IntN.{ℤ, pos, negsuc, ◌*ℤ◌, pos-*ℤ-pos}
use lib.Signed.{mag}
use Rattle.numeric.specs.Integers.{pattern}
use Rattle.numeric.specs.Times.{pick_finer, finer, coarser}
use Rattle.numeric.proofs.Nearest.{lt_or_ge}
use Rattle.numeric.proofs.Units.{neg_times}
use Rattle.std.specs.Prelude.{Option, Some, None}

-- z is n with n from a on, or -(n + 1) with n from b on
abbrev pub beyond : ℕ → ℕ → ℤ → Bool
beyond a b (pos n) = leb a n
beyond a b (negsuc n) = leb b n

leb-same : (a x c y : ℕ) → (a ≤ x → c ≤ y) → (x < a → y < c) → leb a x ≡ leb c y
leb-same a x c y h k = go (lt_or_ge x a)
  where
    go : (x < a) ⊎ (a ≤ x) → leb a x ≡ leb c y
    go (inl l) = lt-leb a x l ∙ sym (lt-leb c y (k l))
    go (inr l) = le-leb a x l ∙ sym (le-leb c y (h l))

-- a count multiplied by k
pub beyond-times : (z : ℤ) (k a b : ℕ) → 0 < k → beyond a b (z *ℤ pos k) ≡ beyond ((a + (k - 1)) / k) (b / k) z
beyond-times (pos n) k a b K =
    ap (beyond a b) (pos-*ℤ-pos n k)
    ∙ leb-same a (n * k) ((a + (k - 1)) / k) n
    (λ l. (let d : (a + (k - 1)) / k < suc n = (div-lt_iff_lt-mul K).1 (omega (arith, s, K)) in omega arith))
    (λ l. (let d : suc n ≤ (a + (k - 1)) / k = (le-div_iff_mul-le K).1 (omega (arith, s, K)) in d))
  where
    s : suc n * k ≡ n * k + k
    s = suc-mul n k
beyond-times (negsuc n) k a b K =
    ap (beyond a b) (neg_times n k K)
    ∙ leb-same b (suc n * k - 1) (b / k) n
    (λ l. (let d : b / k < suc n = (div-lt_iff_lt-mul K).1 (omega (arith, s, K)) in omega arith))
    (λ l. (let d : suc n ≤ b / k = (le-div_iff_mul-le K).1 (omega (arith, s, K)) in d))
  where
    s : suc n * k ≡ n * k + k
    s = suc-mul n k

quotient : (a n k : ℕ) → 0 < k → leb a (n / k) ≡ leb (a * k) n
quotient a n k K = leb-same a (n / k) (a * k) n (λ l. (le-div_iff_mul-le K).0 l) (λ l. (div-lt_iff_lt-mul K).0 l)

-- a count divided by k
pub beyond-coarser : (z : ℤ) (k a b : ℕ) → 0 < k → beyond a b (coarser z k) ≡ beyond (a * k) (b * k) z
unfolding coarser
beyond-coarser (pos n) k a b K = quotient a n k K
beyond-coarser (negsuc n) k a b K = quotient b n k K

-- too large, by the count before
pub finer-beyond : (z : ℤ) (k : ℕ) → 0 < k → finer z k ≡ pick_finer (beyond ((2 ^ 63 + (k - 1)) / k) (2 ^ 63 / k) z) None (Some (pattern 64 (z *ℤ pos k)))
unfolding finer
finer-beyond z k K = go (z *ℤ pos k) (Some (pattern 64 (z *ℤ pos k))) ∙ ap (λ (t : Bool). pick_finer t None (Some (pattern 64 (z *ℤ pos k))))
    (beyond-times z k (2 ^ 63) (2 ^ 63) K)
  where
    swap : (n : ℕ) (x : Option ℕ) → pick_finer (ltb n (2 ^ 63)) x None ≡ pick_finer (leb (2 ^ 63) n) None x
    swap n x = at (lt_or_ge n (2 ^ 63))
      where
        at : (n < 2 ^ 63) ⊎ (2 ^ 63 ≤ n) → pick_finer (ltb n (2 ^ 63)) x None ≡ pick_finer (leb (2 ^ 63) n) None x
        at (inl l) = ap (λ (t : Bool). pick_finer t x None) (lt-ltb n (2 ^ 63) l) ∙ sym (ap (λ (t : Bool). pick_finer t None x) (lt-leb (2 ^ 63) n l))
        at (inr l) = ap (λ (t : Bool). pick_finer t x None) (le-ltb n (2 ^ 63) l) ∙ sym (ap (λ (t : Bool). pick_finer t None x) (le-leb (2 ^ 63) n l))

    go : (y : ℤ) (x : Option ℕ) → pick_finer (ltb (mag y) (2 ^ 63)) x None ≡ pick_finer (beyond (2 ^ 63) (2 ^ 63) y) None x
    go (pos n) x = swap n x
    go (negsuc n) x = swap n x
