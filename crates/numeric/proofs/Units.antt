-- Counts of units: `finer` by cases, on patterns, and that `coarser` rounds down. Assumes nothing.
use mathlib.Core.Path.{◌≡◌, sym, ap, ◌∙◌, subst}
use mathlib.Core.Bool.{Bool, true, false, not}
use Prim.Native.Nat.{ℕ, zero, suc, ◌+◌, ◌-◌, ◌*◌, ◌/◌, ◌^◌, ◌≤◌, ◌<◌}
use native.Mathlib.Nat.{le_refl, lt_of_le_of_lt, div-le_self, suc-mul, div-lt_iff_lt-mul, div-mul-le_self}
use native.Mathlib.Omega.{arith}
use borrow.Author.Tests.{lt-ltb, le-ltb}
use lib.Dec.{T, ltb, le→leb, lt→ltb, ltb→lt, nltb→le, lit≤, lit<}
use lib.IntN.{ℤ, pos, negsuc, nat_abs, neg_ℤ, suc_ℤ, ◌*ℤ◌, pos-*ℤ-pos, negsuc-*ℤ-pos}
use mir.Syntax.{w64, w128}
use mir.Val.{to_z, of_z, SFits}
use Rattle.std.specs.Result.{OkIff, result_ok}
use Rattle.std.proofs.lemmas.Option.{same_Some, none-some}
use Rattle.std.proofs.lemmas.Int.{to_z-of_z, fits_signed_mul}
use lib.Signed.{mag, le_z, lt_z, ◌≤ℤ◌, ◌<ℤ◌}
use Rattle.numeric.specs.Integers.{signed, pattern}
use Rattle.numeric.specs.Times.{pick_finer, finer, coarser}
use mathlib.Core.Logic.{◌⊎◌, inl, inr}
use Rattle.numeric.proofs.Nearest.{lt_or_ge}
use Rattle.numeric.proofs.TwosComplement.{abs_le, word_signed, pattern-pos, pattern_neg, pattern_lt, signed-pattern, signed-mag}
use Rattle.std.specs.Prelude.{Option, Some, None, Result, Ok, Err}

abbrev count_of : Option ℕ → ℕ
count_of (Some n) = n
count_of None = 0

abbrev is_count : Option ℕ → Bool
is_count (Some n) = true
is_count None = false

count_inj : {m n : ℕ} → Some m ≡ Some n → m ≡ n
count_inj e = ap count_of e

not-count : {n : ℕ} → None ≡ Some n → ⊥
not-count e = subst (λ (t : Bool). T (not t)) (ap is_count e) tt

-- ---- a product, by its sign

neg_of : (x : ℕ) → 0 < x → neg_ℤ (pos x) ≡ negsuc (x - 1)
neg_of x X = ap (λ (y : ℕ). neg_ℤ (pos y)) (let t : x ≡ suc (x - 1) = omega arith in t)

pub neg_times : (n k : ℕ) → 0 < k → negsuc n *ℤ pos k ≡ negsuc (suc n * k - 1)
neg_times n k K = negsuc-*ℤ-pos n k ∙ neg_of (suc n * k) (let t : suc n * k ≡ n * k + k = suc-mul n k in omega arith)

-- ---- a finer unit. y is the product

pub finer-fits : (z y : ℤ) (k : ℕ) → z *ℤ pos k ≡ y → mag y < 2 ^ 63 → Some (pattern 64 y) ≡ finer z k
unfolding finer
finer-fits z y k e l =
    sym (ap (λ (x : ℤ). pick_finer (ltb (mag x) (2 ^ 63)) (Some (pattern 64 x)) None) e
    ∙ ap (λ (t : Bool). pick_finer t (Some (pattern 64 y)) None) (lt-ltb (mag y) (2 ^ 63) l))

pub finer_large : (z y : ℤ) (k : ℕ) → z *ℤ pos k ≡ y → 2 ^ 63 ≤ mag y → None ≡ finer z k
unfolding finer
finer_large z y k e l =
    sym (ap (λ (x : ℤ). pick_finer (ltb (mag x) (2 ^ 63)) (Some (pattern 64 x)) None) e
    ∙ ap (λ (t : Bool). pick_finer t (Some (pattern 64 y)) None) (le-ltb (mag y) (2 ^ 63) l))

word_is-pattern : (y : ℤ) → mag y < 2 ^ 63 → of_z w64 y ≡ pattern 64 y
word_is-pattern (pos n) l = sym (pattern-pos 64 n (omega arith))
word_is-pattern (negsuc n) l = sym (pattern_neg 64 n (omega arith))

-- the product of a count s and a factor k, as the code has it in 128 bits
pub product_is : (b k : ℕ) (s f g : ℤ) → b < 2 ^ 64 → k < 2 ^ 64 → mag s < 2 ^ 63 → s ≡ to_z w64 b → mag f < 2 ^ 127 → f ≡ to_z w64 (of_z w64 s)
    → mag g < 2 ^ 127 → g ≡ pos k → signed 64 b *ℤ pos k ≡ to_z w128 (of_z w128 (to_z w128 (of_z w128 f) *ℤ to_z w128 (of_z w128 g)))
product_is b k s f g B K S i F e G d =
    let a : nat_abs (signed 64 b) ≤ 2 ^ 63 = omega (arith, signed-mag 64 b, abs_le (signed 64 b)) in
    let m : SFits w128 (signed 64 b *ℤ pos k) = fits_signed_mul w128 (signed 64 b) (pos k) (2 ^ 63) (2 ^ 64 - 1) a (omega arith) (lit< tt) in
    let x : f ≡ signed 64 b = e ∙ to_z-of_z w64 s (record { sfits = S }) ∙ i ∙ word_signed b B in
    rw (to_z-of_z w128 f (record { sfits = F }), to_z-of_z w128 g (record { sfits = G }), x, d, to_z-of_z w128 (signed 64 b *ℤ pos k) m)

unfit : {y : ℤ} → ¬ SFits w64 y → 2 ^ 63 ≤ mag y
unfit {y} q = go (lt_or_ge (mag y) (2 ^ 63))
  where
    go : (mag y < 2 ^ 63) ⊎ (2 ^ 63 ≤ mag y) → 2 ^ 63 ≤ mag y
    go (inl l) = absurd (q (record { sfits = l }))
    go (inr l) = l

-- what becomes of a product that is cut to 64 bits
module _ {E : Type 0} (r : Result ℤ E) (z y : ℤ) (k : ℕ) (P : OkIff r (SFits w64 y) y) (Y : z *ℤ pos k ≡ y) where
  pub finer_ok : (n : ℤ) → result_ok r ≡ Some n → Some (of_z w64 (to_z w64 (of_z w64 n))) ≡ finer z k
  finer_ok n e = go r P e
    where
      go : (r : Result ℤ E) → OkIff r (SFits w64 y) y → result_ok r ≡ Some n → Some (of_z w64 (to_z w64 (of_z w64 n))) ≡ finer z k
      go (Ok x) q e = rw (← same_Some x n e, q.1, to_z-of_z w64 y q.0, word_is-pattern y q.0.sfits) (finer-fits z y k Y q.0.sfits)
      go (Err x) q e = absurd (none-some n e)

  pub finer_err : result_ok r ≡ None → None ≡ finer z k
  finer_err e = go r P e
    where
      go : (r : Result ℤ E) → OkIff r (SFits w64 y) y → result_ok r ≡ None → None ≡ finer z k
      go (Ok x) q e = absurd (none-some x (sym e))
      go (Err x) q e = finer_large z y k Y (unfit q)

-- `coarser` is the largest q with q * k ≤ z
pub coarser_le : (z : ℤ) (k : ℕ) → 0 < k → (coarser z k *ℤ pos k) ≤ℤ z
unfolding coarser
coarser_le (pos n) k K = record { le = subst (λ (y : ℤ). T (le_z y (pos n))) (sym (pos-*ℤ-pos (n / k) k)) (le→leb (n / k * k) n (div-mul-le_self n k)) }
coarser_le (negsuc n) k K = record {
  le =
      subst (λ (y : ℤ). T (le_z y (negsuc n))) (sym (neg_times (n / k) k K))
      (le→leb n (suc (n / k) * k - 1) (let t : n < suc (n / k) * k = (div-lt_iff_lt-mul K).0 (le_refl (suc (n / k))) in omega arith));
}

pub lt_coarser : (z : ℤ) (k : ℕ) → 0 < k → z <ℤ (suc_ℤ (coarser z k) *ℤ pos k)
unfolding coarser
lt_coarser (pos n) k K = record {
  lt = subst (λ (y : ℤ). T (lt_z (pos n) y)) (sym (pos-*ℤ-pos (suc (n / k)) k)) (lt→ltb n (suc (n / k) * k) ((div-lt_iff_lt-mul K).0 (le_refl (suc (n / k)))));
}
lt_coarser (negsuc n) k K = go (n / k) (div-mul-le_self n k)
  where
    go : (q : ℕ) → q * k ≤ n → negsuc n <ℤ (suc_ℤ (negsuc q) *ℤ pos k)
    go zero l = record { lt = subst (λ (y : ℤ). T (lt_z (negsuc n) y)) (sym (pos-*ℤ-pos 0 k)) tt }
    go (suc j) l = record {
      lt =
          subst (λ (y : ℤ). T (lt_z (negsuc n) y)) (sym (neg_times j k K))
          (lt→ltb (suc j * k - 1) n (let t : suc j * k ≡ j * k + k = suc-mul j k in omega (arith, K)));
    }

-- ---- what the answers mean

-- a count is the product, and it is one of 64 bits
pub count-is : (z : ℤ) (k n : ℕ) → finer z k ≡ Some n → (mag (z *ℤ pos k) < 2 ^ 63) × (n < 2 ^ 64) × (signed 64 n ≡ z *ℤ pos k)
unfolding finer
count-is z k n e = go (ltb (mag y) (2 ^ 63)) (ltb→lt (mag y) (2 ^ 63)) e
  where
    y : ℤ
    y = z *ℤ pos k

    go : (t : Bool) → (T t → mag y < 2 ^ 63) → pick_finer t (Some (pattern 64 y)) None ≡ Some n → (mag y < 2 ^ 63) × (n < 2 ^ 64) × (signed 64 n ≡ y)
    go true h q =
        let p : pattern 64 y ≡ n = count_inj q in
        (h tt, subst (λ (x : ℕ). x < 2 ^ 64) p (pattern_lt 64 y), ap (signed 64) (sym p) ∙ signed-pattern 64 y (lit≤ tt) (h tt))
    go false h q = absurd (not-count q)

-- there is none just where the product is beyond 64 bits
pub large_is : (z : ℤ) (k : ℕ) → finer z k ≡ None → 2 ^ 63 ≤ mag (z *ℤ pos k)
unfolding finer
large_is z k e = go (ltb (mag y) (2 ^ 63)) (nltb→le (mag y) (2 ^ 63)) e
  where
    y : ℤ
    y = z *ℤ pos k

    go : (t : Bool) → (T (not t) → 2 ^ 63 ≤ mag y) → pick_finer t (Some (pattern 64 y)) None ≡ None → 2 ^ 63 ≤ mag y
    go true h q = absurd (not-count (sym q))
    go false h q = h tt

pub coarser-mag : (z : ℤ) (k : ℕ) → mag (coarser z k) ≤ mag z
unfolding coarser
coarser-mag (pos n) k = div-le_self n k
coarser-mag (negsuc n) k = div-le_self n k

-- what `divide` answers is the pattern of the quotient
pub divided_is : (b k : ℕ) → signed 64 (pattern 64 (coarser (signed 64 b) k)) ≡ coarser (signed 64 b) k
divided_is b k = signed-pattern 64 (coarser (signed 64 b) k) (lit≤ tt) (lt_of_le_of_lt (coarser-mag (signed 64 b) k) (signed-mag 64 b))
