-- A table of nulls: with nothing in it, with a null or a constant more. Assumes nothing.
use Prim.Native.Nat.{ℕ, zero, suc, ◌+◌, ◌*◌, ◌/◌, ◌%◌, ◌^◌, ◌<◌, ◌≤◌, max}
use mathlib.Core.Path.{◌≡◌, refl, sym, ap, ◌∙◌, subst}
use mathlib.Core.Bool.{Bool, true, false}
use mathlib.Core.List.{List}
use native.Mathlib.Decide.{ℕ_discrete}
use native.Mathlib.Omega.{arith}
use lib.Arith.{digits_div, digits_mod}
use lib.Bits.{bit_or, or_step, or_shr}
use lib.Dec.{eqb}
use lib.ListN.{length, get_or, set, replicate, get_or-eq_default}
use lib.Pow.{pow_pos}
use lib.Seq.{get_or-set_same, get_or-set_other}
use borrow.Author.Tests.{eqb-false, eqb-true}
use Rattle.layout.specs.Bytes.{Bytes}
use Rattle.layout.specs.Limits.{longest_plan}
use Rattle.layout.proofs.Ways.{clash}
use Rattle.values.specs.Value.{Value}
use Rattle.overflow.specs.code.Seek.{RawIn}
use Rattle.nullness.specs.code.Nulls.{IsNull, KnownAt, NullsOf, Nulls, Grown, NullKept}

-- ---- bits

or_odd : (x y : ℕ) → bit_or x y % 2 ≡ max (x % 2) (y % 2)
or_odd x y = ap (λ (n : ℕ). n % 2) (or_step x y) ∙ digits_mod (bit_or (x / 2) (y / 2)) (let l : max (x % 2) (y % 2) < 2 = omega arith in l)

max-left : (x y : ℕ) → x % 2 ≡ 1 → max (x % 2) (y % 2) ≡ 1
max-left x y e = omega arith

max-right : (x y : ℕ) → y % 2 ≡ 1 → max (x % 2) (y % 2) ≡ 1
max-right x y e = omega arith

bit_kept : (w b j : ℕ) → w / 2 ^ j % 2 ≡ 1 → bit_or w b / 2 ^ j % 2 ≡ 1
bit_kept w b j e = ap (λ (n : ℕ). n % 2) (or_shr w b j) ∙ or_odd (w / 2 ^ j) (b / 2 ^ j) ∙ max-left (w / 2 ^ j) (b / 2 ^ j) e

bit-set : (w j : ℕ) → bit_or w (2 ^ j) / 2 ^ j % 2 ≡ 1
bit-set w j = ap (λ (n : ℕ). n % 2) (or_shr w (2 ^ j) j) ∙ or_odd (w / 2 ^ j) (2 ^ j / 2 ^ j) ∙ max-right (w / 2 ^ j) (2 ^ j / 2 ^ j)
    (ap (λ (n : ℕ). n % 2) (whole (2 ^ j) (pow_pos j)))
  where
    whole : (m : ℕ) → 0 < m → m / m ≡ 1
    whole m h = ap (λ (n : ℕ). n / m) (let e : m ≡ 1 * m + 0 = omega arith in e) ∙ digits_div 1 h

pub bit_test : (l : List ℕ) (at : ℕ) {r : Bool} → at < longest_plan → r ≡ eqb (get_or l (at / 64) 0 / 2 ^ (at % 64) % 2) 1 → r ≡ false → IsNull l at → ⊥
bit_test l at h f g N = eqb-false (get_or l (at / 64) 0 / 2 ^ (at % 64) % 2) 1 (sym f ∙ g) (N (omega (arith, h)))

-- ---- a null more

pub grown-same : (l : List ℕ) → Grown l l
grown-same l = record { keeps = λ o e. e; known = λ t e. e }

pub grown_then : {l m n : List ℕ} → Grown l m → Grown m n → Grown l n
grown_then G H = record { keeps = λ o e. H.keeps o (G.keeps o e); known = λ t e. G.known t (H.known t e) }

pub null_lost : {l : List ℕ} {at : ℕ} → NullKept l at false l
null_lost {l} = record { grown = grown-same l; kept = λ e. clash (cc) }

pub null-kept : {l : List ℕ} {at b : ℕ} → at < longest_plan → at / 64 < length l → b ≡ 2 ^ (at % 64) → NullKept l at true
    (set l (at / 64) (bit_or (get_or l (at / 64) 0) b))
null-kept {l} {at} {b} h lt e = record {
  grown = record { keeps = λ o N q. keeps o (N q) (ℕ_discrete (o / 64) (at / 64)); known = λ t k. known t k };
  kept = λ r q. here;
}
  where
    m : List ℕ
    m = set l (at / 64) (bit_or (get_or l (at / 64) 0) b)

    word : get_or m (at / 64) 0 ≡ bit_or (get_or l (at / 64) 0) b
    word = get_or-set_same l (at / 64) (bit_or (get_or l (at / 64) 0) b) 0 lt

    here : get_or m (at / 64) 0 / 2 ^ (at % 64) % 2 ≡ 1
    here = ap (λ (n : ℕ). n / 2 ^ (at % 64) % 2) (word ∙ ap (bit_or (get_or l (at / 64) 0)) e) ∙ bit-set (get_or l (at / 64) 0) (at % 64)

    keeps : (o : ℕ) → get_or l (o / 64) 0 / 2 ^ (o % 64) % 2 ≡ 1 → Dec (o / 64 ≡ at / 64) → get_or m (o / 64) 0 / 2 ^ (o % 64) % 2 ≡ 1
    keeps o N (yes y) =
        let p : get_or m (o / 64) 0 ≡ bit_or (get_or l (o / 64) 0) b = ap (λ (i : ℕ). get_or m i 0) y ∙ word ∙ ap (λ (i : ℕ). bit_or (get_or l i 0) b) (sym y) in
        ap (λ (n : ℕ). n / 2 ^ (o % 64) % 2) p ∙ bit_kept (get_or l (o / 64) 0) b (o % 64) N
    keeps o N (no y) = ap (λ (n : ℕ). n / 2 ^ (o % 64) % 2) (get_or-set_other l (at / 64) (o / 64) (bit_or (get_or l (at / 64) 0) b) 0 y) ∙ N

    known : (t : ℕ) → KnownAt m t → KnownAt l t
    known t k = sym (get_or-set_other l (at / 64) (1024 + t / 1024) (bit_or (get_or l (at / 64) 0) b) 0 (λ q. omega (arith, q, h))) ∙ k

-- ---- what is true of a table, with more nulls

pub nulls_of_more : {s : Bytes} {l m : List ℕ} {t : ℕ} {x : Value} → ((o : ℕ) → IsNull l o → IsNull m o) → NullsOf s l t x → NullsOf s m t x
nulls_of_more k N = record { clean = λ p o I u. N.clean p o I (λ e. u (k o e)) }

pub nulls_grown : {s : Bytes} {l m : List ℕ} → Grown l m → Nulls s l → Nulls s m
nulls_grown G N = record { holds = λ t e X. nulls_of_more G.keeps (N.holds t (G.known t e) X) }

-- ---- a constant more

pub known_is : (l : List ℕ) (at : ℕ) → eqb (get_or l (1024 + at / 1024) 0) (at + 1) ≡ true → KnownAt l at
known_is l at e = eqb-true (get_or l (1024 + at / 1024) 0) (at + 1) e

pub nulls_constant : {s : Bytes} {l : List ℕ} {at : ℕ} → Nulls s l → 1024 + at / 1024 < length l → ((X : RawIn s at) → NullsOf s l at X.value.tree)
    → Nulls s (set l (1024 + at / 1024) (at + 1))
nulls_constant {s} {l} {at} N h C = record { holds = λ t e X. nulls_of_more keeps (holds t e X (ℕ_discrete (1024 + t / 1024) (1024 + at / 1024))) }
  where
    m : List ℕ
    m = set l (1024 + at / 1024) (at + 1)

    keeps : (o : ℕ) → IsNull l o → IsNull m o
    keeps o n q = ap (λ (n : ℕ). n / 2 ^ (o % 64) % 2) (get_or-set_other l (1024 + at / 1024) (o / 64) (at + 1) 0 (λ z. omega (arith, z, q))) ∙ n q

    holds : (t : ℕ) → KnownAt m t → (X : RawIn s t) → Dec (1024 + t / 1024 ≡ 1024 + at / 1024) → NullsOf s l t X.value.tree
    holds t e X (yes y) =
        let z : t + 1 ≡ at + 1 = sym e ∙ ap (λ (i : ℕ). get_or m i 0) y ∙ get_or-set_same l (1024 + at / 1024) (at + 1) 0 h in
        subst (λ (j : ℕ). (Y : RawIn s j) → NullsOf s l j Y.value.tree) (let q : at ≡ t = omega (arith, z) in q) C X
    holds t e X (no y) = N.holds t (sym (get_or-set_other l (1024 + at / 1024) (1024 + t / 1024) (at + 1) 0 y) ∙ e) X

-- ---- nothing in it

zero-entry : (n i : ℕ) → ◌≡◌ {A = ℕ} (get_or (replicate n 0) i 0) 0
zero-entry zero i = refl
zero-entry (suc n) zero = refl
zero-entry (suc n) (suc i) = zero-entry n i

pub nulls_zeros : {s : Bytes} (n : ℕ) → Nulls s (replicate n 0)
nulls_zeros n = record { holds = λ t e X. absurd (let z : 0 ≡ t + 1 = sym (zero-entry n (1024 + t / 1024)) ∙ e in omega (arith, z)) }

pub nulls_none : {s : Bytes} {l : List ℕ} → length l ≡ 0 → Nulls s l
nulls_none {l = l} h = record {
  holds = λ t e X. absurd (let z : 0 ≡ t + 1 = sym (get_or-eq_default l 0
      (let k : length l ≤ 1024 + t / 1024 = omega arith in k)) ∙ e in omega (arith, z));
}
