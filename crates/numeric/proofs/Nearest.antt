-- The one law of rounding: `rounded` is the nearest number of its format, ties to even, for every precision from 2 on
-- and every emax; and no other pattern is. Assumes nothing.
use mathlib.Core.Path.{◌≡◌, refl, sym, ap, ap₂, ◌∙◌, subst}
use mathlib.Core.Logic.{◌≢◌, ◌⊎◌, inl, inr}
use mathlib.Core.Bool.{Bool, true, false, not}
use Prim.Native.Nat.{ℕ, zero, suc, ◌+◌, ◌-◌, ◌*◌, ◌/◌, ◌%◌, ◌^◌, ◌≤◌, ◌<◌, min, compare, Ordering}
use native.Mathlib.Nat.{le_antisymm, lt_irrefl, eq_of_mul-eq-mul_right, le_refl, le_trans, le_of_eq, le_of_lt, lt_of_lt_of_le, eq-or-lt_of_le, mul_comm}
use native.Mathlib.Nat.{mul_assoc, mul-one, mul-pos, suc-mul, mul-le-mul_right, mul-lt-mul_of_pos_right, div-add-mod', mod-lt, pow-suc, pow-succ', add-zero}
use native.Mathlib.Nat.{le-div_iff_mul-le, div-div-eq-div-mul, min-eq_left, min-eq_right}
use native.Mathlib.Decide.{le_ind}
use native.Mathlib.Omega.{arith}
use lib.Dec.{T, is_le, compare_is_eq, eqb, ltb, leb→le, nleb→lt, eqb→eq, eqb_refl, ltb→lt, nltb→le}
use lib.Arith.{lt_of_le-ne, digits_div, digits_mod}
use lib.Pow.{pow_pos, pow-add, pow_mono, shr_lt}
use lib.Ieee.{nearest, size}
use lib.Ieee.Nearest.{closest}
use lib.Ieee.Digits.{size-lt, size_reaches}
use Rattle.numeric.specs.Rounding.{hidden, scale, infinity, fields, magnitude, distance, IsRounded, rounded}

-- ---- a comparison, by cases

pub lt_or_ge : (a b : ℕ) → (a < b) ⊎ (b ≤ a)
lt_or_ge a b = go (ltb a b) (ltb→lt a b) (nltb→le a b)
  where
    go : (t : Bool) → (T t → a < b) → (T (not t) → b ≤ a) → (a < b) ⊎ (b ≤ a)
    go true h k = inl (h tt)
    go false h k = inr (k tt)

abbrev pub Compared : Ordering → ℕ → ℕ → Type 0
Compared Ordering.lt a b = a < b
Compared Ordering.eq a b = a ≡ b
Compared Ordering.gt a b = b < a

pub compared : (a b : ℕ) → Compared (compare a b) a b
compared a b = go (compare a b) (leb→le a b) (nleb→lt a b) (eqb→eq a b) (λ (e : a ≡ b). subst (λ (x : ℕ). T (eqb a x)) e (eqb_refl a))
  where
    go : (o : Ordering) → (T (is_le o) → a ≤ b) → (T (not (is_le o)) → b < a) → (T (compare_is_eq o) → a ≡ b) → (a ≡ b → T (compare_is_eq o)) → Compared o a b
    go Ordering.lt h k e n = lt_of_le-ne (h tt) n
    go Ordering.eq h k e n = e tt
    go Ordering.gt h k e n = k tt

-- ---- the numbers of a format, in the order of their patterns. h is the weight of the exponent's field

abbrev number : ℕ → ℕ → ℕ
number h b = fields h (b / h) (b % h)

pub number_of_lem : (h e t : ℕ) → t < h → number h (e * h + t) ≡ fields h e t
number_of_lem h e t l = ap₂ (fields h) (digits_div e l) (digits_mod e l)

-- a pattern is k times the weight, and q, whose number is q * 2 ^ k
pub number_at : (h k q : ℕ) → 0 < h → q ≤ h + h → (k ≡ 0) ⊎ (h ≤ q) → number h (k * h + q) ≡ q * 2 ^ k
number_at h k q H l w = go (lt_or_ge q h) (eq-or-lt_of_le l) w
  where
    two : (e : ℕ) → k * h + (h + h) ≡ suc (suc k) * h + 0
    two e = let a : suc (suc k) * h ≡ suc k * h + h = suc-mul (suc k) h in let b : suc k * h ≡ k * h + h = suc-mul k h in omega arith

    one : h ≤ q → k * h + q ≡ suc k * h + (q - h)
    one g = let b : suc k * h ≡ k * h + h = suc-mul k h in omega arith

    go : (q < h) ⊎ (h ≤ q) → (q ≡ h + h) ⊎ (q < h + h) → (k ≡ 0) ⊎ (h ≤ q) → number h (k * h + q) ≡ q * 2 ^ k
    go (inl a) b (inl z) = number_of_lem h k q a ∙ ap (λ (x : ℕ). fields h x q) z ∙ sym (ap (λ (x : ℕ). q * 2 ^ x) z ∙ mul-one q)
    go (inl a) b (inr g) = let n : ⊥ = omega arith in absurd n
    go (inr a) (inl e) z =
        ap (λ (x : ℕ). number h (k * h + x)) e ∙ ap (number h) (two 0) ∙ number_of_lem h (suc (suc k)) 0 H
        ∙ ap (λ (x : ℕ). x * 2 ^ suc k) (add-zero h) ∙ ap (λ (x : ℕ). h * x) (pow-succ' 2 k) ∙ sym (mul_assoc h 2 (2 ^ k))
        ∙ ap (λ (x : ℕ). x * 2 ^ k) (let t : h * 2 ≡ h + h = omega arith in t) ∙ ap (λ (x : ℕ). x * 2 ^ k) (sym e)
    go (inr a) (inr b) z =
        let r : q - h < h = omega arith in
        ap (number h) (one a) ∙ number_of_lem h (suc k) (q - h) r ∙ ap (λ (x : ℕ). x * 2 ^ k) (let t : h + (q - h) ≡ q = omega arith in t)

-- the next pattern is the next number, 2 ^ k units further
number-suc : (h b : ℕ) → 0 < h → (k : ℕ) × (number h (suc b) ≡ number h b + 2 ^ k)
number-suc h b H = go (b / h) (b % h) (div-add-mod' b h) (mod-lt b H)
  where
    at : (k q : ℕ) → b ≡ k * h + q → q < h + h → (k ≡ 0) ⊎ (h ≤ q) → number h (suc b) ≡ number h b + 2 ^ k
    at k q e l w =
        let s : suc b ≡ k * h + suc q = omega arith in
        ap (number h) s ∙ number_at h k (suc q) H l (up w) ∙ suc-mul q (2 ^ k) ∙ ap (λ (x : ℕ). x + 2 ^ k)
        (sym (ap (number h) e ∙ number_at h k q H (le_of_lt l) w))
      where
        up : (k ≡ 0) ⊎ (h ≤ q) → (k ≡ 0) ⊎ (h ≤ suc q)
        up (inl z) = inl z
        up (inr g) = inr (omega arith)

    go : (e t : ℕ) → e * h + t ≡ b → t < h → (k : ℕ) × (number h (suc b) ≡ number h b + 2 ^ k)
    go zero t e l = (0, at 0 t (sym e) (omega arith) (inl refl))
    go (suc k) t e l = (k, at k (h + t) (let s : suc k * h ≡ k * h + h = suc-mul k h in omega arith) (omega arith) (inr (omega arith)))

-- a larger pattern is a larger number
pub number_lt : (h a b : ℕ) → 0 < h → a < b → number h a < number h b
number_lt h a b H l = le_ind (λ (m : ℕ). number h a < number h m) (next a) (λ m k i. lt_of_lt_of_le i (le_of_lt (next m))) b l
  where
    next : (m : ℕ) → number h m < number h (suc m)
    next m = let s = number-suc h m H in let e : number h (suc m) ≡ number h m + 2 ^ s.0 = s.1 in let q : 0 < 2 ^ s.0 = pow_pos s.0 in omega arith

pub number_le : (h a b : ℕ) → 0 < h → a ≤ b → number h a ≤ number h b
number_le h a b H l = go (eq-or-lt_of_le l)
  where
    go : (a ≡ b) ⊎ (a < b) → number h a ≤ number h b
    go (inl e) = le_of_eq (ap (number h) e)
    go (inr l) = le_of_lt (number_lt h a b H l)

-- two patterns of one number are one
pub magnitude-only : (p a b : ℕ) → 0 < hidden p → magnitude p a ≡ magnitude p b → a ≡ b
unfolding magnitude
magnitude-only p a b H e = go (lt_or_ge a b) (lt_or_ge b a)
  where
    go : (a < b) ⊎ (b ≤ a) → (b < a) ⊎ (a ≤ b) → a ≡ b
    go (inl l) v = let k : number (hidden p) a < number (hidden p) b = number_lt (hidden p) a b H l in omega (arith, e)
    go (inr l) (inl k) = let m : number (hidden p) b < number (hidden p) a = number_lt (hidden p) b a H k in omega (arith, e)
    go (inr l) (inr k) = le_antisymm k l

-- ---- nearest, among all the patterns of an exponent without bound

pub record Best (h n den r : ℕ) : Type 0 where
  pub nearest : (b : ℕ) → distance n (number h r * den) ≤ distance n (number h b * den)
  pub even : (b : ℕ) → b ≢ r → distance n (number h r * den) ≡ distance n (number h b * den) → r % 2 ≡ 0

-- n lies between the numbers of two neighbours, c and c + 1: x beyond the lower, of y
module _ (h n den c x y : ℕ) (H : 0 < h) (D : 0 < den) (lower : n ≡ number h c * den + x) (upper : number h (suc c) * den ≡ number h c * den + y)
    (Y : x < y) where
  below : (b : ℕ) → b < c → number h b * den < number h c * den
  below b l = mul-lt-mul_of_pos_right (number_lt h b c H l) D

  above : (b : ℕ) → suc c < b → number h (suc c) * den < number h b * den
  above b l = mul-lt-mul_of_pos_right (number_lt h (suc c) b H l) D

  -- where a pattern stands: it is c, c + 1, or beyond one of them
  data Where (b : ℕ) : Type 0 where
    is : b ≡ c → number h b * den ≡ number h c * den → Where b
    next : b ≡ suc c → number h b * den ≡ number h (suc c) * den → Where b
    less : number h b * den < number h c * den → Where b
    more : number h (suc c) * den < number h b * den → Where b

  place : (b : ℕ) → Where b
  place b = go (lt_or_ge b c) (lt_or_ge (suc c) b)
    where
      go : (b < c) ⊎ (c ≤ b) → (suc c < b) ⊎ (b ≤ suc c) → Where b
      go (inl l) v = less (below b l)
      go (inr l) (inl m) = more (above b m)
      go (inr l) (inr m) = mid (eq-or-lt_of_le m)
        where
          mid : (b ≡ suc c) ⊎ (b < suc c) → Where b
          mid (inl e) = next e (ap (λ (z : ℕ). number h z * den) e)
          mid (inr k) = let e : b ≡ c = omega arith in is e (ap (λ (z : ℕ). number h z * den) e)

  best-low : x * 2 < y → Best h n den c
  best-low l = record { nearest = λ b. near (place b); even = λ b ne e. ev (place b) ne e }
    where
      near : {b : ℕ} → Where b → distance n (number h c * den) ≤ distance n (number h b * den)
      near (is e v) = omega arith
      near (next e v) = omega arith
      near (less v) = omega arith
      near (more v) = omega arith

      ev : {b : ℕ} → Where b → b ≢ c → distance n (number h c * den) ≡ distance n (number h b * den) → c % 2 ≡ 0
      ev (is e v) ne d = absurd (ne e)
      ev (next e v) ne d = omega arith
      ev (less v) ne d = omega arith
      ev (more v) ne d = omega arith

  best-high : y < x * 2 → Best h n den (suc c)
  best-high l = record { nearest = λ b. near (place b); even = λ b ne e. ev (place b) ne e }
    where
      near : {b : ℕ} → Where b → distance n (number h (suc c) * den) ≤ distance n (number h b * den)
      near (is e v) = omega arith
      near (next e v) = omega arith
      near (less v) = omega arith
      near (more v) = omega arith

      ev : {b : ℕ} → Where b → b ≢ suc c → distance n (number h (suc c) * den) ≡ distance n (number h b * den) → suc c % 2 ≡ 0
      ev (is e v) ne d = omega arith
      ev (next e v) ne d = absurd (ne e)
      ev (less v) ne d = omega arith
      ev (more v) ne d = omega arith

  best-tie : (r : ℕ) → x * 2 ≡ y → r % 2 ≡ 0 → (r ≡ c) ⊎ (r ≡ suc c) → Best h n den r
  best-tie r t ev (inl e) = record { nearest = λ b. near (place b); even = λ b ne d. ev }
    where
      same : number h r * den ≡ number h c * den
      same = ap (λ (z : ℕ). number h z * den) e

      near : {b : ℕ} → Where b → distance n (number h r * den) ≤ distance n (number h b * den)
      near (is e v) = omega (arith, same)
      near (next e v) = omega (arith, same)
      near (less v) = omega (arith, same)
      near (more v) = omega (arith, same)
  best-tie r t ev (inr e) = record { nearest = λ b. near (place b); even = λ b ne d. ev }
    where
      same : number h r * den ≡ number h (suc c) * den
      same = ap (λ (z : ℕ). number h z * den) e

      near : {b : ℕ} → Where b → distance n (number h r * den) ≤ distance n (number h b * den)
      near (is e v) = omega (arith, same)
      near (next e v) = omega (arith, same)
      near (less v) = omega (arith, same)
      near (more v) = omega (arith, same)

-- ---- k digits dropped

-- q * 2 ^ k * den, by the divisor den * 2 ^ k
turn : (q k den : ℕ) → q * 2 ^ k * den ≡ q * (den * 2 ^ k)
turn q k den = mul_assoc q (2 ^ k) den ∙ ap (λ (x : ℕ). q * x) (mul_comm (2 ^ k) den)

pub parity : (g k q : ℕ) → (k * (g * 2) + (q + q % 2)) % 2 ≡ 0
parity g k q = let e : k * (g * 2) ≡ 2 * (k * g) = sym (mul_assoc k g 2) ∙ mul_comm (k * g) 2 in omega arith

tie_side : (a q : ℕ) → (a + (q + q % 2) ≡ a + q) ⊎ (a + (q + q % 2) ≡ suc (a + q))
tie_side a q = go (lt_or_ge (q % 2) 1)
  where
    go : (q % 2 < 1) ⊎ (1 ≤ q % 2) → (a + (q + q % 2) ≡ a + q) ⊎ (a + (q + q % 2) ≡ suc (a + q))
    go (inl l) = inl (omega arith)
    go (inr l) = inr (omega arith)

-- with a whole part q of at most as many digits as the format keeps, and of all of them where some are dropped
best : (h g n den k : ℕ) → h ≡ g * 2 → 0 < h → 0 < den → n / (den * 2 ^ k) < h + h → (k ≡ 0) ⊎ (h ≤ n / (den * 2 ^ k)) → Best h n den
    (k * h + closest n (den * 2 ^ k))
best h g n den k G H D l w = go (compare (x * 2) y) (compared (x * 2) y)
  where
    y : ℕ
    y = den * 2 ^ k

    q : ℕ
    q = n / y

    x : ℕ
    x = n % y

    c : ℕ
    c = k * h + q

    Y : 0 < y
    Y = mul-pos D (pow_pos k)

    up : (k ≡ 0) ⊎ (h ≤ q) → (k ≡ 0) ⊎ (h ≤ suc q)
    up (inl z) = inl z
    up (inr g) = inr (omega arith)

    next : suc c ≡ k * h + suc q
    next = omega arith

    at : number h c * den ≡ q * y
    at = ap (λ (z : ℕ). z * den) (number_at h k q H (le_of_lt l) w) ∙ turn q k den

    lower : n ≡ number h c * den + x
    lower = sym (ap (λ (z : ℕ). z + x) at ∙ div-add-mod' n y)

    upper : number h (suc c) * den ≡ number h c * den + y
    upper =
        ap (λ (z : ℕ). number h z * den) next ∙ ap (λ (z : ℕ). z * den) (number_at h k (suc q) H l (up w)) ∙ turn (suc q) k den
        ∙ suc-mul q y ∙ ap (λ (z : ℕ). z + y) (sym at)

    go : (o : Ordering) → Compared o (x * 2) y → Best h n den (k * h + nearest q o)
    go Ordering.lt v = best-low h n den c x y H D lower upper (mod-lt n Y) v
    go Ordering.eq v =
        best-tie h n den c x y H D lower upper (mod-lt n Y) (k * h + (q + q % 2)) v
        (subst (λ (z : ℕ). (k * z + (q + q % 2)) % 2 ≡ 0) (sym G) (parity g k q)) (tie_side (k * h) q)
    go Ordering.gt v = subst (λ (z : ℕ). Best h n den z) next (best-high h n den c x y H D lower upper (mod-lt n Y) v)

-- ---- the whole part's digits

split_size : (z p : ℕ) → z ≤ p + (z - p)
split_size z p = omega arith

pub whole_lt : (p n den : ℕ) → n / den / 2 ^ (size (n / den) - p) < 2 ^ p
whole_lt p n den = let k = size (n / den) - p in shr_lt p k (lt_of_lt_of_le (size-lt (n / den)) (pow_mono (split_size (size (n / den)) p)))

pub whole_ge : (p n den : ℕ) → 1 ≤ p → (size (n / den) - p ≡ 0) ⊎ (2 ^ (p - 1) ≤ n / den / 2 ^ (size (n / den) - p))
whole_ge p n den P = go (size (n / den) - p) refl
  where
    go : (k : ℕ) → size (n / den) - p ≡ k → (k ≡ 0) ⊎ (2 ^ (p - 1) ≤ n / den / 2 ^ k)
    go zero e = inl refl
    go (suc k) e =
        inr ((le-div_iff_mul-le (pow_pos (suc k))).1
        (subst (λ (x : ℕ). x ≤ n / den) (pow-add 2 (p - 1) (suc k)) (size_reaches (n / den) (p - 1 + suc k) (omega arith))))

pub hidden-even : (p : ℕ) → 2 ≤ p → hidden p ≡ 2 ^ (p - 2) * 2
hidden-even p P = ap (λ (x : ℕ). 2 ^ x) (let e : p - 1 ≡ suc (p - 2) = omega arith in e) ∙ pow-suc 2 (p - 2)

pub hidden_twice : (p : ℕ) → 2 ≤ p → 2 ^ p ≡ hidden p + hidden p
hidden_twice p P =
    ap (λ (x : ℕ). 2 ^ x) (let e : p ≡ suc (p - 1) = omega arith in e) ∙ pow-suc 2 (p - 1) ∙ (let t : hidden p * 2 ≡ hidden p + hidden p = omega arith in t)

-- `rounded` without its bound
abbrev pub unbounded : ℕ → ℕ → ℕ → ℕ
unbounded p n den = (size (n / den) - p) * hidden p + closest n (den * 2 ^ (size (n / den) - p))

unbounded_best : (p n den : ℕ) → 2 ≤ p → 0 < den → Best (hidden p) n den (unbounded p n den)
unbounded_best p n den P D =
    let k = size (n / den) - p in
    let e : n / den / 2 ^ k ≡ n / (den * 2 ^ k) = div-div-eq-div-mul n den (2 ^ k) in
    best (hidden p) (2 ^ (p - 2)) n den k (hidden-even p P) (pow_pos (p - 1)) D
    (subst (λ (x : ℕ). x < hidden p + hidden p) e (subst (λ (x : ℕ). n / den / 2 ^ k < x) (hidden_twice p P) (whole_lt p n den)))
    (subst (λ (x : ℕ). (k ≡ 0) ⊎ (hidden p ≤ x)) e (whole_ge p n den (omega arith)))

-- ---- the law

pub rounded-is : (p emax num den : ℕ) → 2 ≤ p → 0 < den → IsRounded p emax num den (rounded p emax num den)
unfolding rounded magnitude
rounded-is p emax num den P D = go (lt_or_ge top r)
  where
    n : ℕ
    n = num * 2 ^ scale p emax

    h : ℕ
    h = hidden p

    top : ℕ
    top = infinity p emax

    r : ℕ
    r = unbounded p n den

    B : Best h n den r
    B = unbounded_best p n den P D

    go : (top < r) ⊎ (r ≤ top) → IsRounded p emax num den (min r top)
    go (inr l) = subst (λ (z : ℕ). IsRounded p emax num den z) (sym (min-eq_left l))
        (record { within = l; nearest = λ b m. B.nearest b; even = λ b m ne e. B.even b ne e })
    go (inl l) = subst (λ (z : ℕ). IsRounded p emax num den z) (sym (min-eq_right (le_of_lt l)))
        (record { within = le_refl top; nearest = λ b m. near b m; even = λ b m ne e. ev b m ne e })
      where
        beyond : number h top * den < number h r * den
        beyond = mul-lt-mul_of_pos_right (number_lt h top r (pow_pos (p - 1)) l) D

        past : number h top * den < n
        past = let a : distance n (number h r * den) ≤ distance n (number h top * den) = B.nearest top in omega (arith, beyond)

        near : (b : ℕ) → b ≤ top → distance n (number h top * den) ≤ distance n (number h b * den)
        near b m = let a : number h b * den ≤ number h top * den = mul-le-mul_right den (number_le h b top (pow_pos (p - 1)) m) in omega (arith, past)

        ev : (b : ℕ) → b ≤ top → b ≢ top → distance n (number h top * den) ≡ distance n (number h b * den) → top % 2 ≡ 0
        ev b m ne e =
            let a : number h b * den < number h top * den = mul-lt-mul_of_pos_right (number_lt h b top (pow_pos (p - 1)) (lt_of_le-ne m ne)) D in
            omega (arith, past)

-- Two patterns that are as near are both even, and then one between them is nearer.
only_lt : (p emax num den r s : ℕ) → 0 < den → IsRounded p emax num den r → IsRounded p emax num den s → r < s → ⊥
unfolding magnitude
only_lt p emax num den r s D R S l =
    let h = hidden p in
    let n = num * 2 ^ scale p emax in
    let same : distance n (number h r * den) ≡ distance n (number h s * den) = le_antisymm (R.nearest s S.within) (S.nearest r R.within) in
    let er : r % 2 ≡ 0 = R.even s S.within (λ (e : s ≡ r). lt_irrefl r (subst (λ (x : ℕ). r < x) e l)) same in
    let es : s % 2 ≡ 0 = S.even r R.within (λ (e : r ≡ s). lt_irrefl s (subst (λ (x : ℕ). x < s) e l)) (sym same) in
    let m : suc r < s = omega arith in
    let up : number h r * den < number h (suc r) * den = mul-lt-mul_of_pos_right (number_lt h r (suc r) (pow_pos (p - 1)) (le_refl (suc r))) D in
    let down : number h (suc r) * den < number h s * den = mul-lt-mul_of_pos_right (number_lt h (suc r) s (pow_pos (p - 1)) m) D in
    let near : distance n (number h r * den) ≤ distance n (number h (suc r) * den) = R.nearest (suc r) (le_trans l S.within) in
    omega arith

-- the law's statement has one solution
pub rounded-only : (p emax num den r s : ℕ) → 0 < den → IsRounded p emax num den r → IsRounded p emax num den s → r ≡ s
rounded-only p emax num den r s D R S = go (lt_or_ge r s)
  where
    last : s ≤ r → (s ≡ r) ⊎ (s < r) → r ≡ s
    last k (inl e) = sym e
    last k (inr l) = absurd (only_lt p emax num den s r D S R l)

    go : (r < s) ⊎ (s ≤ r) → r ≡ s
    go (inl l) = absurd (only_lt p emax num den r s D R S l)
    go (inr k) = last k (eq-or-lt_of_le k)

-- what a format holds is rounded to itself
pub rounded_exact : (p emax num den b : ℕ) → 2 ≤ p → 0 < den → b ≤ infinity p emax → magnitude p b * den ≡ num * 2 ^ scale p emax → rounded p emax num den ≡ b
rounded_exact p emax num den b P D l e =
    rounded-only p emax num den (rounded p emax num den) b D (rounded-is p emax num den P D) (record { within = l; nearest = near; even = ev })
  where
    n : ℕ
    n = num * 2 ^ scale p emax

    near : (c : ℕ) → c ≤ infinity p emax → distance n (magnitude p b * den) ≤ distance n (magnitude p c * den)
    near c m = omega (arith, e)

    ev : (c : ℕ) → c ≤ infinity p emax → c ≢ b → distance n (magnitude p b * den) ≡ distance n (magnitude p c * den) → b % 2 ≡ 0
    ev c m ne d = absurd (ne (magnitude-only p c b D' (eq_of_mul-eq-mul_right den D (magnitude p c) (magnitude p b)
        (let t : magnitude p c * den ≡ magnitude p b * den = omega (arith, e) in t))))
      where
        D' : 0 < hidden p
        D' = pow_pos (p - 1)
