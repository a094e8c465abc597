-- A test that antt computes at each number of an interval, and what it gives at any number there.
use mathlib.Core.Path.{◌≡◌, refl, subst}
use mathlib.Core.Bool.{Bool, true, false, not, ◌&&◌}
use Prim.Native.Nat.{ℕ, zero, suc, ◌+◌, ◌≤◌, ◌<◌, zero-le}
use native.Mathlib.Decide.{ℕ_discrete, dec_le}
use native.Mathlib.Omega.{arith}
use lib.Dec.{T}

-- f passes at each of the n numbers from a
abbrev pub every : (ℕ → Bool) → ℕ → ℕ → Bool
every f a zero = true
every f a (suc n) = f a && every f (suc a) n

pub left : (a b : Bool) → T (a && b) → T a
left true b t = tt
left false b t = t

pub right : (a b : Bool) → T (a && b) → T b
right true b t = t
right false b t = absurd t

pub both : (a b : Bool) → T a → T b → T (a && b)
both true b s t = t
both false b s t = s

pub at : (f : ℕ → Bool) (a n t : ℕ) → T (every f a n) → a ≤ t → t < a + n → T (f t)
at f a zero t e l h = absurd (omega arith)
at f a (suc n) t e l h = go (at f (suc a) n t (right (f a) (every f (suc a) n) e)) (ℕ_discrete a t)
  where
    go : (suc a ≤ t → t < suc a + n → T (f t)) → Dec (a ≡ t) → T (f t)
    go r (yes p) = subst (λ (x : ℕ). T (f x)) p (left (f a) (every f (suc a) n) e)
    go r (no p) = r (omega arith) (omega arith)

is_true : (b : Bool) → T b → true ≡ b
is_true true t = refl
is_true false t = absurd t

is_false : (b : Bool) → T (not b) → false ≡ b
is_false true t = absurd t
is_false false t = refl

-- f is true on an interval, or false
pub holds_on : (f : ℕ → Bool) (a n t : ℕ) → T (every f a n) → a ≤ t → t < a + n → true ≡ f t
holds_on f a n t e l h = is_true (f t) (at f a n t e l h)

pub fails_on : (f : ℕ → Bool) (a n t : ℕ) → T (every (λ x. not (f x)) a n) → a ≤ t → t < a + n → false ≡ f t
fails_on f a n t e l h = is_false (f t) (at (λ x. not (f x)) a n t e l h)

-- f is false below a, and at the n numbers from b
pub fails_off : (f : ℕ → Bool) (a b n t : ℕ) → T (every (λ x. not (f x)) 0 a) → T (every (λ x. not (f x)) b n) → (a ≤ t → b ≤ t) → t < b + n → false ≡ f t
fails_off f a b n t e e' h l = go (dec_le a t)
  where
    go : Dec (a ≤ t) → false ≡ f t
    go (yes p) = fails_on f b n t e' (h p) l
    go (no p) = fails_on f 0 a t e zero-le (omega arith)
