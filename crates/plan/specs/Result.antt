-- Document 01, "A refusal is a number and a place": what an operation answers, and what a part of it gives before the
-- place is known.
use Rattle.std.specs.Prelude.{ℕ, Bool, true, false}

-- a value, or the number of a refusal
pub data Result (A : Type 0) : Type 0 where
  gives : A → Result A
  refuses : ℕ → Result A

infixl 10 ◌>>=◌
unfoldable pub ◌>>=◌ : {A B : Type 0} → Result A → (A → Result B) → Result B
gives a >>= f = f a
refuses n >>= f = refuses n

-- go on if the test holds, else refuse with n
unfoldable pub demand : {A : Type 0} → Bool → ℕ → Result A → Result A
demand true n r = r
demand false n r = refuses n

-- a value, or the number and the place of a refusal
pub data Answer (A : Type 0) : Type 0 where
  accepted : A → Answer A
  refused_at : ℕ → ℕ → Answer A

-- a result at a place, and what follows it
unfoldable pub placed : {A B : Type 0} → ℕ → Result A → (A → Answer B) → Answer B
placed k (gives a) f = f a
placed k (refuses n) f = refused_at n k

-- what follows an answer: a refusal stays
unfoldable pub answered : {A B : Type 0} → Answer A → (A → Answer B) → Answer B
answered (accepted a) f = f a
answered (refused_at n k) f = refused_at n k
