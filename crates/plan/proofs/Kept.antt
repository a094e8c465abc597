-- "Whatever x gives, y gives": one law for each way in which results are put together. Assumes nothing.
use Prim.Native.Nat.{ℕ}
use mathlib.Core.Path.{◌≡◌, refl}
use mathlib.Core.Bool.{Bool, true, false}
use Rattle.layout.specs.Parser.{Res, refuse, ok, choose}
use Rattle.layout.proofs.Ways.{clash}
use Rattle.rules.specs.Allows.{◌⇒◌}
use Rattle.plan.specs.Result.{Result, gives, refuses, ◌>>=◌, demand, Answer, accepted, refused_at, placed, answered}
use Rattle.plan.specs.Calls.{read_at_of}
use Rattle.plan.proofs.Results.{never_refused}

pub record Kept {A : Type 0} (x y : Result A) : Type 0 where
  pub kept : (a : A) → x ≡ gives a → y ≡ gives a

pub record KeptAnswer {A : Type 0} (x y : Answer A) : Type 0 where
  pub kept : (a : A) → x ≡ accepted a → y ≡ accepted a

-- ---- results

pub same : {A : Type 0} (x : Result A) → Kept x x
same x = record { kept = λ a e. e }

pub refusing : {A : Type 0} (n : ℕ) (y : Result A) → Kept (refuses n) y
refusing n y = record { kept = λ a e. never_refused e refl }

pub by_bind : {A B : Type 0} {x y : Result A} (f g : A → Result B) → Kept x y → ((a : A) → Kept (f a) (g a))
    → Kept (x >>= f) (y >>= g)
unfolding ◌>>=◌
by_bind {x = gives a} f g k h = rw (k.kept a refl) (h a)
by_bind {x = refuses n} {y = y} f g k h = refusing n (y >>= g)

-- a test that the second passes where the first does
pub by_test : {A : Type 0} (a b : Bool) (n : ℕ) {x y : Result A} → (a ⇒ b) → Kept x y → Kept (demand a n x) (demand b n y)
unfolding demand
by_test true b n h k = rw (h refl) k
by_test false b n {y = y} h k = refusing n (demand b n y)

-- a test that is the same for both
pub by_demand : {A : Type 0} (b : Bool) (n : ℕ) {x y : Result A} → Kept x y → Kept (demand b n x) (demand b n y)
by_demand b n k = by_test b b n (λ e. e) k

pub by_choice : {A : Type 0} (b : Bool) {x y x' y' : Result A} → Kept x y → Kept x' y' → Kept (choose b x x') (choose b y y')
unfolding choose
by_choice true k k' = k
by_choice false k k' = k'

-- ---- answers

pub same_answer : {A : Type 0} (x : Answer A) → KeptAnswer x x
same_answer x = record { kept = λ a e. e }

-- a test that the second does not make
pub passing : (x : Answer (Unit {0})) → KeptAnswer x (accepted tt)
passing x = record { kept = λ a e. refl }

pub refusing_answer : {A : Type 0} (n k : ℕ) (y : Answer A) → KeptAnswer (refused_at n k) y
refusing_answer n k y = record { kept = λ a e. clash (cc) }

pub by_place : {A B : Type 0} (i : ℕ) {x y : Result A} (f g : A → Answer B) → Kept x y → ((a : A) → KeptAnswer (f a) (g a))
    → KeptAnswer (placed i x f) (placed i y g)
unfolding placed
by_place i {x = gives a} f g k h = rw (k.kept a refl) (h a)
by_place i {x = refuses n} {y = y} f g k h = refusing_answer n i (placed i y g)

pub by_answer : {A B : Type 0} {x y : Answer A} (f g : A → Answer B) → KeptAnswer x y → ((a : A) → KeptAnswer (f a) (g a))
    → KeptAnswer (answered x f) (answered y g)
unfolding answered
by_answer {x = accepted a} f g k h = rw (k.kept a refl) (h a)
by_answer {x = refused_at n i} {y = y} f g k h = refusing_answer n i (answered y g)

pub by_reading : {A B : Type 0} (i : ℕ) (r : Res A) (f g : A → Answer B) → ((a : A) → KeptAnswer (f a) (g a))
    → KeptAnswer (read_at_of i r f) (read_at_of i r g)
unfolding read_at_of
by_reading i (refuse n) f g h = same_answer (refused_at n i)
by_reading i (ok a m) f g h = h a
