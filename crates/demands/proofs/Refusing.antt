-- With which numbers something can refuse: a law for each way in which parsers, results and answers are made. Assumes
-- nothing.
use Prim.Native.Nat.{ℕ, ◌<◌}
use mathlib.Core.Path.{◌≡◌, refl}
use mathlib.Core.Bool.{Bool, true, false, ◌&&◌, ◌||◌}
use mathlib.Core.List.{List, [], ◌∷◌}
use lib.Dec.{eqb}
use borrow.Author.Tests.{eqb-true}
use Rattle.layout.specs.Parser.{Res, refuse, ok, next, choose}
use Rattle.layout.proofs.Ways.{clash}
use Rattle.values.specs.Record.{renumber}
use Rattle.plan.specs.Result.{Result, gives, refuses, ◌>>=◌, demand, Answer, accepted, refused_at, placed, answered}
use Rattle.plan.specs.Calls.{read_at_of}
use Rattle.plan.proofs.Results.{both, true≠false}
use Rattle.layout.specs.declared.matching.Matching.{Matching}
use Rattle.demands.specs.Refusals.{is_in, extra_refusals, column_refusals}

-- ---- lists of numbers

-- each number of the list passes the test
unfoldable pub all : (ℕ → Bool) → List ℕ → Bool
all f [] = true
all f (m ∷ ms) = f m && all f ms

pub all_in : (f : ℕ → Bool) (ms : List ℕ) (n : ℕ) → all f ms ≡ true → is_in n ms ≡ true → f n ≡ true
unfolding all is_in
all_in f [] n p e = true≠false e refl
all_in f (m ∷ ms) n p e = go (eqb n m) refl e (λ e. all_in f ms n (both (f m) p).1 e)
  where
    go : (b : Bool) → eqb n m ≡ b → (b || is_in n ms) ≡ true → (is_in n ms ≡ true → f n ≡ true) → f n ≡ true
    go true q e h = rw (eqb-true n m q) (both (f m) p).0
    go false q e h = h e

-- each number of the one list is in the other
abbrev pub within : List ℕ → List ℕ → Bool
within ms ns = all (λ m. is_in m ns) ms

-- ---- a parser's result

pub data RefusesIn {A : Type 0} (ns : List ℕ) : Res A → Type 0 where
  in_ok : {a : A} {m : ℕ} → RefusesIn ns (ok a m)
  in_refuse : {n : ℕ} → is_in n ns ≡ true → RefusesIn ns (refuse n)

module _ {ns : List ℕ} where
  pub next_in : {A B : Type 0} {x : Res A} {k : A → ℕ → Res B} → RefusesIn ns x → ((a : A) (m : ℕ) → RefusesIn ns (k a m))
      → RefusesIn ns (next x k)
  unfolding next
  next_in in_ok g = g _ _
  next_in (in_refuse e) g = in_refuse e

  pub choose_in : {A : Type 0} (b : Bool) {x y : Res A} → RefusesIn ns x → RefusesIn ns y → RefusesIn ns (choose b x y)
  unfolding choose
  choose_in true o p = o
  choose_in false o p = p

  pub refused_in : {A : Type 0} {x : Res A} {n : ℕ} → RefusesIn ns x → x ≡ refuse n → is_in n ns ≡ true
  refused_in in_ok e = clash (cc)
  refused_in {n = n} (in_refuse {n = m} h) e = let q : m ≡ n = cc in rw (← q) h

pub wider : {A : Type 0} {ms ns : List ℕ} {x : Res A} → within ms ns ≡ true → RefusesIn ms x → RefusesIn ns x
wider s in_ok = in_ok
wider {ms = ms} s (in_refuse e) = in_refuse (all_in _ ms _ s e)

pub renumber_in : {A : Type 0} {ms ns : List ℕ} {x : Res A} (f : ℕ → ℕ) → all (λ m. is_in (f m) ns) ms ≡ true → RefusesIn ms x → RefusesIn ns (renumber f x)
unfolding renumber
renumber_in f s in_ok = in_ok
renumber_in {ms = ms} f s (in_refuse e) = in_refuse (all_in _ ms _ s e)

-- ---- a result

pub data ResultIn {A : Type 0} (ns : List ℕ) : Result A → Type 0 where
  in_gives : {a : A} → ResultIn ns (gives a)
  in_refuses : {n : ℕ} → is_in n ns ≡ true → ResultIn ns (refuses n)

module _ {ns : List ℕ} where
  pub bind_in : {A B : Type 0} {x : Result A} {f : A → Result B} → ResultIn ns x → ((a : A) → ResultIn ns (f a)) → ResultIn ns (x >>= f)
  unfolding ◌>>=◌
  bind_in in_gives g = g _
  bind_in (in_refuses e) g = in_refuses e

  pub demand_in : {A : Type 0} (b : Bool) (n : ℕ) {r : Result A} → is_in n ns ≡ true → ResultIn ns r → ResultIn ns (demand b n r)
  unfolding demand
  demand_in true n e o = o
  demand_in false n e o = in_refuses e

  pub result_choose_in : {A : Type 0} (b : Bool) {x y : Result A} → ResultIn ns x → ResultIn ns y → ResultIn ns (choose b x y)
  unfolding choose
  result_choose_in true o p = o
  result_choose_in false o p = p

-- ---- an answer

-- what is accepted has Q, and a refusal's number and place have P
pub data Answers {A : Type 0} (Q : A → Type 0) (P : ℕ → ℕ → Type 0) : Answer A → Type 0 where
  in_accepted : {a : A} → Q a → Answers Q P (accepted a)
  in_refused_at : {n k : ℕ} → P n k → Answers Q P (refused_at n k)

module _ {B : Type 0} {Q : B → Type 0} {P : ℕ → ℕ → Type 0} where
  pub read_in : {A : Type 0} (k : ℕ) (x : Res A) {f : A → Answer B} → ((n : ℕ) → x ≡ refuse n → P n k)
      → ((a : A) (m : ℕ) → x ≡ ok a m → Answers Q P (f a)) → Answers Q P (read_at_of k x f)
  unfolding read_at_of
  read_in k (refuse n) h g = in_refused_at (h n refl)
  read_in k (ok a m) h g = g a m refl

  pub placed_in : {A : Type 0} {ns : List ℕ} (k : ℕ) {x : Result A} {f : A → Answer B} → ResultIn ns x
      → ((n : ℕ) → is_in n ns ≡ true → P n k) → ((a : A) → Answers Q P (f a)) → Answers Q P (placed k x f)
  unfolding placed
  placed_in k in_gives h g = g _
  placed_in k (in_refuses e) h g = in_refused_at (h _ e)

  pub answered_in : {A : Type 0} {S : A → Type 0} {R : ℕ → ℕ → Type 0} {x : Answer A} {f : A → Answer B} → Answers S R x
      → ((n k : ℕ) → R n k → P n k) → ((a : A) → S a → Answers Q P (f a)) → Answers Q P (answered x f)
  unfolding answered
  answered_in (in_accepted q) h g = g _ q
  answered_in (in_refused_at r) h g = in_refused_at (h _ _ r)

  pub refused_as : {x : Answer B} {n k : ℕ} → Answers Q P x → x ≡ refused_at n k → P n k
  refused_as (in_accepted q) e = clash (cc)
  refused_as {n = n} {k = k} (in_refused_at {n = m} {k = j} p) e =
      let q : m ≡ n = cc in
      let r : j ≡ k = cc in
      rw (← q, ← r) p

-- a weaker fact of its refusals
pub answers_as : {A : Type 0} {S : A → Type 0} {R P : ℕ → ℕ → Type 0} {x : Answer A} → Answers S R x → ((n k : ℕ) → R n k → P n k) → Answers S P x
answers_as (in_accepted q) h = in_accepted q
answers_as (in_refused_at r) h = in_refused_at (h _ _ r)

-- a refusal of a column: its number is in the list, its place below the count of columns
pub record ColumnRefusal (ns : List ℕ) (count n k : ℕ) : Type 0 where
  pub among : is_in n ns ≡ true
  pub place : k < count

-- a build's refusal: of an extra column among the incoming ones, or of a target column
pub data BuildRefusal (v : Matching) (incoming columns n k : ℕ) : Type 0 where
  by_extra : ColumnRefusal extra_refusals incoming n k → BuildRefusal v incoming columns n k
  by_column : ColumnRefusal (column_refusals v) columns n k → BuildRefusal v incoming columns n k
