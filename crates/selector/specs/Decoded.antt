-- What a caller reads out of an answer: `SELECTOR_NUMBER` and `SELECTOR_REST` of include/selector.h.
use Rattle.std.specs.Prelude.{ℕ, ◌^◌, ◌/◌, ◌%◌, ◌≡◌, List}
use Rattle.plan.specs.Result.{Answer, accepted, refused_at}
use Rattle.demands.specs.Refusals.{Call, Refusal, Placed}

abbrev pub answer_number : ℕ → ℕ
answer_number word = word / 2 ^ 32

abbrev pub answer_rest : ℕ → ℕ
answer_rest word = word % 2 ^ 32

-- The word of a call that answers x. Its number is 0 where x is accepted, and then its rest is the size of what is
-- accepted. Else x is refused with this number, such as `Refusal` says of the call, and the rest is its place, such as
-- `Placed` says.
pub record Decoded (c : Call) (things : List ℕ) (incoming columns : ℕ) {A : Type 0} (size : A → ℕ) (x : Answer A) (word : ℕ) : Type 0 where
  pub accepts : answer_number word ≡ 0 → (a : A) × (x ≡ accepted a) × (answer_rest word ≡ size a)
  pub refuses : (answer_number word ≡ 0 → ⊥)
      → (k : ℕ) × (x ≡ refused_at (answer_number word) k) × Refusal c things incoming columns (answer_number word) k
      × Placed things incoming columns (answer_number word) (answer_rest word)
