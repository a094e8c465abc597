-- Document 02, L6, "Loosening a policy", over bytes and in the terms of the exported calls' contracts. Assumes nothing.
use Prim.Native.Nat.{ℕ}
use mathlib.Core.Path.{◌≡◌}
use Rattle.layout.specs.Bytes.{Bytes}
use Rattle.layout.specs.Tree.{Columns}
use Rattle.layout.specs.declared.matching.Matching.{Matching}
use Rattle.layout.specs.declared.matching.Matching.TheVariants.{ByName, ByNumber}
use Rattle.rules.specs.declared.policy.Policy.{Policy}
use Rattle.rules.specs.Policies.{policy_of}
use Rattle.rules.specs.Allows.{Allows, BitsAmong}
use Rattle.rules.proofs.Allowed.{words_allow}
use Rattle.defaults.specs.Table.{entries_of, table}
use Rattle.defaults.specs.Lookup.{get_default_value}
use Rattle.plan.specs.Result.{Answer, accepted, answered}
use Rattle.plan.proofs.Kept.{KeptAnswer, same, same_answer, by_place, by_answer, by_reading}
use Rattle.matching.specs.Default.{Defaults, no_defaults}
use Rattle.matching.specs.Build.{build}
use Rattle.matching.specs.Calls.{both_layouts, written_plan, build_by_name, build_by_number}
use Rattle.matching.proofs.Loosen.{build-kept}

both-kept : (v : Matching) (incoming target : Bytes) (f g : Columns → Columns → Answer Bytes) → ((a b : Columns) → KeptAnswer (f a b) (g a b))
    → KeptAnswer (both_layouts v incoming target f) (both_layouts v incoming target g)
unfolding both_layouts
both-kept v incoming target f g h =
    by_reading 1 _ _ _ (λ a. by_reading 2 _ _ _ (λ b. by_place 0 _ _ (same _) (λ x. h a.columns b.columns)))

written-kept : {p q : Policy} → Allows p q → (room : ℕ) (v : Matching) (d : Defaults) (a b : Columns)
    → KeptAnswer (answered (build v p d a b) (λ ss. written_plan room ss)) (answered (build v q d a b) (λ ss. written_plan room ss))
written-kept A room v d a b = by_answer _ _ (build-kept v A d a b) (λ ss. same_answer (written_plan room ss))

-- ---- "For any two policies where the second allows all that the first allows (flags on, Insert above Raise, Ignore
-- above Raise), every build accepted under the first, with all other arguments and the buffer length the same, is
-- accepted under the second with the same bytes."

module _ {p q : Policy} (A : Allows p q) (incoming target : Bytes) (room : ℕ) {plan : Bytes} where
  pub by_name_loosened : build_by_name p incoming target room ≡ accepted plan → build_by_name q incoming target room ≡ accepted plan
  unfolding build_by_name
  by_name_loosened e = (both-kept ByName incoming target _ _ (written-kept A room ByName no_defaults)).kept plan e

  pub by_number_loosened : (index owner : ℕ) (defaults : Bytes) → build_by_number p index owner incoming target defaults room ≡ accepted plan
      → build_by_number q index owner incoming target defaults room ≡ accepted plan
  unfolding build_by_number
  by_number_loosened index owner defaults e =
      (both-kept ByNumber incoming target _ _
      (λ a b. by_reading 3 (table defaults) _ _ (λ t. written-kept A room ByNumber (get_default_value (entries_of owner t.entries) index) a b))).kept plan e

-- ---- The same of the policy words that a caller holds: every bit of the first is among the second's.

module _ (a b : ℕ) (among : BitsAmong a b) (incoming target : Bytes) (room : ℕ) {plan : Bytes} where
  pub by_name_word_loosened : build_by_name (policy_of a) incoming target room ≡ accepted plan → build_by_name (policy_of b) incoming target room ≡ accepted plan
  by_name_word_loosened e = by_name_loosened (words_allow a b among) incoming target room e

  pub by_number-word_loosened : (index owner : ℕ) (defaults : Bytes) → build_by_number (policy_of a) index owner incoming target defaults room ≡ accepted plan
      → build_by_number (policy_of b) index owner incoming target defaults room ≡ accepted plan
  by_number-word_loosened index owner defaults e = by_number_loosened (words_allow a b among) incoming target room index owner defaults e
