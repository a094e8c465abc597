-- Demand 1, "it returns its number from document 01": the word that each exported call's contract gives, decoded, for
-- all bytes. `AllBytes` says that a list's numbers are below 256, as those of every lent slice are. Assumes nothing.
use Prim.Native.Nat.{ℕ, ◌<◌, ◌≤◌, ◌^◌}
use native.Mathlib.Omega.{arith}
use mathlib.Core.Path.{◌≡◌, refl}
use mathlib.Core.Bool.{Bool, true, false}
use mathlib.Core.List.{List, [], ◌∷◌}
use lib.ListN.{length}
use Rattle.layout.specs.Bytes.{Bytes, AllBytes}
use Rattle.layout.specs.Parser.{Res, refuse, ok, choose}
use Rattle.layout.specs.Tree.{Layout}
use Rattle.layout.specs.Layout.{layout}
use Rattle.layout.specs.declared.matching.Matching.TheVariants.{ByName, ByNumber}
use Rattle.rules.specs.Policies.{policy_of}
use Rattle.plan.specs.Result.{Answer, accepted, refused_at}
use Rattle.plan.specs.Calls.{read_at_of, check_plan_of, run_plan}
use Rattle.matching.specs.Calls.{build_by_name, build_by_number}
use Rattle.demands.specs.Refusals.{Call, reading_layout, building, checking_plan, running, refusal_in, has_place, place_of, Refusal, read_layout, layouts_read}
use Rattle.demands.specs.Refusals.{table_read, column_count, selector_count}
use Rattle.demands.proofs.Refusing.{Answers, in_accepted, in_refused_at}
use Rattle.demands.proofs.Refusals.{read_layout_in, by_name_in, by_number_in, check_plan_in, run_plan_in, place-small, refusal-placed, columns-small}
use Rattle.demands.proofs.Refusals.{selectors-small}
use Rattle.selector.specs.Answer.{answer, refusal, read_answer, written_answer, checked_answer}
use Rattle.selector.specs.Decoded.{answer_number, answer_rest, Decoded}

-- the two halves
halves : (n k : ℕ) → k < 2 ^ 32 → (answer_number (answer n k) ≡ n) × (answer_rest (answer n k) ≡ k)
halves n k h = (omega (arith, h), omega (arith, h))

-- the word of an answer
abbrev word : {A : Type 0} → (A → ℕ) → Answer A → ℕ
word size (accepted a) = answer 0 (size a)
word size (refused_at n k) = refusal n k

shown_small : (n k : ℕ) → place_of n k ≤ k
unfolding place_of choose
shown_small n k = go (has_place n)
  where
    go : (b : Bool) → choose b k 0 ≤ k
    go true = omega arith
    go false = omega arith

decoded : {c : Call} {things : List ℕ} {incoming columns : ℕ} {A : Type 0} {Q : A → Type 0} {x : Answer A} (size : A → ℕ) → Answers Q
    (Refusal c things incoming columns) x
    → ((a : A) → Q a → size a < 2 ^ 32) → incoming < 65536 → columns < 65536 → length things ≤ 3 → Decoded c things incoming columns size x (word size x)
decoded size (in_accepted {a = a} q) fits some few three =
    let (e, f) = halves 0 (size a) (fits a q) in
    record { accepts = λ z. (a, refl, f); refuses = λ z. absurd (z e) }
decoded size (in_refused_at {n = n} {k = k} R) fits some few three =
    let s = place-small R some few three in
    let (e, f) = halves n (place_of n k) (omega (arith, shown_small n k)) in
    let p = R.positive in
    record { accepts = λ z. absurd (omega arith); refuses = λ z. rw (e, f) (k, refl, R, refusal-placed R) }

-- the words of the contracts
read_word : (x : Res Layout) → word (λ (l : Layout). 0) (read_at_of 1 x (λ l. accepted l)) ≡ read_answer x
unfolding read_at_of
read_word (refuse n) = refl
read_word (ok l m) = refl

written-word : (x : Answer Bytes) → word length x ≡ written_answer x
written-word (accepted b) = refl
written-word (refused_at n k) = refl

checked-word : (x : Answer (Unit {0})) → word (λ (u : Unit {0}). 0) x ≡ checked_answer x
checked-word (accepted u) = refl
checked-word (refused_at n k) = refl

-- ---- each call

pub read_layout_decoded : (s : Bytes) → Decoded reading_layout (refusal_in (layout s) ∷ []) 0 0 (λ l. 0) (read_layout s) (read_answer (layout s))
read_layout_decoded s = rw (← read_word (layout s)) (decoded (λ l. 0) (read_layout_in s) (λ l q. omega arith) (omega arith) (omega arith) (omega arith))

module _ (policy : ℕ) (incoming target : Bytes) (oi : AllBytes incoming) (ot : AllBytes target) (space : ℕ) where
  pub by_name_decoded : Decoded (building ByName) (layouts_read incoming target []) (column_count incoming) (column_count target) length
      (build_by_name (policy_of policy) incoming target space) (written_answer (build_by_name (policy_of policy) incoming target space))
  by_name_decoded =
      rw (← written-word (build_by_name (policy_of policy) incoming target space))
      (decoded length (by_name_in (policy_of policy) incoming target space) (λ b q. omega arith) (columns-small incoming oi) (columns-small target ot)
      (omega arith))

  pub by_number_decoded : (index owner : ℕ) (defaults : Bytes)
      → Decoded (building ByNumber) (layouts_read incoming target (table_read defaults)) (column_count incoming) (column_count target) length
      (build_by_number (policy_of policy) index owner incoming target defaults space)
      (written_answer (build_by_number (policy_of policy) index owner incoming target defaults space))
  by_number_decoded index owner defaults =
      rw (← written-word (build_by_number (policy_of policy) index owner incoming target defaults space))
      (decoded length (by_number_in (policy_of policy) index owner incoming target defaults space) (λ b q. omega arith)
      (columns-small incoming oi) (columns-small target ot) (omega arith))

module _ (incoming target bytes : Bytes) (o : AllBytes bytes) where
  pub check_decoded : Decoded checking_plan (layouts_read incoming target []) 0 (selector_count bytes) (λ x. 0)
      (check_plan_of incoming target bytes) (checked_answer (check_plan_of incoming target bytes))
  check_decoded =
      rw (← checked-word (check_plan_of incoming target bytes))
      (decoded (λ x. 0) (check_plan_in incoming target bytes) (λ x q. omega arith) (omega arith) (selectors-small bytes o) (omega arith))

  pub run_decoded : (rec : Bytes) (room : ℕ)
      → Decoded running (layouts_read incoming target []) 0 (selector_count bytes) length
      (run_plan incoming target bytes rec room) (written_answer (run_plan incoming target bytes rec room))
  run_decoded rec room =
      rw (← written-word (run_plan incoming target bytes rec room))
      (decoded length (run_plan_in incoming target bytes rec room) (λ b q. omega arith) (omega arith) (selectors-small bytes o) (omega arith))
