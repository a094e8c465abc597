-- What the answers of the crates below say of an exported call's answer. Assumes nothing.
use Prim.Native.Nat.{ℕ, ◌+◌, ◌*◌, ◌≤◌, ◌<◌}
use mathlib.Core.Bool.{Bool, true, false}
use native.Mathlib.Decide.{dec_lt}
use Rattle.demands.specs.Refusals.{is_in, has_place, place_of}
use Rattle.rules.proofs.Interval.{holds_on, fails_on}
use Rattle.layout.specs.Parser.{choose}
use native.Mathlib.Omega.{arith}
use mathlib.Core.Path.{◌≡◌, refl, sym, ap, ◌∙◌}
use Rattle.layout.specs.Parser.{Res, refuse, ok}
use Rattle.layout.specs.Tree.{Layout}
use Rattle.layout.specs.code.Answers.{layout_of}
use Rattle.layout.specs.declared.cursor.Cursor.{Cursor}
use Rattle.layout.specs.declared.read.LayoutRead.{LayoutRead}
use Rattle.layout.specs.declared.edition.Edition.{Edition}
use Rattle.layout.proofs.Ways.{clash}
use Rattle.layout.specs.Bytes.{Bytes}
use Rattle.rules.specs.declared.policy.Policy.{Policy}
use Rattle.plan.specs.Result.{Answer, accepted, refused_at}
use Rattle.plan.specs.code.Written.{write_result}
use Rattle.plan.specs.Calls.{buffer_after}
use Rattle.plan.specs.declared.answer.WriteResult.{WriteResult}
use Rattle.checker.specs.code.Tops.{plan_checked}
use Rattle.checker.specs.declared.tops.PlanChecked.{PlanChecked}
use Rattle.selector.specs.Answer.{answer, refusal, read_answer, written_answer, write_answer, checked_answer, check_answer}

-- ---- the place of a refusal

module _ (n : ℕ) where
  pub place_none : n < 1 → false ≡ has_place n
  unfolding is_in
  place_none h = fails_on has_place 0 1 n tt (omega arith) h

  pub place-layout : 1 ≤ n → n < 7 → true ≡ has_place n
  unfolding is_in
  place-layout l h = holds_on has_place 1 6 n tt l h

  pub place-between : 7 ≤ n → n < 11 → false ≡ has_place n
  unfolding is_in
  place-between l h = fails_on has_place 7 4 n tt l h

  pub place-column : 11 ≤ n → n < 27 → true ≡ has_place n
  unfolding is_in
  place-column l h = holds_on has_place 11 16 n tt l h

  pub place-one : {k : ℕ} → n ≡ k → has_place k ≡ true → true ≡ has_place n
  place-one e f = sym f ∙ ap has_place (sym e)

  pub place_after : 27 ≤ n → n < 256 → (n ≡ 28 → ⊥) → (n ≡ 31 → ⊥) → (n ≡ 32 → ⊥) → (n ≡ 53 → ⊥) → false ≡ has_place n
  unfolding is_in
  place_after l h a b c d = go (dec_lt n 28) (dec_lt n 31) (dec_lt n 53)
    where
      go : Dec (n < 28) → Dec (n < 31) → Dec (n < 53) → false ≡ has_place n
      go (yes p) q r = fails_on has_place 27 1 n tt l p
      go (no p) (yes q) r = fails_on has_place 29 2 n tt (omega arith) q
      go (no p) (no q) (yes r) = fails_on has_place 33 20 n tt (omega arith) r
      go (no p) (no q) (no r) = fails_on has_place 54 202 n tt (omega arith) h

  pub refusal-placed : (k : ℕ) {b : Bool} → b ≡ has_place n → b ≡ true → answer n k ≡ refusal n k
  unfolding place_of choose
  refusal-placed k e f = rw (← e, f)

  pub refusal-unplaced : (k : ℕ) {b : Bool} → b ≡ has_place n → b ≡ false → n * 4294967296 ≡ refusal n k
  unfolding place_of choose
  refusal-unplaced k e f = rw (← e, f) (let z : n * 4294967296 ≡ n * 4294967296 + 0 = omega arith in z)

pub layout-accepted : (x : Res Layout) {r : LayoutRead} {v : Edition} {n : ℕ} {c : Cursor} → r ≡ layout_of x → r ≡ LayoutRead.Read v n c → 0 ≡ read_answer x
unfolding layout_of
layout-accepted (refuse k) e f = clash (cc)
layout-accepted (ok l m) e f = refl

pub layout-refused : (x : Res Layout) {r : LayoutRead} {k a : ℕ} → r ≡ layout_of x → r ≡ LayoutRead.Refused k → a ≡ refusal k 1 → a ≡ read_answer x
unfolding layout_of
layout-refused (refuse n) {k = k} e f g = let h : k ≡ n = cc in rw (← h) g
layout-refused (ok l m) e f g = clash (cc)

-- ---- a call that writes

pub written-length : {b : WriteResult} {n : ℕ} → b ≡ WriteResult.Written n → n ≡ write_answer b
written-length {n = n} e = let z : n ≡ 0 + n = omega arith in z ∙ sym (ap write_answer e)

pub written-refused : {b : WriteResult} {n k r : ℕ} → b ≡ WriteResult.Refused n k → r ≡ refusal n k → r ≡ write_answer b
written-refused e h = h ∙ sym (ap write_answer e)

pub written-answered : (x : Answer Bytes) {b : WriteResult} {r : ℕ} → b ≡ write_result x → r ≡ write_answer b → r ≡ written_answer x
written-answered (accepted u) e h = h ∙ ap write_answer e
written-answered (refused_at n k) e h = h ∙ ap write_answer e

-- of a builder; p is the policy of the word
module _ {p q : Policy} (e : p ≡ q) (f : Policy → Answer Bytes) where
  pub build-answered : {b : WriteResult} {r : ℕ} → b ≡ write_result (f p) → r ≡ write_answer b → r ≡ written_answer (f q)
  build-answered h g = written-answered (f p) h g ∙ ap (λ (x : Policy). written_answer (f x)) e

  pub build-buffer : (entry : Bytes) {exit : Bytes} → exit ≡ buffer_after (f p) entry → exit ≡ buffer_after (f q) entry
  build-buffer entry h = h ∙ ap (λ (x : Policy). buffer_after (f x) entry) e

-- ---- the check

pub checked-passed : {b : PlanChecked} → b ≡ PlanChecked.Passed → 0 ≡ check_answer b
checked-passed e = sym (ap check_answer e)

pub checked_refused : {b : PlanChecked} {n k r : ℕ} → b ≡ PlanChecked.Refused n k → r ≡ refusal n k → r ≡ check_answer b
checked_refused e h = h ∙ sym (ap check_answer e)

pub check-answered : (x : Answer (Unit {0})) {b : PlanChecked} {r : ℕ} → b ≡ plan_checked x → r ≡ check_answer b → r ≡ checked_answer x
check-answered (accepted u) e h = h ∙ ap check_answer e
check-answered (refused_at n k) e h = h ∙ ap check_answer e
