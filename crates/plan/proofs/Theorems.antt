-- Demand 3, its first two sentences: a plan that passes the check from the columns Γ to the columns Δ, run over a
-- record that fits Γ. And: the reader of plans undoes their encoding. Assumes nothing.
use Prim.Native.Nat.{ℕ, ◌≤◌, ◌<◌}
use mathlib.Core.Path.{◌≡◌, refl, sym, ◌∙◌}
use mathlib.Core.Bool.{Bool, true, false}
use mathlib.Core.Logic.{◌↔◌}
use native.Mathlib.Omega.{arith}
use lib.ListN.{length}
use lib.Dec.{leb}
use borrow.Author.Tests.{leb-true}
use Rattle.layout.specs.Bytes.{Bytes, AllBytes}
use Rattle.layout.specs.Parser.{ok}
use Rattle.layout.specs.Tree.{Fields}
use Rattle.layout.proofs.Ways.{clash}
use Rattle.values.specs.Value.{Values}
use Rattle.values.specs.Fits.{FitsAll}
use Rattle.values.specs.Encode.{encode_values}
use Rattle.values.specs.Record.{record_of, RecordFits}
use Rattle.values.proofs.Round.{record_forth, record_back}
use Rattle.plan.specs.Result.{Answer, accepted, refused_at, demand, placed}
use Rattle.plan.specs.Selector.{Selectors, count_selectors, nesting_all}
use Rattle.plan.specs.Encode.{encode_plan}
use Rattle.plan.specs.Read.{longest_plan, deepest_selector, plan}
use Rattle.plan.specs.Check.{check}
use Rattle.plan.specs.Run.{evals, clean_all_of, spacious, written, run}
use Rattle.plan.specs.code.Fits.{FitsAllOver}
use Rattle.plan.specs.code.Formed.{FormedAll}
use Rattle.plan.specs.Reach.{ReachesOverflow}
use Rattle.plan.specs.code.Fallback.{Fallback, evals_with}
use Rattle.plan.proofs.Results.{true≠false, both}
use Rattle.plan.proofs.Typed.{TypedAll, passed→typed}
use Rattle.plan.proofs.Over.{all-over, clean_all, all-clean}
use Rattle.plan.proofs.Preserve.{evals-over}
use Rattle.plan.proofs.Independent.{clean_independent}
use Rattle.plan.proofs.Reached.{unclean_reaches}
use Rattle.plan.proofs.Written.{plan_forth}
use Rattle.plan.proofs.ReadBack.{PlanBack, plan_back}

-- ---- the answer of a run, by its output

number_eq : {A : Type 0} {m n j k : ℕ} → ◌≡◌ {A = Answer A} (refused_at m j) (refused_at n k) → m ≡ n
number_eq e = cc

module _ (ρ : Values) (ss : Selectors) (room : ℕ) where
  pub run-overflows : clean_all_of (evals ρ ss) ≡ false → run ρ ss room ≡ refused_at 44 0
  unfolding run written demand placed
  run-overflows c = rw c

  pub run-writes : clean_all_of (evals ρ ss) ≡ true → spacious room (encode_values (evals ρ ss)) ≡ true → run ρ ss room ≡ accepted (encode_values (evals ρ ss))
  unfolding run written demand placed
  run-writes c h = rw (c, h)

  pub run-exceeds : clean_all_of (evals ρ ss) ≡ true → spacious room (encode_values (evals ρ ss)) ≡ false → run ρ ss room ≡ refused_at 45 0
  unfolding run written demand placed
  run-exceeds c h = rw (c, h)

  -- 44 is that of an output which is not clean
  overflow-unclean : run ρ ss room ≡ refused_at 44 0 → clean_all_of (evals ρ ss) ≡ false
  overflow-unclean e = go (clean_all_of (evals ρ ss)) refl (spacious room (encode_values (evals ρ ss))) refl
    where
      go : (c : Bool) → clean_all_of (evals ρ ss) ≡ c → (h : Bool) → spacious room (encode_values (evals ρ ss)) ≡ h → clean_all_of (evals ρ ss) ≡ false
      go false p h q = p
      go true p true q = let x = run-writes p q in clash (cc)
      go true p false q = absurd (omega (arith, number_eq (sym (run-exceeds p q) ∙ e)))

-- What is left of the run of a plan that passed the check, over a record that fits. `ReachesOverflow` is that it
-- reaches a strict cast that multiplies a non-null date-time beyond signed 64 bits.
pub record Runs (Δ : Fields) (ρ : Values) (ss : Selectors) (room : ℕ) : Type 0 where
  pub output : FitsAllOver Δ (evals ρ ss)
  pub overflow : (run ρ ss room ≡ refused_at 44 0) ↔ ReachesOverflow ρ ss
  pub reached : Dec (ReachesOverflow ρ ss)
  -- given space, it writes a record that fits the second layout
  pub writes : (ReachesOverflow ρ ss → ⊥) → spacious room (encode_values (evals ρ ss)) ≡ true → (run ρ ss room ≡ accepted (encode_values (evals ρ ss))) ×
      (FitsAll Δ (evals ρ ss) × RecordFits Δ (encode_values (evals ρ ss)))
  pub exceeds : (ReachesOverflow ρ ss → ⊥) → spacious room (encode_values (evals ρ ss)) ≡ false → run ρ ss room ≡ refused_at 45 0

module _ {Γ Δ : Fields} {ss : Selectors} {ρ : Values} (d : TypedAll Γ ss Δ) (h : FitsAll Γ ρ) where
  pub output-over : FitsAllOver Δ (evals ρ ss)
  output-over = evals-over d (all-over h)

  unreached-clean : (ReachesOverflow ρ ss → ⊥) → clean_all_of (evals ρ ss) ≡ true
  unreached-clean n = go (clean_all_of (evals ρ ss)) refl
    where
      go : (c : Bool) → clean_all_of (evals ρ ss) ≡ c → clean_all_of (evals ρ ss) ≡ true
      go true p = p
      go false p = absurd (n ((unclean_reaches d h).0 p))

  output-fits : (ReachesOverflow ρ ss → ⊥) → FitsAll Δ (evals ρ ss)
  output-fits n = clean_all output-over (unreached-clean n)

  reached-decided : Dec (ReachesOverflow ρ ss)
  reached-decided = go (clean_all_of (evals ρ ss)) refl
    where
      go : (c : Bool) → clean_all_of (evals ρ ss) ≡ c → Dec (ReachesOverflow ρ ss)
      go true p = no (λ r. true≠false p ((unclean_reaches d h).1 r))
      go false p = yes ((unclean_reaches d h).0 p)

  record_fits : (room : ℕ) → (ReachesOverflow ρ ss → ⊥) → spacious room (encode_values (evals ρ ss)) ≡ true → RecordFits Δ (encode_values (evals ρ ss))
  unfolding spacious
  record_fits room n s =
      record {
        values = evals ρ ss;
        end = length (encode_values (evals ρ ss));
        reads = record_forth (output-fits n)
            (leb-true _ _ (both (leb (length (encode_values (evals ρ ss))) room) s).1);
      }

  pub typed_runs : (room : ℕ) → Runs Δ ρ ss room
  typed_runs room = record {
    output = output-over;
    overflow = (λ e. (unclean_reaches d h).0 (overflow-unclean ρ ss room e), λ r. run-overflows ρ ss room ((unclean_reaches d h).1 r));
    reached = reached-decided;
    writes = λ n s. (run-writes ρ ss room (unreached-clean n) s, (output-fits n, record_fits room n s));
    exceeds = λ n s. run-exceeds ρ ss room (unreached-clean n) s;
  }

module _ (Γ Δ : Fields) {ss : Selectors} (f : FormedAll ss) (passed : check Γ Δ ss ≡ accepted tt) {ρ : Values} (h : FitsAll Γ ρ) where
  -- what passes the check and was read as a plan
  pub plan_runs : (room : ℕ) → Runs Δ ρ ss room
  plan_runs room = typed_runs (passed→typed f passed) h room

  -- "reached" in other words: the output depends on what the casts give that overflow
  pub reaches_dependent : (ReachesOverflow ρ ss → ⊥) ↔ ((c : Fallback) → evals ρ ss ≡ evals_with c ρ ss)
  reaches_dependent =
      let d = passed→typed f passed in
      let (to, from) = clean_independent ρ ss f (all-clean h) in
      (λ n. to (unreached-clean d h n), λ k r. true≠false (from k) ((unclean_reaches d h).1 r))

-- ---- from bytes

module _ (Γ Δ : Fields) (p r : Bytes) (po : AllBytes p) (ro : AllBytes r) {ss : Selectors} {ρ : Values} {m e : ℕ} (planned : plan p ≡ ok ss m)
    (recorded : record_of Γ r ≡ ok ρ e) where
  -- the bytes of a plan that passes the check, and of a record that fits
  pub bytes_run : check Γ Δ ss ≡ accepted tt → (room : ℕ) → Runs Δ ρ ss room
  bytes_run passed room = plan_runs Γ Δ (plan_back p po planned).formed passed (record_back Γ r ro ρ e recorded).fits room

-- ---- the encoding

-- What is written is read: of the conditions of 30, all but the plan's length and nesting are in `FormedAll`.
pub written_read : {ss : Selectors} → FormedAll ss → count_selectors ss < 65536 → nesting_all ss ≤ deepest_selector → length (encode_plan ss) ≤ longest_plan
    → plan (encode_plan ss) ≡ ok ss (length (encode_plan ss))
written_read f c n l = plan_forth f c n l

-- What is read was written, and meets these conditions.
pub read-written : (p : Bytes) → AllBytes p → {ss : Selectors} {m : ℕ} → plan p ≡ ok ss m → PlanBack p ss m
read-written p o e = plan_back p o e
