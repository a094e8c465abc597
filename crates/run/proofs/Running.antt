-- What the parts of a run answer, over variables. Assumes nothing.
use Prim.Native.Nat.{ℕ, ◌≤◌}
use mathlib.Core.Path.{◌≡◌, refl, sym, ap, subst, ◌∙◌}
use mathlib.Core.Bool.{Bool, true, false}
use mathlib.Core.List.{[]}
use native.Mathlib.Omega.{arith}
use lib.ListN.{length}
use Rattle.layout.specs.Bytes.{Bytes}
use Rattle.layout.specs.Limits.{longest, deepest}
use Rattle.layout.specs.Parser.{Res, refuse, ok}
use Rattle.layout.specs.Tree.{Columns, Fields, fields_of}
use Rattle.layout.specs.Layout.{layout, type, columns as columns_of_of}
use Rattle.layout.specs.code.Stands.{ColumnsAt, LayoutAt}
use Rattle.layout.specs.declared.columns.Siblings.TheVariants.{Free}
use Rattle.layout.specs.declared.edition.Edition.{Edition}
use Rattle.layout.proofs.View.{same-columns}
use Rattle.layout.proofs.Ways.{clash}
use Rattle.values.specs.Value.{Values}
use Rattle.values.specs.Encode.{encode_values}
use Rattle.values.specs.Filled.{required_of}
use Rattle.values.specs.Record.{record_marked, RecordFilled}
use Rattle.values.specs.code.Answers.{record_read}
use Rattle.values.specs.declared.record.RecordRead.{RecordRead}
use Rattle.values.proofs.Inside.{record_at, record_unfilled}
use Rattle.plan.specs.Result.{Answer, accepted, refused_at, answered}
use Rattle.plan.specs.Selector.{Selectors}
use Rattle.plan.specs.Check.{check}
use Rattle.plan.specs.Marks.{check_marked}
use Rattle.plan.specs.Run.{evals, clean_all_of, spacious, run}
use Rattle.plan.specs.Read.{plan}
use Rattle.plan.specs.Calls.{read_at_of, read_plan, run_plan, buffer_after}
use Rattle.plan.specs.code.Written.{write_result}
use Rattle.plan.specs.declared.answer.WriteResult.{WriteResult}
use Rattle.plan.proofs.Results.{answered-accepted}
use Rattle.plan.proofs.Theorems.{run-overflows, run-writes, run-exceeds}
use Rattle.walk.proofs.View.{selectors-longer}
use Rattle.nodes.specs.code.Raw.{RowAt}
use Rattle.transfer.specs.code.Reaching.{Kept}
use Rattle.composed.specs.code.Transferring.{TransferredAnswer, TransferredIs}
use Rattle.composed.specs.declared.whole.Transferred.{Transferred}
use Rattle.overflow.specs.code.Overflows.{PlanAt}
use Rattle.output.specs.code.Output.{Emits}
use Rattle.output.specs.code.Answers.{HandedOver, written_of}
use Rattle.output.specs.declared.write.Written.{Written}
use Rattle.output.proofs.Writing.{emits_exact}
use Rattle.output.proofs.Whole.{aside_inside}
use Rattle.checker.specs.code.Tops.{plan_checked}
use Rattle.checker.proofs.Topping.{PlanAt as PlanFound, plan-tops}
use Rattle.checker.specs.declared.tops.PlanChecked.{PlanChecked}
use Rattle.run.specs.declared.read.Read.{Read}
use Rattle.run.specs.declared.single_pass.SinglePass.{SinglePass}
use Rattle.run.specs.code.Answers.{finished, record_run, checked_run, Ran, ReadAt, PassedAt, Settled, SinglePassAnswer, SinglePassIs}

-- a refusal leaves the buffer as it was
pub ran-refused : {x : Answer Bytes} {entry : Bytes} {n k : ℕ} → x ≡ refused_at n k → Ran x entry (WriteResult.Refused n k) entry
ran-refused e = record { answer = sym (ap write_result e); buffer = rw e }

pub ran_as : {x y : Answer Bytes} {entry : Bytes} {r : WriteResult} {exit : Bytes} → x ≡ y → Ran y entry r exit → Ran x entry r exit
ran_as e R = rw e R

-- ---- the record

module _ (Γ : Columns) (ss : Selectors) (rec : Bytes) (room : ℕ) where
  pub record_refused : {r : RecordRead} {k : ℕ} → r ≡ record_read (record_marked required_of Γ rec) → r ≡ RecordRead.Refused k
      → record_run Γ ss rec room ≡ refused_at k 0
  unfolding record_read read_at_of
  record_refused {r} {k} e f = go (record_marked required_of Γ rec) refl e
    where
      go : (x : Res Values) → record_marked required_of Γ rec ≡ x → r ≡ record_read x
          → read_at_of 0 (record_marked required_of Γ rec) (λ ρ. run ρ ss room) ≡ refused_at k 0
      go (refuse n) p e = let q : n ≡ k = cc in rw (p, q)
      go (ok vs m) p e = clash (cc)

  module _ {ρ : Values} {e : ℕ} (reads : record_marked required_of Γ rec ≡ ok ρ e) where
    pub record_run_lem : record_run Γ ss rec room ≡ run ρ ss room
    unfolding read_at_of
    record_run_lem = rw reads

    pub run-overflowing : clean_all_of (evals ρ ss) ≡ false → record_run Γ ss rec room ≡ refused_at 44 0
    run-overflowing h = record_run_lem ∙ run-overflows ρ ss room h

    pub run-finished : {w : Written} {r : WriteResult} {entry exit : Bytes} → clean_all_of (evals ρ ss) ≡ true → w ≡ written_of (run ρ ss room) → r ≡ finished w
        → exit ≡ buffer_after (run ρ ss room) entry
        → Ran (record_run Γ ss rec room) entry r exit
    run-finished {w} {r} {entry} {exit} c h f x = ran_as record_run_lem (go (spacious room (encode_values (evals ρ ss))) refl)
      where
        by : (y : Answer Bytes) → run ρ ss room ≡ y → finished (written_of y) ≡ write_result y → Ran (run ρ ss room) entry r exit
        by y q z = record { answer = f ∙ ap finished h ∙ ap (λ (t : Answer Bytes). finished (written_of t)) q ∙ z ∙ sym (ap write_result q); buffer = x }

        go : (s : Bool) → spacious room (encode_values (evals ρ ss)) ≡ s → Ran (run ρ ss room) entry r exit
        go true s = by _ (run-writes ρ ss room c s) refl
        go false s = by _ (run-exceeds ρ ss room c s) refl

-- ---- one pass

module _ {ρ : Values} {ss : Selectors} {out : Bytes} {r : SinglePass} {out' : Bytes} (D : SinglePassIs ρ ss out r out') where
  single-pass-as : {q : SinglePass} → r ≡ q → SinglePassAnswer ρ ss out q out'
  single-pass-as e = subst (λ (z : SinglePass). SinglePassAnswer ρ ss out z out') e D.answer

  pub single_pass_settled : {w : Written} → r ≡ SinglePass.Is w → Settled ρ ss out w out'
  single_pass_settled e = single-pass-as e

  -- the buffer is as it was
  pub single_pass_unknown : r ≡ SinglePass.Unknown → out' ≡ out
  single_pass_unknown e = single-pass-as e

-- a run over the same buffer
pub same-buffer : (Γ : Columns) (ss : Selectors) (rec : Bytes) {out out' : Bytes} {o : WriteResult} {exit : Bytes} → out' ≡ out
    → Ran (record_run Γ ss rec (length out')) out' o exit → Ran (record_run Γ ss rec (length out)) out o exit
same-buffer Γ ss rec {o = o} {exit} e R = subst (λ (b : Bytes). Ran (record_run Γ ss rec (length b)) b o exit) e R

module _ (ρ : Values) (ss : Selectors) {aside₀ : Bytes} (size : longest ≡ length aside₀) {r : Transferred} {aside : Bytes}
    (T : TransferredIs (clean_all_of (evals ρ ss)) (encode_values (evals ρ ss)) aside₀ r aside) {len : ℕ} (e : r ≡ Transferred.To len) where
  kept : Kept (clean_all_of (evals ρ ss)) (encode_values (evals ρ ss)) aside₀ 0 len aside
  kept = subst (λ (z : Transferred). TransferredAnswer (clean_all_of (evals ρ ss)) (encode_values (evals ρ ss)) aside₀ z aside) e T.answer

  emits : Emits aside₀ 0 (encode_values (evals ρ ss)) len aside
  emits = emits_exact aside₀ 0 (encode_values (evals ρ ss)) kept.stores.ends kept.stores.stored

  pub single_pass-inside : len ≤ length aside
  single_pass-inside = aside_inside ρ ss kept.clean size emits kept.within

  pub single_pass_handed : {out : Bytes} {w : Written} {new : Bytes} → HandedOver aside len out w new → SinglePassIs ρ ss out (SinglePass.Is w) new
  single_pass_handed H = let (a, b) = H ρ ss aside₀ kept.clean size emits in record { answer = record { clean = kept.clean; answer = a; buffer = b } }

-- the same columns, from an equal offset on
abbrev pub columns_moved : {v : Edition} {s : Bytes} {n at m : ℕ} → m ≡ at → ColumnsAt v deepest s n at → ColumnsAt v deepest s n m
columns_moved {v} {s} {n} e C = record {
  columns = C.columns;
  end = C.end;
  reads = ap (λ (k : ℕ). columns_of_of v Free (type v Free deepest) n [] s k) e
      ∙ C.reads;
}

-- ---- what a plan that passed gives to the parts

module _ {incoming plan target : Bytes} {q : Read} (P : PassedAt incoming plan target q) {rec : Bytes} (F : RecordFilled P.columns.columns rec) where
  abbrev pub row_of : RowAt q.incoming.edition incoming q.incoming.count q.incoming.first.at rec 0
  row_of = record { columns = P.columns; values = (record_at (record_unfilled F)).inner }

  -- where the columns of a layout begin
  abbrev pub row_seven : RowAt q.incoming.edition incoming q.incoming.count 7 rec 0
  row_seven = record { columns = columns_moved (sym P.first) P.columns; values = (record_at (record_unfilled F)).inner }

  pub record_reads : record_marked required_of P.columns.columns rec ≡ ok row_of.values.values F.end
  record_reads = F.reads ∙ ap (λ (vs : Values). ok vs F.end) (record_at (record_unfilled F)).is

abbrev pub plan_of : {incoming plan target : Bytes} {q : Read} (P : PassedAt incoming plan target q)
    → PlanAt plan 7 (fields_of P.columns.columns) (fields_of P.targets.columns)
plan_of {q = q} P = record { count = q.selectors; selectors = P.selectors; starts = P.starts; small = P.small; passes = P.passes }

-- ---- the check

-- what passes the check with 55 passes the check of types
pub marked_checked : (Γ Δ : Columns) (ss : Selectors) → check_marked Γ Δ ss ≡ accepted tt → check (fields_of Γ) (fields_of Δ) ss ≡ accepted tt
unfolding check_marked
marked_checked Γ Δ ss e = let (u, p, q) = answered-accepted _ _ e in p

pub check-passed : (x : Answer (Unit {0})) → plan_checked x ≡ PlanChecked.Passed → x ≡ accepted tt
check-passed (accepted u) e = refl
check-passed (refused_at a b) e = clash (cc)

module _ {incoming plan target : Bytes} {q : Read} (A : ReadAt incoming plan target q) where
  abbrev checked : Answer (Unit {0})
  checked = check_marked A.columns.columns A.targets.columns A.selectors

  abbrev runs : Bytes → ℕ → Answer Bytes
  runs rec room = checked_run A.columns.columns A.targets.columns A.selectors rec room

  over-record : (rec : Bytes) (room : ℕ) → plan_checked checked ≡ PlanChecked.Passed
      → runs rec room ≡ record_run A.tops.columns.columns A.tops.selectors.trees rec room
  unfolding answered
  over-record rec room e = rw (check-passed checked e)
      (sym (ap (λ (x : Columns). record_run x A.tops.selectors.trees rec room) (same-columns A.tops.columns A.columns).0
      ∙ ap (λ (x : Selectors). record_run A.columns.columns x rec room) A.tops.is))

  unfoldable pub passed-at : {r : PlanChecked} → r ≡ plan_checked checked → r ≡ PlanChecked.Passed → PassedAt incoming plan target q
  passed-at h f = record {
    columns = columns_moved A.first A.tops.columns;
    targets = columns_moved A.begins A.targets;
    selectors = A.tops.selectors;
    passes = ap (λ (x : Fields). check x (fields_of A.targets.columns) A.tops.selectors.trees) A.tops.are
        ∙ ap (check (fields_of A.columns.columns) (fields_of A.targets.columns)) A.tops.is
        ∙ marked_checked A.columns.columns A.targets.columns A.selectors (check-passed checked (sym h ∙ f));
    starts = omega (arith, A.tops.ends, selectors-longer A.tops.selectors);
    small = A.tops.small;
    first = A.first;
  }

  -- the run of what passed
  pub run_passed : {r : PlanChecked} (rec : Bytes) (room : ℕ) {entry : Bytes} {o : WriteResult} {exit : Bytes} (h : r ≡ plan_checked checked)
      (f : r ≡ PlanChecked.Passed)
      → Ran (record_run (passed-at h f).columns.columns (passed-at h f).selectors.trees rec room) entry o exit → Ran (runs rec room) entry o exit
  unfolding answered passed-at
  run_passed rec room h f R = ran_as (over-record rec room (sym h ∙ f)) R

  pub check-refused : {r : PlanChecked} {j k : ℕ} (rec : Bytes) (room : ℕ) → r ≡ plan_checked checked → r ≡ PlanChecked.Refused j k
      → runs rec room ≡ refused_at j k
  unfolding answered
  check-refused {j = j} {k} rec room h f = go checked (sym h ∙ f)
    where
      refused-eq : {a b : ℕ} → PlanChecked.Refused a b ≡ PlanChecked.Refused j k → ◌≡◌ {A = Answer Bytes} (refused_at a b) (refused_at j k)
      refused-eq e = cc

      go : (x : Answer (Unit {0})) → plan_checked x ≡ PlanChecked.Refused j k → answered x
          (λ y. record_run A.columns.columns A.selectors rec room) ≡ refused_at j k
      go (accepted u) e = clash (cc)
      go (refused_at a b) e = refused-eq e

-- ---- what was read

abbrev pub read_at : {incoming plan target : Bytes} {v w : Edition} {n m k : ℕ} (L : LayoutAt incoming v n) (M : LayoutAt target w m) (P : PlanFound plan k)
    → ReadAt incoming plan target (record {
      incoming = record { edition = v; count = n; first = record { at = 7 } };
      selectors = k;
      target = record { edition = w; count = m; first = record { at = 7 } };
    })
read_at L M P = record { columns = L.columns; targets = M.columns; selectors = P.parts; tops = plan-tops L P; first = refl; begins = refl }

-- ---- the run over any bytes

module _ (incoming target bytes rec : Bytes) (room : ℕ) where
  pub run-first : {k : ℕ} → layout incoming ≡ refuse k → run_plan incoming target bytes rec room ≡ refused_at k 1
  unfolding run_plan read_plan read_at_of
  run-first e = rw e

  module _ {v : Edition} {n : ℕ} (L : LayoutAt incoming v n) where
    pub run-second : {k : ℕ} → layout target ≡ refuse k → run_plan incoming target bytes rec room ≡ refused_at k 2
    unfolding run_plan read_plan read_at_of
    run-second e = rw (L.reads, e)

    module _ {w : Edition} {m : ℕ} (M : LayoutAt target w m) where
      pub run-third : {k : ℕ} → plan bytes ≡ refuse k → run_plan incoming target bytes rec room ≡ refused_at k 0
      unfolding run_plan read_plan read_at_of
      run-third e = rw (L.reads, M.reads, e)

      pub run-checked : {ss : Selectors} {k : ℕ} → plan bytes ≡ ok ss k → run_plan incoming target bytes rec room ≡ checked_run L.columns.columns
          M.columns.columns ss rec room
      unfolding run_plan read_plan read_at_of
      run-checked e = rw (L.reads, M.reads, e)

-- ---- the last test

pub finished-written : {w : Written} {n : ℕ} → w ≡ Written.Written n → WriteResult.Written n ≡ finished w
finished-written e = sym (ap finished e)

pub finished-long : {w : Written} → w ≡ Written.TooLong → WriteResult.Refused 45 0 ≡ finished w
finished-long e = sym (ap finished e)
