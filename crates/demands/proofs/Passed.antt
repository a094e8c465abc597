-- The run of a plan that passed the check, from bytes. Assumes nothing.
use Prim.Native.Nat.{ℕ}
use mathlib.Core.Path.{◌≡◌, refl, sym, ap, ◌∙◌}
use mathlib.Core.Bool.{Bool, true, false}
use mathlib.Core.Logic.{◌↔◌, ◌⊎◌, inl, inr}
use native.Mathlib.Omega.{arith}
use lib.ListN.{length}
use lib.Dec.{leb}
use borrow.Author.Tests.{leb-true}
use Rattle.layout.specs.Bytes.{Bytes, AllBytes}
use Rattle.layout.specs.Parser.{Res, ok}
use Rattle.layout.specs.Tree.{Layout, Columns, fields_of}
use Rattle.layout.specs.Layout.{layout}
use Rattle.layout.proofs.Ways.{clash}
use Rattle.values.specs.Value.{Values}
use Rattle.values.specs.Filled.{required_of, FilledAll}
use Rattle.values.specs.Record.{record_of, record_marked}
use Rattle.values.proofs.Round.{record_back, record_forth}
use Rattle.values.proofs.Kept.{record_kept}
use Rattle.plan.specs.Result.{Answer, accepted, refused_at, answered}
use Rattle.plan.specs.Read.{plan}
use Rattle.plan.specs.Selector.{Selectors}
use Rattle.plan.specs.Check.{check}
use Rattle.plan.specs.Marks.{check_marked}
use Rattle.plan.specs.Run.{evals, spacious, run}
use Rattle.plan.specs.Reach.{ReachesOverflow}
use Rattle.plan.specs.Calls.{read_at_of, read_plan, check_plan_of, run_plan}
use Rattle.plan.proofs.Results.{both, answered-accepted}
use Rattle.plan.proofs.ReadBack.{plan_back}
use Rattle.plan.proofs.Sound.{passed-filled}
use Rattle.plan.proofs.Theorems.{Runs, bytes_run}
use Rattle.matching.proofs.Calls.{read_at}
use Rattle.demands.specs.Stated.{FitsLayout, SelectorsOf, output, Running}

-- both layouts and the plan, and that the check over trees passed
pub record Passed (incoming target bytes : Bytes) : Type 0 where
  pub from : Layout
  pub to : Layout
  pub from_end : ℕ
  pub to_end : ℕ
  pub from_reads : layout incoming ≡ ok from from_end
  pub to_reads : layout target ≡ ok to to_end
  pub plan : SelectorsOf bytes
  pub passes : check_marked from.columns to.columns plan.selectors ≡ accepted tt

pub passed : (incoming target bytes : Bytes) → check_plan_of incoming target bytes ≡ accepted tt → Passed incoming target bytes
unfolding check_plan_of read_plan
passed incoming target bytes e =
    let (a, m, p, e) = read_at 1 (layout incoming) _ e in
    let (b, n, q, e) = read_at 2 (layout target) _ e in
    let (ss, k, r, e) = read_at 0 (plan bytes) _ e in
    record { from = a; to = b; from_end = m; to_end = n; from_reads = p; to_reads = q; plan = record { selectors = ss; end = k; reads = r }; passes = e }

-- the types pass, up to 33
types_pass : (Γ Δ : Columns) (ss : Selectors) → check_marked Γ Δ ss ≡ accepted tt → check (fields_of Γ) (fields_of Δ) ss ≡ accepted tt
unfolding check_marked
types_pass Γ Δ ss e = (answered-accepted _ _ e).1

-- the run of what passed, over a record that was read
run_is : {incoming target bytes : Bytes} (P : Passed incoming target bytes) (rec : Bytes) {ρ : Values} {k : ℕ} → record_marked required_of
    P.from.columns rec ≡ ok ρ k → (room : ℕ)
    → run_plan incoming target bytes rec room ≡ run ρ P.plan.selectors room
unfolding run_plan read_plan read_at_of answered
run_is P rec r room = rw (P.from_reads, P.to_reads, P.plan.reads, P.passes, r)

pub ok_eq : {A : Type 0} {x : Res A} {a b : A} {m n : ℕ} → x ≡ ok a m → x ≡ ok b n → a ≡ b
ok_eq p q = cc

-- a layout reads as one
same_read : {incoming target bytes rec : Bytes} (P : Passed incoming target bytes) (F : FitsLayout incoming rec) → record_marked required_of
    P.from.columns rec ≡ ok F.values F.end
same_read {rec = rec} P F = ap (λ (l : Layout). record_marked required_of l.columns rec) (ok_eq P.from_reads F.layout_reads) ∙ F.reads

module _ (incoming target bytes rec : Bytes) (ob : AllBytes bytes) (or : AllBytes rec) (passes : check_plan_of incoming target bytes ≡ accepted tt)
    (F : FitsLayout incoming rec) (room : ℕ) where
  P : Passed incoming target bytes
  P = passed incoming target bytes passes

  -- without the marks, and that there is no null in a required field
  unmarked-read : (record_of (fields_of P.from.columns) rec ≡ ok F.values F.end) × FilledAll required_of P.from.columns F.values
  unmarked-read = (record_kept required_of rec P.from.columns).forth F.values F.end (same_read P F)

  runs : Runs (fields_of P.to.columns) F.values P.plan.selectors room
  runs = bytes_run (fields_of P.from.columns) (fields_of P.to.columns) bytes rec ob or P.plan.reads unmarked-read.0
      (types_pass _ _ _ P.passes) room

  -- "An accepted plan must never give null to a required field" (document 02, L5)
  output-filled : FilledAll required_of P.to.columns (evals F.values P.plan.selectors)
  output-filled =
      passed-filled P.to.columns (plan_back bytes ob P.plan.reads).formed P.passes
      (record_back (fields_of P.from.columns) rec or F.values F.end unmarked-read.0).fits unmarked-read.1

  is : run_plan incoming target bytes rec room ≡ run F.values P.plan.selectors room
  is = run_is P rec (same_read P F) room

  -- the output's bytes are read as its values, 56 tested
  output-reads : (ReachesOverflow F.values P.plan.selectors → ⊥) → spacious room (output F.values P.plan.selectors) ≡ true
      → record_marked required_of P.to.columns (output F.values P.plan.selectors) ≡ ok (evals F.values P.plan.selectors)
      (length (output F.values P.plan.selectors))
  unfolding spacious
  output-reads n s =
      let (w, (f, r)) = runs.writes n s in
      let l = leb-true _ _ (both (leb (length (output F.values P.plan.selectors)) room) s).1 in
      (record_kept required_of (output F.values P.plan.selectors) P.to.columns).back _ _ (record_forth f l) output-filled

  writes : (ReachesOverflow F.values P.plan.selectors → ⊥) → spacious room (output F.values P.plan.selectors) ≡ true
      → (run_plan incoming target bytes rec room ≡ accepted (output F.values P.plan.selectors)) × FitsLayout target
      (output F.values P.plan.selectors)
  writes n s = (
    is ∙ (runs.writes n s).0,
    record { read = P.to; layout_end = P.to_end; layout_reads = P.to_reads; values = _; end = _; reads = output-reads n s },
  )

  exceeds : (ReachesOverflow F.values P.plan.selectors → ⊥) → spacious room (output F.values P.plan.selectors) ≡ false
      → run_plan incoming target bytes rec room ≡ refused_at 45 0
  exceeds n s = is ∙ runs.exceeds n s

  only : (run_plan incoming target bytes rec room ≡ refused_at 44 0)
      ⊎ ((run_plan incoming target bytes rec room ≡ refused_at 45 0) ⊎ ((b : Bytes) × (run_plan incoming target bytes rec room ≡ accepted b) × FitsLayout
      target b))
  only = go runs.reached (spacious room (output F.values P.plan.selectors)) refl
    where
      go : Dec (ReachesOverflow F.values P.plan.selectors) → (s : Bool) → spacious room (output F.values P.plan.selectors) ≡ s
          → (run_plan incoming target bytes rec room ≡ refused_at 44 0)
          ⊎ ((run_plan incoming target bytes rec room ≡ refused_at 45 0) ⊎ ((b : Bytes) × (run_plan incoming target bytes rec room ≡ accepted b) ×
          FitsLayout target b))
      go (yes r) s e = inl (is ∙ runs.overflow.1 r)
      go (no n) true e = inr (inr (output F.values P.plan.selectors, (writes n e).0, (writes n e).1))
      go (no n) false e = inr (inl (exceeds n e))

  pub passed_runs : Running incoming target bytes rec F room
  passed_runs = record {
    plan = P.plan;
    overflow = (λ e. runs.overflow.0 (sym is ∙ e), λ r. is ∙ runs.overflow.1 r);
    writes = writes;
    exceeds = exceeds;
    only = only;
  }

pub number_eq : {A : Type 0} {m n j k : ℕ} → ◌≡◌ {A = Answer A} (refused_at m j) (refused_at n k) → m ≡ n
number_eq e = cc

module _ {incoming target bytes rec : Bytes} {F : FitsLayout incoming rec} {room : ℕ} (R : Running incoming target bytes rec F room) where
  pub exceeds_exactly : (run_plan incoming target bytes rec room ≡ refused_at 45 0)
      ↔ ((ReachesOverflow F.values R.plan.selectors → ⊥) × (spacious room (output F.values R.plan.selectors) ≡ false))
  exceeds_exactly = (to, λ (n, s). R.exceeds n s)
    where
      unreached : run_plan incoming target bytes rec room ≡ refused_at 45 0 → ReachesOverflow F.values R.plan.selectors → ⊥
      unreached e r = omega (arith, number_eq (sym e ∙ R.overflow.1 r))

      short : (ReachesOverflow F.values R.plan.selectors → ⊥) → run_plan incoming target bytes rec room ≡ refused_at 45 0 → (s : Bool) → spacious
          room (output F.values R.plan.selectors) ≡ s
          → spacious room (output F.values R.plan.selectors) ≡ false
      short n e true q = let w = (R.writes n q).0 in clash (cc)
      short n e false q = q

      to : run_plan incoming target bytes rec room ≡ refused_at 45 0 → (ReachesOverflow F.values R.plan.selectors → ⊥) ×
          (spacious room (output F.values R.plan.selectors) ≡ false)
      to e = (unreached e, short (unreached e) e (spacious room (output F.values R.plan.selectors)) refl)
