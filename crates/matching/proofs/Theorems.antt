-- Demand 3, from "Every plan that either builder writes" on: the theorems, each under the sentence that it states.
-- Assumes nothing.
use Prim.Native.Nat.{ℕ, ◌≤◌}
use mathlib.Core.Path.{◌≡◌, ap}
use mathlib.Core.Logic.{◌↔◌}
use native.Mathlib.Omega.{arith}
use lib.ListN.{length}
use Rattle.layout.specs.Parser.{ok}
use Rattle.layout.specs.Tree.{Label, ColumnType, Columns, fields_of}
use Rattle.layout.specs.Find.{present, column_at}
use Rattle.layout.specs.declared.columns.Position.{Position}
use Rattle.layout.specs.declared.matching.Matching.{Matching}
use Rattle.layout.specs.declared.matching.Matching.TheVariants.{ByName}
use Rattle.rules.specs.declared.policy.Policy.{Policy}
use Rattle.values.specs.Value.{Values}
use Rattle.values.specs.Fits.{FitsAll}
use Rattle.plan.specs.Result.{demand, accepted, placed, answered}
use Rattle.plan.specs.Selector.{Selector, Selectors, nesting_all}
use Rattle.plan.specs.Encode.{encode_plan}
use Rattle.plan.specs.Read.{plan, longest_plan}
use Rattle.plan.specs.Check.{check}
use Rattle.plan.specs.Marks.{check_marked}
use Rattle.plan.specs.Run.{evals, written, run}
use Rattle.plan.specs.Reach.{SelectorAt}
use Rattle.plan.specs.code.Formed.{FormedAll}
use Rattle.plan.proofs.Typed.{typed→passed}
use Rattle.plan.proofs.Theorems.{written_read}
use Rattle.matching.specs.Default.{Defaults}
use Rattle.matching.specs.Build.{build}
use Rattle.matching.specs.Due.{dues}
use Rattle.matching.specs.Untouched.{Untouched, EqualType}
use Rattle.matching.proofs.Attach.{build→}
use Rattle.matching.proofs.Untouched.{column-untouched}
use Rattle.matching.proofs.Limits.{LayoutLimits}
use Rattle.matching.proofs.Fitting.{Good}
use Rattle.matching.proofs.Passes.{attach_all_typed}
use Rattle.matching.proofs.Marked.{attach_all_meets}
use Rattle.matching.proofs.Right.{attach_all_due}
use Rattle.matching.proofs.Nesting.{attach_all_nests, attached_count, attach_all_formed}

-- `LayoutLimits` holds of the columns of every layout that was read (`layout_limits`); `Good` of every table that was
-- read (`table_good`) and of none (`Good-none`). Calls.antt has the same for the calls over bytes, where neither is
-- left.
module _ (v : Matching) (p : Policy) (d : Defaults) (Γ Δ : Columns) {ss : Selectors} (built : build v p d Γ Δ ≡ accepted ss) where
  -- its types pass the check, up to 33
  build-types : Good d → LayoutLimits Δ → check (fields_of Γ) (fields_of Δ) ss ≡ accepted tt
  build-types g z = typed→passed (attach_all_typed v (build→ v p d Γ Δ built) g z.within)

  -- "Every plan that either builder writes passes this check between its own two layouts", with 55 (document 02, L5)
  pub build-passes : Good d → LayoutLimits Δ → check_marked Γ Δ ss ≡ accepted tt
  unfolding check_marked answered placed demand
  build-passes g z = rw (build-types g z, attach_all_meets v (build→ v p d Γ Δ built))

  -- "For every record that fits the incoming one, the run of such a plan between these same two .. writes exactly the
  -- record that document 01 calls due": its values are those due,
  pub build-due : {ρ : Values} → FitsAll (fields_of Γ) ρ → evals ρ ss ≡ dues v d Δ Γ ρ
  build-due h = attach_all_due v (build→ v p d Γ Δ built) h

  -- and the run's answer, 44 and 45 included, is that of the values due.
  pub build_runs : {ρ : Values} → FitsAll (fields_of Γ) ρ → (room : ℕ) → run ρ ss room ≡ written (dues v d Δ Γ ρ) room
  unfolding run
  build_runs h room = ap (λ (vs : Values). written vs room) (build-due h)

  -- The answer to a built plan is never 30: its selectors are not "nested over 64",
  pub build-nests : LayoutLimits Δ → nesting_all ss ≤ 33
  build-nests z = let h = attach_all_nests v (build→ v p d Γ Δ built) in let w = z.within.deep in omega arith

  -- have no "type or value that breaks its rule",
  pub build_formed : Good d → LayoutLimits Γ → LayoutLimits Δ → FormedAll ss
  build_formed g y z = attach_all_formed v (build→ v p d Γ Δ built) g y.count y.readable z.readable z.within.deep z.names

  -- and within 65,536 bytes (27) they are read back.
  pub build-reads : Good d → LayoutLimits Γ → LayoutLimits Δ → length (encode_plan ss) ≤ longest_plan → plan (encode_plan ss) ≡ ok ss (length (encode_plan ss))
  build-reads g y z l =
      let c = attached_count v (build→ v p d Γ Δ built) in
      let n = build-nests z in
      let k = z.count in
      written_read (build_formed g y z) (omega arith) (omega arith) l

module _ (p : Policy) (d : Defaults) (Γ Δ : Columns) {ss : Selectors} (built : build ByName p d Γ Δ ≡ accepted ss) where
  -- "Matched by name, a built plan leaves a target column untouched exactly when the incoming column of that name has
  -- an equal type." The target column at the position j has the label b and the type u; its selector is s.
  pub build-untouched : (j : Position) {k : Position} {b : Label} {u : ColumnType} {s : Selector} → column_at j Δ ≡ present k b u → SelectorAt ss j.0
      s → Untouched Γ b s ↔ EqualType Γ b u
  build-untouched j e x = column-untouched 0 j.0 (omega arith) (build→ ByName p d Γ Δ built) x e
