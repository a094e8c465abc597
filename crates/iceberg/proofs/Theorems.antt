-- Demand 2, "by field number, matching and defaults are proved to be the Iceberg table specification's, each difference
-- listed", over trees. Assumes nothing.
use Prim.Native.Nat.{ℕ}
use mathlib.Core.Path.{◌≡◌}
use mathlib.Core.Bool.{Bool}
use mathlib.Core.List.{List, []}
use Rattle.layout.specs.Tree.{Columns, fields_of}
use Rattle.layout.specs.declared.columns.FieldId.{FieldId}
use Rattle.layout.specs.declared.matching.Matching.TheVariants.{ByNumber}
use Rattle.rules.specs.declared.policy.Policy.{Policy}
use Rattle.values.specs.Value.{Values}
use Rattle.values.specs.Fits.{FitsAll}
use Rattle.defaults.specs.Table.{Entry}
use Rattle.defaults.specs.Lookup.{get_default_value}
use Rattle.plan.specs.Result.{accepted}
use Rattle.plan.specs.Selector.{Selectors}
use Rattle.plan.specs.Run.{evals}
use Rattle.matching.specs.Build.{build}
use Rattle.matching.specs.Due.{due_leaf}
use Rattle.iceberg.specs.Specification.{ReadsAll}
use Rattle.iceberg.specs.Differences.{Differences, outside, ReadsAll', AllRead, AgreesAll}
use Rattle.iceberg.specs.Stated.{stated}
use Rattle.iceberg.proofs.Selecting.{null-due}
use Rattle.iceberg.proofs.Distinct.{DistinctIdsAll}
use Rattle.iceberg.proofs.Reading.{built-reads}
use Rattle.iceberg.proofs.Specified.{all_specified}
use Rattle.iceberg.proofs.OneReading.{all_one, all'_one}
use Rattle.iceberg.proofs.Agreeing.{all_none}

-- for every accepted build and every record that fits; whether a null partition value is present and which fields
-- default to `{}` or `[]` is free
module _ (p : Policy) (nulls : Bool) (es : List Entry) (k : ℕ) (empties : FieldId → Bool) (Γ Δ : Columns) {ss : Selectors}
    (built : build ByNumber p (get_default_value es k) Γ Δ ≡ accepted ss)
    {ρ : Values} (h : FitsAll (fields_of Γ) ρ) where
  -- (a) what is run reads by the specification's rules, but for the differences that the reading names,
  pub build-reads : AllRead due_leaf (stated nulls es k empties) outside Δ Γ ρ (evals ρ ss)
  build-reads = built-reads nulls es k empties p Γ Δ built h

  -- (b) where it names none, by the specification's rules alone,
  pub build_projects : build-reads.differences ≡ [] → ReadsAll due_leaf (stated nulls es k empties) Δ Γ ρ (evals ρ ss)
  build_projects e = all_specified due_leaf (stated nulls es k empties) build-reads.reads e

  -- (c) and there is no other reading, with these or other differences; `DistinctIdsAll` holds of the columns of every
  -- layout of version 2 or 3 that was read (`layout-distinct`).
  pub build-reads-only : DistinctIdsAll Γ → {ds : Differences} {ys : Values} → ReadsAll' due_leaf (stated nulls es k empties) outside ds Δ Γ ρ ys
      → (ds ≡ build-reads.differences) × (ys ≡ evals ρ ss)
  build-reads-only d r = all'_one due_leaf (stated nulls es k empties) null-due d r build-reads.reads

  -- the specification has no other
  pub build_projects_only : DistinctIdsAll Γ → build-reads.differences ≡ [] → {ys : Values} → ReadsAll due_leaf (stated nulls es k empties) Δ Γ ρ ys
      → ys ≡ evals ρ ss
  build_projects_only d e r = all_one due_leaf (stated nulls es k empties) null-due d r (build_projects e)

  -- where the columns agree, no record meets a difference: the plan is the specification's
  pub build-agrees : DistinctIdsAll Γ → AgreesAll (stated nulls es k empties) outside Δ Γ → ReadsAll due_leaf (stated nulls es k empties) Δ Γ ρ (evals ρ ss)
  build-agrees d a = build_projects (all_none due_leaf (stated nulls es k empties) build-reads.reads a d)
