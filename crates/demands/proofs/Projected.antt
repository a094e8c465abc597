-- Demand 2, by field number, over bytes. Assumes nothing.
use Prim.Native.Nat.{ℕ, ◌≤◌}
use mathlib.Core.Path.{◌≡◌, refl, sym, ap, ◌∙◌}
use mathlib.Core.Bool.{Bool, true, false}
use mathlib.Core.List.{List, []}
use mathlib.Core.Logic.{◌⊎◌, inl, inr}
use lib.ListN.{length}
use lib.Dec.{leb}
use borrow.Author.Tests.{leb-true}
use Rattle.layout.specs.Bytes.{Bytes, AllBytes}
use Rattle.layout.specs.Parser.{ok}
use Rattle.layout.specs.Tree.{Layout, Columns, Fields, fields_of}
use Rattle.layout.specs.declared.columns.FieldId.{FieldId}
use Rattle.layout.specs.declared.matching.Matching.TheVariants.{ByNumber}
use Rattle.layout.proofs.Ways.{clash}
use Rattle.rules.specs.declared.policy.Policy.{Policy}
use Rattle.values.specs.Value.{Values}
use Rattle.values.specs.Encode.{encode_values}
use Rattle.values.specs.Record.{record_of}
use Rattle.values.specs.Filled.{required_of}
use Rattle.values.proofs.Round.{record_forth}
use Rattle.values.proofs.Kept.{record_kept}
use Rattle.plan.specs.Result.{gives, demand, Answer, accepted, refused_at, placed, answered}
use Rattle.plan.specs.Encode.{encode_plan}
use Rattle.plan.specs.Selector.{Selectors}
use Rattle.plan.specs.Run.{evals, spacious, run}
use Rattle.plan.specs.Reach.{ReachesOverflow}
use Rattle.plan.specs.Calls.{read_at_of, run_plan}
use Rattle.plan.proofs.Results.{accepted_eq, both}
use Rattle.plan.proofs.Theorems.{Runs}
use Rattle.defaults.specs.Table.{Entry, entries_of, TableTree, table}
use Rattle.defaults.specs.Lookup.{get_default_value}
use Rattle.matching.specs.Default.{Defaults}
use Rattle.matching.specs.Build.{build}
use Rattle.matching.specs.Calls.{takes, of_edition, ReadFor, both_layouts, room_for, written_plan, build_by_number}
use Rattle.matching.specs.Due.{due_leaf}
use Rattle.matching.proofs.Calls.{Built, by_number-built, built_runs}
use Rattle.iceberg.specs.Specification.{ReadsAll}
use Rattle.iceberg.specs.Differences.{Differences, outside, ReadsAll', AllRead, AgreesAll}
use Rattle.iceberg.specs.Stated.{stated}
use Rattle.iceberg.specs.Refusals.{RefusesBuild}
use Rattle.iceberg.proofs.Selecting.{null-due}
use Rattle.iceberg.proofs.Distinct.{DistinctIdsAll, layout-distinct}
use Rattle.iceberg.proofs.Specified.{all_specified}
use Rattle.iceberg.proofs.OneReading.{all_one, all'_one}
use Rattle.iceberg.proofs.Agreeing.{all_none}
use Rattle.iceberg.proofs.Theorems.{build-reads}
use Rattle.iceberg.proofs.Refusing.{build-refused}
use Rattle.demands.specs.Stated.{FitsLayout, columns_of_of}
use Rattle.demands.proofs.Passed.{ok_eq, number_eq}
use Rattle.demands.proofs.Built.{from_eq, record_fits, run_is}

short : (room : ℕ) (b : Bytes) → spacious room b ≡ true → length b ≤ 16384
unfolding spacious
short room b s = leb-true _ _ (both (leb (length b) room) s).1

-- what was written is read as the values that the selectors give
module _ {Δ : Fields} {ρ : Values} {ss : Selectors} {room : ℕ} (R : Runs Δ ρ ss room) {out : Bytes} (ran : run ρ ss room ≡ accepted out) where
  output-reads : record_of Δ out ≡ ok (evals ρ ss) (length (encode_values (evals ρ ss)))
  output-reads = go R.reached (spacious room (encode_values (evals ρ ss))) refl
    where
      go : Dec (ReachesOverflow ρ ss) → (s : Bool) → spacious room (encode_values (evals ρ ss)) ≡ s
          → record_of Δ out ≡ ok (evals ρ ss) (length (encode_values (evals ρ ss)))
      go (yes r) s e = let w = R.overflow.1 r in clash (cc)
      go (no n) true e =
          let (w, (f, r)) = R.writes n e in
          ap (record_of Δ) (accepted_eq (sym ran ∙ w)) ∙ record_forth f (short room _ e)
      go (no n) false e = let w = R.exceeds n e in clash (cc)

module _ {p : Policy} {d : Defaults} {incoming target bytes rec : Bytes} (B : Built ByNumber p d incoming target bytes) (or : AllBytes rec)
    (F : FitsLayout incoming rec) where
  incoming-distinct : DistinctIdsAll (columns_of_of F)
  incoming-distinct =
      let I = B.incoming_read in
      layout-distinct incoming F.layout_reads (ap (λ (l : Layout). takes ByNumber l.edition) (ok_eq F.layout_reads I.reads) ∙ I.taken)

  module _ (room : ℕ) {out : Bytes} (ran : run_plan incoming target bytes rec room ≡ accepted out) (G : FitsLayout target out) where
    to-eq : columns_of_of G ≡ B.to
    to-eq = ap (λ (l : Layout). l.columns) (ok_eq G.layout_reads B.target_read.reads)

    output-is : G.values ≡ evals F.values B.selectors
    output-is =
        ok_eq (ap (λ (cs : Columns). record_of (fields_of cs) out) (sym to-eq) ∙ ((record_kept required_of out (columns_of_of G)).forth G.values G.end
        G.reads).0)
        (output-reads (built_runs B (record_fits B or F) room) (sym (run_is B or F room) ∙ ran))

-- For every plan that `build_by_number` writes, with the owner's entries of the defaults table that was read, and every
-- record that fits the incoming layout: where the run accepts, the record that it writes, read with the target's
-- layout, is the reading of the row. (That it fits the target's layout is `run_passed`, Demands.antt.) Whether a null
-- partition value is present and which fields default to `{}` or `[]` is free.
module _ (p : Policy) (index owner : ℕ) (incoming target defaults rec : Bytes) (oi : AllBytes incoming) (ot : AllBytes target) (od : AllBytes defaults)
    (or : AllBytes rec) (space : ℕ) {bytes : Bytes} (built : build_by_number p index owner incoming target defaults space ≡ accepted bytes)
    (t : TableTree) {e : ℕ} (read : table defaults ≡ ok t e) (F : FitsLayout incoming rec) (room : ℕ) {out : Bytes}
    (ran : run_plan incoming target bytes rec room ≡ accepted out) (G : FitsLayout target out) (nulls : Bool) (empties : FieldId → Bool) where
  -- (a) It reads by the specification's rules, but for the listed differences that the reading names,
  pub by_number-reads : AllRead due_leaf (stated nulls (entries_of owner t.entries) index empties) outside (columns_of_of G) (columns_of_of F) F.values G.values
  by_number-reads =
      let N = by_number-built p index owner incoming target defaults space oi ot od built in
      let B = N.built in
      let x : t ≡ N.tree = ok_eq read N.table_read in
      rw (x, to-eq B or F room ran G, from_eq B or F, output-is B or F room ran G)
      (build-reads p nulls (entries_of owner N.tree.entries) index empties B.from B.to B.built (record_fits B or F))

  -- (b) where it names none, by the specification's alone,
  pub by_number_projects : by_number-reads.differences ≡ []
      → ReadsAll due_leaf (stated nulls (entries_of owner t.entries) index empties) (columns_of_of G) (columns_of_of F) F.values G.values
  by_number_projects e = all_specified due_leaf (stated nulls (entries_of owner t.entries) index empties) by_number-reads.reads e

  distinct : DistinctIdsAll (columns_of_of F)
  distinct = incoming-distinct (by_number-built p index owner incoming target defaults space oi ot od built).built or F

  -- (c) and there is no other reading, with these or other differences;
  pub by_number-reads-only : {ds : Differences} {ys : Values}
      → ReadsAll' due_leaf (stated nulls (entries_of owner t.entries) index empties) outside ds (columns_of_of G) (columns_of_of F) F.values ys
      → (ds ≡ by_number-reads.differences) × (ys ≡ G.values)
  by_number-reads-only r = all'_one due_leaf (stated nulls (entries_of owner t.entries) index empties) null-due distinct r by_number-reads.reads

  -- the specification has no other, either.
  pub by_number_projects_only : by_number-reads.differences ≡ [] → {ys : Values}
      → ReadsAll due_leaf (stated nulls (entries_of owner t.entries) index empties) (columns_of_of G) (columns_of_of F) F.values ys → ys ≡ G.values
  by_number_projects_only e r = all_one due_leaf (stated nulls (entries_of owner t.entries) index empties) null-due distinct r (by_number_projects e)

  -- Where the columns agree, no record meets a difference.
  pub by_number-agrees : AgreesAll (stated nulls (entries_of owner t.entries) index empties) outside (columns_of_of G) (columns_of_of F)
      → ReadsAll due_leaf (stated nulls (entries_of owner t.entries) index empties) (columns_of_of G) (columns_of_of F) F.values G.values
  by_number-agrees a = by_number_projects (all_none due_leaf (stated nulls (entries_of owner t.entries) index empties) by_number-reads.reads a distinct)

-- Where the layouts and the table are read and the build is refused, other than for the plan's length (27), it is for a
-- listed reason.
module _ (p : Policy) (index owner : ℕ) (incoming target defaults : Bytes) (space : ℕ) (nulls : Bool) (empties : FieldId → Bool) where
  long-or-listed : {es : List Entry} {Γ Δ : Columns} {n j : ℕ}
      → answered (build ByNumber p (get_default_value es index) Γ Δ) (λ ss. written_plan space ss) ≡ refused_at n j
      → (n ≡ 27) ⊎ RefusesBuild p es (stated nulls es index empties) n Δ Γ
  unfolding answered written_plan placed demand
  long-or-listed {es} {Γ} {Δ} {n} {j} e = go (build ByNumber p (get_default_value es index) Γ Δ) refl e
    where
      long : (b : Bool) (ss : Selectors) → placed 0 (demand b 27 (gives (encode_plan ss))) (λ b. accepted b) ≡ refused_at n j → n ≡ 27
      long true ss e = clash (cc)
      long false ss e = sym (number_eq e)

      go : (x : Answer Selectors) → build ByNumber p (get_default_value es index) Γ Δ ≡ x → answered x (λ ss. written_plan space ss) ≡ refused_at n j
          → (n ≡ 27) ⊎ RefusesBuild p es (stated nulls es index empties) n Δ Γ
      go (accepted ss) h e = inl (long (room_for space (encode_plan ss)) ss e)
      go (refused_at m k) h e = inr (rw (← number_eq e) (build-refused p nulls es index empties Γ Δ h))

  pub by_number-refused : {t : TableTree} {Γ Δ : Columns} {e n j : ℕ} → ReadFor ByNumber incoming Γ → ReadFor ByNumber target Δ → table defaults ≡ ok t e
      → build_by_number p index owner incoming target defaults space ≡ refused_at n j
      → (n ≡ 27) ⊎ RefusesBuild p (entries_of owner t.entries) (stated nulls (entries_of owner t.entries) index empties) n Δ Γ
  unfolding build_by_number both_layouts of_edition read_at_of placed demand
  by_number-refused x y z e = long-or-listed (rw (x.reads, y.reads, x.taken, y.taken, z) at e)
