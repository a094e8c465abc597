-- 53 from bytes: exactly where a column is extra under Raise. Assumes nothing.
use Prim.Native.Nat.{ℕ}
use mathlib.Core.Path.{◌≡◌, refl, sym, ap, ◌∙◌}
use mathlib.Core.Bool.{Bool, true, false}
use native.Mathlib.Omega.{arith}
use Rattle.layout.specs.Bytes.{Bytes}
use Rattle.layout.specs.Tree.{Columns, count_columns}
use Rattle.layout.specs.declared.matching.Matching.{Matching}
use Rattle.layout.specs.declared.matching.Matching.TheVariants.{ByName, ByNumber}
use Rattle.layout.proofs.Ways.{clash}
use Rattle.rules.specs.declared.policy.Policy.{Policy}
use Rattle.rules.specs.declared.policy.ExtraColumnsPolicy.TheVariants.{Ignore, Raise}
use Rattle.plan.specs.Result.{gives, demand, Answer, accepted, refused_at, placed, answered}
use Rattle.plan.specs.Encode.{encode_plan}
use Rattle.plan.specs.Selector.{Selectors}
use Rattle.plan.specs.Calls.{read_at_of}
use Rattle.plan.proofs.Results.{true≠false}
use Rattle.defaults.specs.Table.{entries_of, table}
use Rattle.defaults.specs.Lookup.{get_default_value}
use Rattle.matching.specs.Default.{Defaults, no_defaults}
use Rattle.matching.specs.Build.{extra_columns, build_from, build}
use Rattle.matching.specs.Calls.{of_edition, both_layouts, room_for, written_plan, build_by_name, build_by_number}
use Rattle.matching.specs.Extra.{FirstExtra}
use Rattle.values.specs.Filled.{required_of}
use Rattle.values.proofs.Unmarked.{UnmarkedAll}
use Rattle.matching.proofs.Extra.{columns-refused, build_raised, build_ignoring}
use Rattle.demands.specs.Refusals.{is_in, column_refusals}
use Rattle.demands.specs.Stated.{ExtraColumn, NumberExtraColumn}
use Rattle.demands.proofs.Refusing.{Answers, in_accepted, in_refused_at, ColumnRefusal}
use Rattle.demands.proofs.Numbers.{DefaultsIn, none_in, lookup_in, from_in}
use Rattle.demands.proofs.Passed.{number_eq}
use Rattle.demands.proofs.Built.{layouts_past, named_unmarked, table-past}

-- ---- no other part of a build refuses with 53

written-length : (space : ℕ) (ss : Selectors) {n k : ℕ} → written_plan space ss ≡ refused_at n k → n ≡ 27
unfolding written_plan placed demand
written-length space ss {n} {k} e = go (room_for space (encode_plan ss)) e
  where
    go : (b : Bool) → placed 0 (demand b 27 (gives (encode_plan ss))) (λ b. accepted b) ≡ refused_at n k → n ≡ 27
    go true e = clash (cc)
    go false e = sym (number_eq e)

no_column : (v : Matching) → is_in 53 (column_refusals v) ≡ false
unfolding is_in
no_column ByName = refl
no_column ByNumber = refl

unextra : (v : Matching) (space : ℕ) {columns k : ℕ} {x : Answer Selectors} → Answers (λ ss. Unit {0}) (ColumnRefusal (column_refusals v) columns) x
    → answered x (λ ss. written_plan space ss) ≡ refused_at 53 k → ⊥
unfolding answered
unextra v space (in_accepted {a = ss} u) e = absurd (omega (arith, written-length space ss e))
unextra v space (in_refused_at R) e = true≠false (ap (λ (m : ℕ). is_in m (column_refusals v)) (sym (number_eq e)) ∙ R.among) (no_column v)

module _ (v : Matching) (p : Policy) (space : ℕ) where
  raised : (d : Defaults) → DefaultsIn (column_refusals v) d → (a b : Columns) {k : ℕ} → (v ≡ ByName → UnmarkedAll required_of b) → answered
      (build v p d a b) (λ ss. written_plan space ss) ≡ refused_at 53 k
      → (p.extra_columns ≡ Raise) × FirstExtra v b a 0 k
  unfolding build answered
  raised d o a b {k} m e = go (extra_columns p.extra_columns v a b) refl e
    where
      go : (x : Answer (Unit {0})) → extra_columns p.extra_columns v a b ≡ x
          → answered (answered x (λ u. build_from v p d b a 0)) (λ ss. written_plan space ss) ≡ refused_at 53 k → (p.extra_columns ≡ Raise) × FirstExtra
          v b a 0 k
      go (accepted u) q e = absurd (unextra v space (from_in v p d o a b 0 (count_columns b) (omega arith) m) e)
      go (refused_at n j) q e =
          let (r, (s, f)) = columns-refused p.extra_columns v a b q in
          let z : j ≡ k = cc in
          (r, rw (← z) f)

-- ---- by name

module _ (p : Policy) (incoming target : Bytes) (space : ℕ) where
  pub by_name_raised : {k : ℕ} → build_by_name p incoming target space ≡ refused_at 53 k → ExtraColumn ByName p incoming target k
  unfolding build_by_name is_in
  by_name_raised e =
      let (a, b, q, r, e) = layouts_past ByName incoming target _ refl (λ h. omega (arith, h)) e in
      let (s, f) = raised ByName p space no_defaults (none_in (column_refusals ByName)) a b (named_unmarked ByName r) e in
      record { from = a; to = b; incoming_read = q; target_read = r; raises = s; first = f }

  pub by_name_raises : {k : ℕ} → ExtraColumn ByName p incoming target k → build_by_name p incoming target space ≡ refused_at 53 k
  unfolding build_by_name both_layouts of_edition read_at_of placed demand answered
  by_name_raises E =
      let I = E.incoming_read in
      let T = E.target_read in
      rw (I.reads, T.reads, I.taken, T.taken, build_raised ByName p no_defaults E.from E.to E.raises E.first)

  pub name_ignoring : p.extra_columns ≡ Ignore
      → build_by_name p incoming target space ≡ both_layouts ByName incoming target (λ a b. answered (build_from ByName p no_defaults b a 0)
      (λ ss. written_plan space ss))
  unfolding build_by_name
  name_ignoring h =
      ap (both_layouts ByName incoming target)
      (λ i a b. answered (build_ignoring ByName p no_defaults a b h i) (λ ss. written_plan space ss))

-- ---- by number

module _ (p : Policy) (index owner : ℕ) (incoming target defaults : Bytes) (space : ℕ) where
  pub by_number_raised : {k : ℕ} → build_by_number p index owner incoming target defaults space ≡ refused_at 53 k → NumberExtraColumn p incoming target defaults k
  unfolding build_by_number is_in
  by_number_raised e =
      let (a, b, q, r, e) = layouts_past ByNumber incoming target _ refl (λ h. omega (arith, h)) e in
      let (x, j, t, e) = table-past defaults _ refl e in
      let es = entries_of owner x.entries in
      let (s, f) = raised ByNumber p space (get_default_value es index) (lookup_in es index) a b (named_unmarked ByNumber r) e in
      record {
        tree = x;
        end = j;
        reads = t;
        column = record { from = a; to = b; incoming_read = q; target_read = r; raises = s; first = f };
      }

  pub by_number-raises : {k : ℕ} → NumberExtraColumn p incoming target defaults k → build_by_number p index owner incoming target defaults space ≡ refused_at 53 k
  unfolding build_by_number both_layouts of_edition read_at_of placed demand answered
  by_number-raises N =
      let E = N.column in
      let I = E.incoming_read in
      let T = E.target_read in
      rw (
        I.reads,
        T.reads,
        I.taken,
        T.taken,
        N.reads,
        build_raised ByNumber p (get_default_value (entries_of owner N.tree.entries) index)
            E.from E.to E.raises E.first,
      )

  pub number_ignoring : p.extra_columns ≡ Ignore
      → build_by_number p index owner incoming target defaults space
      ≡ both_layouts ByNumber incoming target (λ a b. read_at_of 3 (table defaults) (λ t.
      answered (build_from ByNumber p (get_default_value (entries_of owner t.entries) index) b a 0) (λ ss. written_plan space ss)))
  unfolding build_by_number
  number_ignoring h =
      ap (both_layouts ByNumber incoming target)
      (λ i a b. read_at_of 3 (table defaults) (λ t. answered (build_ignoring ByNumber p (get_default_value (entries_of owner t.entries) index) a b h i)
      (λ ss. written_plan space ss)))
