-- Demand 3 for the calls: what a build that was accepted wrote, over any bytes. Assumes nothing.
use Prim.Native.Nat.{ℕ, ◌≤◌}
use mathlib.Core.Path.{◌≡◌, refl, sym, ap, ◌∙◌}
use mathlib.Core.Bool.{true}
use lib.ListN.{length}
use lib.Dec.{leb}
use borrow.Author.Tests.{leb-true}
use Rattle.layout.specs.Bytes.{Bytes, AllBytes}
use Rattle.layout.specs.Parser.{Res, refuse, ok}
use Rattle.layout.specs.Tree.{Columns, fields_of}
use Rattle.layout.specs.Layout.{layout}
use Rattle.layout.specs.declared.matching.Matching.{Matching}
use Rattle.layout.specs.declared.matching.Matching.TheVariants.{ByName, ByNumber}
use Rattle.layout.proofs.Ways.{clash}
use Rattle.rules.specs.declared.policy.Policy.{Policy}
use Rattle.values.specs.Value.{Values}
use Rattle.values.specs.Fits.{FitsAll}
use Rattle.values.specs.Encode.{encode_values}
use Rattle.values.specs.Record.{RecordFits}
use Rattle.plan.specs.Result.{Answer, accepted, answered}
use Rattle.plan.specs.Selector.{Selectors}
use Rattle.plan.specs.Encode.{encode_plan}
use Rattle.plan.specs.Read.{plan, longest_plan}
use Rattle.plan.specs.Check.{check}
use Rattle.plan.specs.Marks.{check_marked}
use Rattle.plan.specs.Run.{evals, spacious, run}
use Rattle.plan.specs.Reach.{ReachesOverflow}
use Rattle.plan.specs.code.Formed.{FormedAll}
use Rattle.plan.proofs.Results.{both, accepted_eq, gives_eq, demand-gives, placed-accepted, answered-accepted}
use Rattle.defaults.specs.Table.{entries_of, TableTree, table}
use Rattle.defaults.specs.Lookup.{get_default_value}
use Rattle.plan.proofs.Theorems.{Runs, plan_runs}
use Rattle.matching.specs.Default.{Defaults, no_defaults}
use Rattle.matching.specs.Build.{build}
use Rattle.plan.specs.Calls.{read_at_of}
use Rattle.matching.specs.Calls.{takes, of_edition, ReadFor, both_layouts, room_for, written_plan, build_by_name, build_by_number}
use Rattle.matching.specs.Due.{dues}
use Rattle.matching.proofs.Limits.{layout_limits}
use Rattle.matching.proofs.Fitting.{Good, good_none, table_good}
use Rattle.matching.proofs.Theorems.{build-passes, build-due, build_formed, build-reads}

-- what a build that was accepted wrote
pub record Built (v : Matching) (p : Policy) (d : Defaults) (incoming target bytes : Bytes) : Type 0 where
  pub from : Columns
  pub to : Columns
  pub incoming_read : ReadFor v incoming from
  pub target_read : ReadFor v target to
  pub selectors : Selectors
  pub built : build v p d from to ≡ accepted selectors
  pub is : bytes ≡ encode_plan selectors
  pub reads : plan bytes ≡ ok selectors (length bytes)
  pub formed : FormedAll selectors
  pub passes : check_marked from to selectors ≡ accepted tt
  pub due : (ρ : Values) → FitsAll (fields_of from) ρ → evals ρ selectors ≡ dues v d to from ρ

pub read_at : {A B : Type 0} (k : ℕ) (r : Res A) (f : A → Answer B) {b : B} → read_at_of k r f ≡ accepted b → (a : A) × (m : ℕ) × (r ≡ ok a m) × (f a ≡ accepted b)
unfolding read_at_of
read_at k (refuse n) f e = clash (cc)
read_at k (ok a m) f e = (a, m, refl, e)

-- the two layouts that were read
record Both {A : Type 0} (v : Matching) (incoming target : Bytes) (f : Columns → Columns → Answer A) (a : A) : Type 0 where
  from : Columns
  to : Columns
  incoming_read : ReadFor v incoming from
  target_read : ReadFor v target to
  next : f from to ≡ accepted a

both_read : {A : Type 0} (v : Matching) (incoming target : Bytes) (f : Columns → Columns → Answer A) {a : A} → both_layouts v incoming target f ≡ accepted a
    → Both v incoming target f a
unfolding both_layouts of_edition
both_read v incoming target f e =
    let (x, m, p, e) = read_at 1 (layout incoming) _ e in
    let (y, n, q, e) = read_at 2 (layout target) _ e in
    let (u, c, e) = placed-accepted _ _ _ e in
    let (c, h) = demand-gives _ _ _ c in
    let (c, h) = both (takes v x.edition) c in
    record {
      from = x.columns;
      to = y.columns;
      incoming_read = record { edition = x.edition; end = m; reads = p; taken = c };
      target_read = record { edition = y.edition; end = n; reads = q; taken = h };
      next = e;
    }

written_plan_lem : (room : ℕ) (ss : Selectors) {b : Bytes} → written_plan room ss ≡ accepted b → (b ≡ encode_plan ss) × (length (encode_plan ss) ≤ longest_plan)
unfolding written_plan room_for
written_plan_lem room ss e =
    let (x, c, e) = placed-accepted _ _ _ e in
    let (c, g) = demand-gives _ _ _ c in
    (sym (accepted_eq e) ∙ sym (gives_eq g), leb-true _ _ (both (leb (length (encode_plan ss)) room) c).1)

built_of : (v : Matching) (p : Policy) (d : Defaults) (incoming target : Bytes) (room : ℕ) {b : Bytes} {from to : Columns} → AllBytes incoming → AllBytes target
    → Good d → ReadFor v incoming from → ReadFor v target to → answered (build v p d from to) (λ ss. written_plan room ss) ≡ accepted b
    → Built v p d incoming target b
built_of v p d incoming target room {from = from} {to = to} oi ot g i t e =
    let (ss, q, e) = answered-accepted (build v p d from to) _ e in
    let (w, l) = written_plan_lem room ss e in
    let y = layout_limits incoming oi i.reads in
    let z = layout_limits target ot t.reads in
    record {
      from = from;
      to = to;
      incoming_read = i;
      target_read = t;
      selectors = ss;
      built = q;
      is = w;
      reads = ap plan w ∙ (build-reads v p d from to q g y z l ∙ ap (λ (b : Bytes). ok ss (length b)) (sym w));
      formed = build_formed v p d from to q g y z;
      passes = build-passes v p d from to q g z;
      due = λ ρ h. build-due v p d from to q h;
    }

pub by_name_built : (p : Policy) (incoming target : Bytes) (room : ℕ) {b : Bytes} → AllBytes incoming → AllBytes target → build_by_name p incoming target
    room ≡ accepted b → Built ByName p no_defaults incoming target b
unfolding build_by_name
by_name_built p incoming target room oi ot e =
    let B = both_read ByName incoming target _ e in
    built_of ByName p no_defaults incoming target room oi ot good_none B.incoming_read B.target_read B.next

-- the table that was read, and what was built with its entries of an owner
pub record BuiltByNumber (p : Policy) (index owner : ℕ) (incoming target defaults bytes : Bytes) : Type 0 where
  pub tree : TableTree
  pub end : ℕ
  pub table_read : table defaults ≡ ok tree end
  pub built : Built ByNumber p (get_default_value (entries_of owner tree.entries) index) incoming target bytes

pub by_number-built : (p : Policy) (index owner : ℕ) (incoming target defaults : Bytes) (room : ℕ) {b : Bytes} → AllBytes incoming → AllBytes target
    → AllBytes defaults → build_by_number p index owner incoming target defaults room ≡ accepted b → BuiltByNumber p index owner incoming target defaults b
unfolding build_by_number
by_number-built p index owner incoming target defaults room oi ot od e =
    let B = both_read ByNumber incoming target _ e in
    let (t, m, q, e) = read_at 3 (table defaults) _ B.next in
    record {
      tree = t;
      end = m;
      table_read = q;
      built = built_of ByNumber p (get_default_value (entries_of owner t.entries) index) incoming target room oi ot (table_good defaults od index owner q)
          B.incoming_read B.target_read e;
    }

-- ---- the run of a plan that was built, between its own two layouts

checked : (Γ Δ : Columns) (ss : Selectors) → check_marked Γ Δ ss ≡ accepted tt → check (fields_of Γ) (fields_of Δ) ss ≡ accepted tt
unfolding check_marked
checked Γ Δ ss e = (answered-accepted _ _ e).1

module _ {v : Matching} {p : Policy} {d : Defaults} {incoming target bytes : Bytes} (B : Built v p d incoming target bytes) {ρ : Values}
    (h : FitsAll (fields_of B.from) ρ) (room : ℕ) where
  -- it is the run of a plan that passes the check: what is left is 44, 45 or a record that fits the target
  pub built_runs : Runs (fields_of B.to) ρ B.selectors room
  built_runs = plan_runs (fields_of B.from) (fields_of B.to) B.formed (checked B.from B.to B.selectors B.passes) h room

  -- "unless it refuses as just said, writes exactly the record that document 01 calls due"
  pub built-writes : (ReachesOverflow ρ B.selectors → ⊥) → spacious room (encode_values (dues v d B.to B.from ρ)) ≡ true
      → (run ρ B.selectors room ≡ accepted (encode_values (dues v d B.to B.from ρ))) × RecordFits (fields_of B.to)
      (encode_values (dues v d B.to B.from ρ))
  built-writes n s =
      let e = B.due ρ h in
      let (w, (f, r)) = built_runs.writes n (ap (λ (vs : Values). spacious room (encode_values vs)) e ∙ s) in
      (w ∙ ap (λ (vs : Values). accepted (encode_values vs)) e, rw e at r)
