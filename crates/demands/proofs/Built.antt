-- What a build wrote, or was too long to write, from bytes. Assumes nothing.
use Prim.Native.Nat.{ℕ}
use mathlib.Core.Path.{◌≡◌, refl, sym, ap, ◌∙◌}
use mathlib.Core.Bool.{Bool, true, false, ◌&&◌}
use mathlib.Core.List.{List}
use native.Mathlib.Omega.{arith}
use Rattle.layout.specs.Bytes.{Bytes, AllBytes}
use Rattle.layout.specs.Parser.{Res, refuse, ok}
use Rattle.layout.specs.Tree.{Layout, Columns, fields_of}
use Rattle.layout.specs.Layout.{layout}
use Rattle.layout.proofs.Ways.{clash}
use Rattle.values.specs.Fits.{FitsAll}
use Rattle.values.specs.Filled.{required_of}
use Rattle.values.specs.Record.{record_marked}
use Rattle.plan.specs.Result.{gives, demand, Answer, accepted, refused_at, placed, answered}
use Rattle.plan.specs.Encode.{encode_plan}
use Rattle.plan.specs.Selector.{Selectors}
use Rattle.plan.specs.Read.{plan}
use Rattle.plan.specs.Run.{written, run}
use Rattle.plan.specs.Calls.{read_at_of, read_plan, check_plan_of, run_plan}
use Rattle.matching.proofs.Calls.{Built}
use Rattle.values.proofs.Unmarked.{UnmarkedAll}
use Rattle.values.proofs.Older.{layout_older}
use Rattle.matching.proofs.Unmarked.{by_name_older}
use Rattle.plan.proofs.Results.{both, true≠false}
use Rattle.matching.specs.Default.{Defaults, no_defaults}
use Rattle.matching.specs.Build.{build}
use Rattle.matching.specs.Calls.{takes, of_edition, ReadFor, both_layouts, room_for, written_plan, build_by_name, build_by_number}
use Rattle.matching.specs.Due.{dues}
use Rattle.defaults.specs.Table.{entries_of, TableTree, table}
use Rattle.defaults.specs.Lookup.{get_default_value}
use Rattle.rules.specs.declared.policy.Policy.{Policy}
use Rattle.layout.specs.declared.matching.Matching.{Matching}
use Rattle.layout.specs.declared.matching.Matching.TheVariants.{ByName, ByNumber}
use Rattle.values.proofs.Round.{record_back}
use Rattle.values.proofs.Kept.{record_kept}
use Rattle.demands.specs.Refusals.{is_in, layout_refusals, table_refusals, extra_refusals, column_refusals}
use Rattle.demands.specs.Stated.{FitsLayout, LayoutOf, columns_of_of, PlanTooLong, NumberTooLong}
use Rattle.demands.proofs.Parsers.{layout_in_lem, table_in}
use Rattle.demands.proofs.Refusing.{RefusesIn, refused_in, Answers, in_accepted, in_refused_at, BuildRefusal, by_extra, by_column}
use Rattle.demands.proofs.Numbers.{DefaultsIn, none_in, lookup_in, build_in}
use Rattle.demands.proofs.Passed.{ok_eq, number_eq}

pub built-passes : {v : Matching} {p : Policy} {d : Defaults} {incoming target bytes : Bytes} → Built v p d incoming target bytes → check_plan_of incoming
    target bytes ≡ accepted tt
unfolding check_plan_of read_plan read_at_of
built-passes B = rw (B.incoming_read.reads, B.target_read.reads, B.reads, B.passes)

module _ {v : Matching} {p : Policy} {d : Defaults} {incoming target bytes rec : Bytes} (B : Built v p d incoming target bytes) (or : AllBytes rec)
    (F : FitsLayout incoming rec) where
  pub from_eq : columns_of_of F ≡ B.from
  from_eq = ap (λ (l : Layout). l.columns) (ok_eq F.layout_reads B.incoming_read.reads)

  record_reads : record_marked required_of B.from rec ≡ ok F.values F.end
  record_reads = ap (λ (cs : Columns). record_marked required_of cs rec) (sym from_eq) ∙ F.reads

  pub record_fits : FitsAll (fields_of B.from) F.values
  record_fits = (record_back (fields_of B.from) rec or F.values F.end ((record_kept required_of rec B.from).forth F.values F.end
      record_reads).0).fits

  pub run_is : (room : ℕ) → run_plan incoming target bytes rec room ≡ run F.values B.selectors room
  unfolding run_plan read_plan read_at_of answered
  run_is room = rw (B.incoming_read.reads, B.target_read.reads, B.reads, B.passes, record_reads)

  module _ (T : LayoutOf target) (room : ℕ) where
    to-eq : T.read.columns ≡ B.to
    to-eq = ap (λ (l : Layout). l.columns) (ok_eq T.reads B.target_read.reads)

    pub built-due : run_plan incoming target bytes rec room ≡ written (dues v d T.read.columns (columns_of_of F) F.values) room
    unfolding run
    built-due = rw (run_is room, B.due F.values record_fits, ← from_eq, ← to-eq)

written-fits : (space : ℕ) (ss : Selectors) → room_for space (encode_plan ss) ≡ true → written_plan space ss ≡ accepted (encode_plan ss)
unfolding written_plan placed demand
written-fits space ss q = rw q

written-exceeds : (space : ℕ) (ss : Selectors) → room_for space (encode_plan ss) ≡ false → written_plan space ss ≡ refused_at 27 0
unfolding written_plan placed demand
written-exceeds space ss q = rw q

written-long : (space : ℕ) (ss : Selectors) → written_plan space ss ≡ refused_at 27 0 → room_for space (encode_plan ss) ≡ false
written-long space ss e = go (room_for space (encode_plan ss)) refl
  where
    go : (b : Bool) → room_for space (encode_plan ss) ≡ b → room_for space (encode_plan ss) ≡ false
    go true q = let w = written-fits space ss q in clash (cc)
    go false q = q

-- no column is refused with 27, extra or not
no_extra : is_in 27 extra_refusals ≡ false
unfolding is_in
no_extra = refl

no_column : (v : Matching) → is_in 27 (column_refusals v) ≡ false
unfolding is_in
no_column ByName = refl
no_column ByNumber = refl

not-long : {v : Matching} {incoming columns n k : ℕ} → BuildRefusal v incoming columns n k → n ≡ 27 → ⊥
not-long (by_extra R) e = true≠false (ap (λ (m : ℕ). is_in m extra_refusals) (sym e) ∙ R.among) no_extra
not-long {v = v} (by_column R) e = true≠false (ap (λ (m : ℕ). is_in m (column_refusals v)) (sym e) ∙ R.among) (no_column v)

built-long : (v : Matching) (space : ℕ) {incoming columns : ℕ} {x : Answer Selectors} → Answers (λ ss. Unit {0}) (BuildRefusal v incoming columns) x
    → answered x (λ ss. written_plan space ss) ≡ refused_at 27 0 → (ss : Selectors) × (x ≡ accepted ss) × (room_for space (encode_plan ss) ≡ false)
unfolding answered
built-long v space (in_accepted {a = ss} u) e = (ss, refl, written-long space ss e)
built-long v space (in_refused_at R) e = absurd (not-long R (number_eq e))

-- a result that was read, where reading does not refuse with the number n
read_past : {A B : Type 0} (i : ℕ) (r : Res A) (f : A → Answer B) {ns : List ℕ} {n k : ℕ} → RefusesIn ns r → is_in n ns ≡ false → read_at_of i r f ≡ refused_at n k
    → (a : A) × (m : ℕ) × (r ≡ ok a m) × (f a ≡ refused_at n k)
unfolding read_at_of
read_past i (refuse m) f o h e = true≠false (refused_in o (ap refuse (number_eq e))) h
read_past i (ok a m) f o h e = (a, m, refl, e)

edition-past : {A : Type 0} (b : Bool) (f : Answer A) {n k : ℕ} → (10 ≡ n → ⊥) → placed 0 (demand b 10 (gives tt)) (λ (x : Unit {0}). f) ≡ refused_at n k
    → (b ≡ true) × (f ≡ refused_at n k)
unfolding placed demand
edition-past true f h e = (refl, e)
edition-past false f h e = absurd (h (number_eq e))

-- the layouts, where the answer is no refusal of reading them, nor 10
pub layouts_past : (v : Matching) (incoming target : Bytes) (f : Columns → Columns → Answer Bytes) {n k : ℕ} → is_in n layout_refusals ≡ false → (10 ≡ n → ⊥)
    → both_layouts v incoming target f ≡ refused_at n k
    → (a : Columns) × (b : Columns) × ReadFor v incoming a × ReadFor v target b × (f a b ≡ refused_at n k)
unfolding both_layouts of_edition
layouts_past v incoming target f h g e =
    let (x, m, q, e) = read_past 1 (layout incoming) _ (layout_in_lem incoming) h e in
    let (y, n, r, e) = read_past 2 (layout target) _ (layout_in_lem target) h e in
    let (c, e) = edition-past (takes v x.edition && takes v y.edition) (f x.columns y.columns) g e in
    let (c, d) = both (takes v x.edition) c in
    (x.columns, y.columns, record { edition = x.edition; end = m; reads = q; taken = c }, record { edition = y.edition; end = n; reads = r; taken = d }, e)

-- by name the target has no required column
pub named_unmarked : (v : Matching) {target : Bytes} {cs : Columns} → ReadFor v target cs → v ≡ ByName → UnmarkedAll required_of cs
named_unmarked ByName {target} R e = layout_older target _ _ R.reads (by_name_older R.edition R.taken)
named_unmarked ByNumber R e = clash (cc)

pub table-past : (defaults : Bytes) (f : TableTree → Answer Bytes) {n k : ℕ} → is_in n table_refusals ≡ false → read_at_of 3 (table defaults) f ≡ refused_at n k
    → (t : TableTree) × (m : ℕ) × (table defaults ≡ ok t m) × (f t ≡ refused_at n k)
table-past defaults f h e = read_past 3 (table defaults) f (table_in defaults) h e

module _ (v : Matching) (p : Policy) (incoming target : Bytes) (space : ℕ) where
  built-past : (d : Defaults) → DefaultsIn (column_refusals v) d → (a b : Columns) → ReadFor v incoming a → ReadFor v target b
      → answered (build v p d a b) (λ ss. written_plan space ss) ≡ refused_at 27 0 → PlanTooLong v p d incoming target space
  built-past d o a b q r e =
      let (ss, h, l) = built-long v space (build_in v p d o a b (named_unmarked v r)) e in
      record { defined = record { from = a; to = b; incoming_read = q; target_read = r; selectors = ss; built = h }; long = l }

pub by_name_past : (p : Policy) (incoming target : Bytes) (space : ℕ) → build_by_name p incoming target space ≡ refused_at 27 0 → PlanTooLong ByName p
    no_defaults incoming target space
unfolding build_by_name is_in
by_name_past p incoming target space e =
    let (a, b, q, r, e) = layouts_past ByName incoming target _ refl (λ h. omega (arith, h)) e in
    built-past ByName p incoming target space no_defaults (none_in (column_refusals ByName)) a b q r e

pub by_name_back : (p : Policy) (incoming target : Bytes) (space : ℕ) → PlanTooLong ByName p no_defaults incoming target space → build_by_name p incoming
    target space ≡ refused_at 27 0
unfolding build_by_name both_layouts of_edition read_at_of placed demand answered
by_name_back p incoming target space L =
    let I = L.defined.incoming_read in
    let T = L.defined.target_read in
    rw (I.reads, T.reads, I.taken, T.taken, L.defined.built, written-exceeds space L.defined.selectors L.long)

pub by_number-past : (p : Policy) (index owner : ℕ) (incoming target defaults : Bytes) (space : ℕ)
    → build_by_number p index owner incoming target defaults space ≡ refused_at 27 0 → NumberTooLong p index owner incoming target defaults space
unfolding build_by_number is_in
by_number-past p index owner incoming target defaults space e =
    let (a, b, q, r, e) = layouts_past ByNumber incoming target _ refl (λ h. omega (arith, h)) e in
    let (x, k, t, e) = table-past defaults _ refl e in
    let es = entries_of owner x.entries in
    record { tree = x; end = k; reads = t; plan = built-past ByNumber p incoming target space (get_default_value es index) (lookup_in es index) a b q r e }

pub by_number_back : (p : Policy) (index owner : ℕ) (incoming target defaults : Bytes) (space : ℕ) → NumberTooLong p index owner incoming target defaults space
    → build_by_number p index owner incoming target defaults space ≡ refused_at 27 0
unfolding build_by_number both_layouts of_edition read_at_of placed demand answered
by_number_back p index owner incoming target defaults space N =
    let L = N.plan in
    let I = L.defined.incoming_read in
    let T = L.defined.target_read in
    rw (I.reads, T.reads, I.taken, T.taken, N.reads, L.defined.built, written-exceeds space L.defined.selectors L.long)
