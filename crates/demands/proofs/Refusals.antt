-- Every exported call's refusals: each has a number of the call's list, and its place. Assumes nothing.
use Prim.Native.Nat.{ℕ, zero, suc, ◌+◌, ◌<◌, ◌≤◌}
use mathlib.Core.Path.{◌≡◌, refl, sym, ◌∙◌}
use mathlib.Core.Bool.{Bool, true, false, ◌&&◌, ◌||◌, not}
use mathlib.Core.List.{List, [], ◌∷◌}
use native.Mathlib.Omega.{arith}
use lib.ListN.{length}
use lib.Dec.{ltb}
use borrow.Author.Tests.{ltb-true}
use Rattle.layout.specs.Bytes.{Bytes, AllBytes}
use Rattle.layout.specs.Parser.{Res, refuse, ok, choose}
use Rattle.layout.specs.Tree.{Layout, Columns, count_columns}
use Rattle.layout.specs.Layout.{layout}
use Rattle.layout.specs.declared.matching.Matching.{Matching}
use Rattle.layout.specs.declared.matching.Matching.TheVariants.{ByName, ByNumber}
use Rattle.rules.specs.declared.policy.Policy.{Policy}
use Rattle.values.specs.Record.{longest}
use Rattle.plan.specs.Result.{gives, demand, Answer, placed, answered}
use Rattle.plan.specs.Selector.{Selectors, count_selectors}
use Rattle.plan.specs.Read.{plan, longest_plan}
use Rattle.plan.specs.Marks.{check_marked}
use Rattle.plan.specs.Calls.{read_at_of, read_plan, check_plan_of, run_plan}
use Rattle.plan.proofs.Results.{both, true≠false}
use Rattle.plan.proofs.ReadBack.{plan_back}
use Rattle.forms.proofs.Heads.{count_fields_lem}
use Rattle.matching.proofs.Limits.{layout_limits}
use Rattle.defaults.specs.Table.{entries_of}
use Rattle.defaults.specs.Lookup.{get_default_value}
use Rattle.matching.specs.Default.{Defaults, no_defaults}
use Rattle.matching.specs.Build.{build}
use Rattle.matching.specs.Calls.{takes, of_edition, ReadFor, both_layouts, written_plan, build_by_name, build_by_number}
use Rattle.demands.specs.Refusals.{is_in, layout_refusals, table_refusals, extra_refusals, column_refusals, record_refusals, Call, reading_layout, building}
use Rattle.demands.specs.Refusals.{checking_plan}
use Rattle.demands.specs.Refusals.{refusals_of, layout_placed, column_placed, incoming_placed, place_of, layout_met, column_met, refusal_in, FirstRefused}
use Rattle.demands.specs.Refusals.{Refusal, Placed}
use Rattle.demands.specs.Refusals.{running, read_layout, layouts_read, table_read, columns_in, column_count, selectors_in, selector_count}
use Rattle.demands.proofs.Refusing.{all, all_in, RefusesIn, refused_in, Answers, in_accepted, in_refused_at, read_in, answered_in, BuildRefusal, by_extra}
use Rattle.demands.proofs.Refusing.{by_column}
use Rattle.demands.proofs.Parsers.{layout_in_lem, table_in, record_in, plan_in}
use Rattle.demands.proofs.Built.{named_unmarked}
use Rattle.demands.proofs.Numbers.{DefaultsIn, none_in, lookup_in, build_in, plan-written_in}
use Rattle.demands.proofs.Selectors.{selector_refusals, check_marked_in, run_in}

-- ---- a number, and where it is met

abbrev same : Bool → Bool → Bool
same true b = b
same false b = not b

-- the call has the number, which is not 0
unfoldable has : Call → ℕ → Bool
has c m = is_in m (refusals_of c) && ltb 0 m

-- and is met at a layout or table, at a column, at an incoming column, as these say
unfoldable met : Call → Bool → Bool → Bool → ℕ → Bool
met c a b d m = has c m && (same (is_in m layout_met) a && (same (is_in m column_met) b && same (is_in m incoming_placed) d))

abbrev as_thing : Call → ℕ → Bool
as_thing c = met c true false false

abbrev as_column : Call → ℕ → Bool
as_column c = met c false true false

abbrev as_incoming : Call → ℕ → Bool
as_incoming c = met c false false true

-- at neither
abbrev as_other : Call → ℕ → Bool
as_other c = met c false false false

same-is : (a b : Bool) → same a b ≡ true → a ≡ b
same-is true true e = refl
same-is true false e = true≠false e refl
same-is false true e = true≠false e refl
same-is false false e = refl

has_it : (c : Call) (n : ℕ) (a b d : Bool) → met c a b d n ≡ true → has c n ≡ true
unfolding met
has_it c n a b d e = (both (has c n) e).0

module _ {c : Call} {things : List ℕ} {incoming columns n k : ℕ} {a b d : Bool} (e : met c a b d n ≡ true) where
  refusal : (a ≡ true → FirstRefused 1 things n k) → (b ≡ true → k < columns) → (d ≡ true → k < incoming)
      → (a ≡ false → b ≡ false → d ≡ false → k ≡ 0) → Refusal c things incoming columns n k
  unfolding met has
  refusal f g i z =
      let (h, e) = both (has c n) e in
      let (l, p) = both (is_in n (refusals_of c)) h in
      let (t, e) = both (same (is_in n layout_met) a) e in
      let (u, w) = both (same (is_in n column_met) b) e in
      let t = sym (same-is (is_in n layout_met) a t) in
      let u = sym (same-is (is_in n column_met) b u) in
      let w = sym (same-is (is_in n incoming_placed) d w) in
      record {
        listed = l;
        positive = ltb-true 0 n p;
        at_thing = λ q. f (t ∙ q);
        at_column = λ q. g (u ∙ q);
        at_incoming = λ q. i (w ∙ q);
        at_none_of = λ q r x. z (t ∙ q) (u ∙ r) (w ∙ x);
      }

module _ {c : Call} {things : List ℕ} {incoming columns n k : ℕ} where
  at-thing : as_thing c n ≡ true → FirstRefused 1 things n k → Refusal c things incoming columns n k
  at-thing e f = refusal e (λ q. f) (λ q. true≠false q refl) (λ q. true≠false q refl) (λ q r x. true≠false refl q)

  at_column_lem : as_column c n ≡ true → k < columns → Refusal c things incoming columns n k
  at_column_lem e f = refusal e (λ q. true≠false q refl) (λ q. f) (λ q. true≠false q refl) (λ q r x. true≠false refl r)

  at-incoming : as_incoming c n ≡ true → k < incoming → Refusal c things incoming columns n k
  at-incoming e f = refusal e (λ q. true≠false q refl) (λ q. true≠false q refl) (λ q. f) (λ q r x. true≠false refl x)

  at_zero : as_other c n ≡ true → k ≡ 0 → Refusal c things incoming columns n k
  at_zero e f = refusal e (λ q. true≠false q refl) (λ q. true≠false q refl) (λ q. true≠false q refl) (λ q r x. f)

-- ---- the lists, number by number

layouts_as : (c : Call) → all (as_thing c) layout_refusals ≡ true
unfolding all met has is_in
layouts_as reading_layout = refl
layouts_as (building ByName) = refl
layouts_as (building ByNumber) = refl
layouts_as checking_plan = refl
layouts_as running = refl

table_as : all (as_thing (building ByNumber)) table_refusals ≡ true
unfolding all met has is_in
table_as = refl

edition_as : (v : Matching) → all (as_other (building v)) (10 ∷ []) ≡ true
unfolding all met has is_in
edition_as ByName = refl
edition_as ByNumber = refl

plan-length_as : (v : Matching) → as_other (building v) 27 ≡ true
unfolding met has is_in
plan-length_as ByName = refl
plan-length_as ByNumber = refl

columns_as : (v : Matching) → all (as_column (building v)) (column_refusals v) ≡ true
unfolding all met has is_in
columns_as ByName = refl
columns_as ByNumber = refl

extra_as : (v : Matching) → all (as_incoming (building v)) extra_refusals ≡ true
unfolding all met has is_in
extra_as ByName = refl
extra_as ByNumber = refl

-- ---- what is read in turn

first-refused : {A : Type 0} {x : Res A} {n : ℕ} (i : ℕ) (ms : List ℕ) → 0 < n → x ≡ refuse n → FirstRefused i (refusal_in x ∷ ms) n i
first-refused {x = x} {n = n} i ms h e = rw e (go n h)
  where
    go : (n : ℕ) → 0 < n → FirstRefused i (n ∷ ms) n i
    go zero h = absurd (omega (arith, h))
    go (suc m) h = (refl, refl)

past : {A : Type 0} {x : Res A} {a : A} {m : ℕ} (i : ℕ) (ms : List ℕ) (n k : ℕ) → x ≡ ok a m → FirstRefused (i + 1) ms n k
    → FirstRefused i (refusal_in x ∷ ms) n k
past i ms n k e f = rw e f

module _ {A B : Type 0} {Q : B → Type 0} {c : Call} {things : List ℕ} {incoming columns : ℕ} {ns : List ℕ} {x : Res A} {f : A → Answer B} where
  -- a layout or table at the place i, those after it having the refusals ms
  thing-in : (i : ℕ) (ms : List ℕ) → RefusesIn ns x → all (as_thing c) ns ≡ true → ((n : ℕ) → FirstRefused i (refusal_in x ∷ ms) n i → FirstRefused 1 things n i)
      → ((a : A) (m : ℕ) → x ≡ ok a m → Answers Q (Refusal c things incoming columns) (f a)) → Answers Q (Refusal c things incoming columns) (read_at_of i x f)
  unfolding has
  thing-in i ms o s t g = read_in i x (λ n e. at-thing (number n e) (t n (first-refused i ms (positive n e) e))) g
    where
      number : (n : ℕ) → x ≡ refuse n → as_thing c n ≡ true
      number n e = all_in (as_thing c) ns n s (refused_in o e)

      positive : (n : ℕ) → x ≡ refuse n → 0 < n
      positive n e = ltb-true 0 n (both (is_in n (refusals_of c)) (has_it c n true false false (number n e))).1

  -- a plan or a record, whose refusals have the place 0
  other-in : RefusesIn ns x → all (as_other c) ns ≡ true → ((a : A) (m : ℕ) → x ≡ ok a m → Answers Q (Refusal c things incoming columns) (f a))
      → Answers Q (Refusal c things incoming columns) (read_at_of 0 x f)
  other-in o s g = read_in 0 x (λ n e. at_zero (all_in (as_other c) ns n s (refused_in o e)) refl) g

-- ---- two layouts, read in turn

module _ (c : Call) (incoming target : Bytes) (ms : List ℕ) {B : Type 0} {Q : B → Type 0} {arriving columns : ℕ} where
  layouts-in : {g : Layout → Layout → Answer B}
      → ((a b : Layout) (i j : ℕ) → layout incoming ≡ ok a i → layout target ≡ ok b j → Answers Q
      (Refusal c (layouts_read incoming target ms) arriving columns) (g a b))
      → Answers Q (Refusal c (layouts_read incoming target ms) arriving columns) (read_at_of 1 (layout incoming) (λ a. read_at_of 2 (layout target) (λ b. g a b)))
  layouts-in h =
      thing-in 1 (refusal_in (layout target) ∷ ms) (layout_in_lem incoming) (layouts_as c) (λ n f. f) (λ a i p.
      thing-in 2 ms (layout_in_lem target) (layouts_as c) (λ n f. past 1 (refusal_in (layout target) ∷ ms) n 2 p f) (λ b j q. h a b i j p q))

-- ---- reading a layout

pub read_layout_in : (s : Bytes) → Answers (λ l. Unit {0}) (Refusal reading_layout (refusal_in (layout s) ∷ []) 0 0) (read_layout s)
read_layout_in s = thing-in 1 [] (layout_in_lem s) (layouts_as reading_layout) (λ n f. f) (λ l i p. in_accepted tt)

-- ---- the builds

abbrev Short : Bytes → Type 0
Short b = length b ≤ longest_plan

counted : (target : Bytes) {l : Layout} {m : ℕ} {k : ℕ} → layout target ≡ ok l m → k < count_columns l.columns → k < column_count target
counted target e h = rw e h

module _ (v : Matching) (p : Policy) (incoming target : Bytes) (ms : List ℕ) (space : ℕ) where
  abbrev Refused : ℕ → ℕ → Type 0
  Refused = Refusal (building v) (layouts_read incoming target ms) (column_count incoming) (column_count target)

  -- 10, and what follows where both editions are taken
  taken_in : (x y : Bool) {z : Answer Bytes} → ((x ≡ true) → (y ≡ true) → Answers Short Refused z)
      → Answers Short Refused (placed 0 (demand (x && y) 10 (gives tt)) (λ (u : Unit {0}). z))
  unfolding placed demand is_in
  taken_in true true h = h refl refl
  taken_in true false h = in_refused_at (at_zero (all_in (as_other (building v)) (10 ∷ []) 10 (edition_as v) refl) refl)
  taken_in false y h = in_refused_at (at_zero (all_in (as_other (building v)) (10 ∷ []) 10 (edition_as v) refl) refl)

  build-layouts-in : (f : Columns → Columns → Answer Bytes)
      → ((a b : Layout) (i j : ℕ) → layout incoming ≡ ok a i → layout target ≡ ok b j → takes v b.edition ≡ true → Answers Short Refused
      (f a.columns b.columns))
      → Answers Short Refused (both_layouts v incoming target f)
  unfolding both_layouts of_edition
  build-layouts-in f h =
      layouts-in (building v) incoming target ms (λ a b i j p q. taken_in (takes v a.edition) (takes v b.edition) (λ x y. h a b i j p q y))

  -- 53 has its place among the incoming columns, a column's refusal among the target's
  built_in : {a b : Layout} {i j : ℕ} → layout incoming ≡ ok a i → layout target ≡ ok b j → (n k : ℕ)
      → BuildRefusal v (count_columns a.columns) (count_columns b.columns) n k → Refused n k
  built_in e q n k (by_extra r) = at-incoming (all_in (as_incoming (building v)) extra_refusals n (extra_as v) r.among) (counted incoming e r.place)
  built_in e q n k (by_column r) = at_column_lem (all_in (as_column (building v)) (column_refusals v) n (columns_as v) r.among) (counted target q r.place)

  columns-in : (d : Defaults) → DefaultsIn (column_refusals v) d → {a b : Layout} {i j : ℕ} → layout incoming ≡ ok a i → layout target ≡ ok b j
      → takes v b.edition ≡ true → Answers Short Refused (answered (build v p d a.columns b.columns) (λ ss. written_plan space ss))
  columns-in d o {a} {b} {j = j} e q y =
      let R : ReadFor v target b.columns = record { edition = b.edition; end = j; reads = q; taken = y } in
      answered_in (build_in v p d o a.columns b.columns (named_unmarked v R)) (built_in e q)
      (λ ss x. plan-written_in space ss (at_zero (plan-length_as v) refl))

pub by_name_in : (p : Policy) (incoming target : Bytes) (space : ℕ)
    → Answers (λ b. length b ≤ longest_plan) (Refusal (building ByName) (layouts_read incoming target []) (column_count incoming) (column_count target))
    (build_by_name p incoming target space)
unfolding build_by_name
by_name_in p incoming target space =
    build-layouts-in ByName p incoming target [] space _ (λ a b i j r q y.
    columns-in ByName p incoming target [] space no_defaults (none_in (column_refusals ByName)) r q y)

pub by_number_in : (p : Policy) (index owner : ℕ) (incoming target defaults : Bytes) (space : ℕ)
    → Answers (λ b. length b ≤ longest_plan) (Refusal (building ByNumber) (layouts_read incoming target (table_read defaults)) (column_count incoming)
    (column_count target))
    (build_by_number p index owner incoming target defaults space)
unfolding build_by_number
by_number_in p index owner incoming target defaults space =
    let more = table_read defaults in
    build-layouts-in ByNumber p incoming target more space _ (λ a b i j r q y.
    thing-in 3 [] (table_in defaults) table_as (λ n f. past 1 (refusal_in (layout target) ∷ more) n 3 r (past 2 more n 3 q f)) (λ x m t.
    let es = entries_of owner x.entries in
    columns-in ByNumber p incoming target more space (get_default_value es index) (lookup_in es index) r q y))

-- ---- the check and the run

-- the calls that check a plan
data Checks : Call → Type 0 where
  by_check : Checks checking_plan
  by_run : Checks running

malformed_as : {c : Call} → Checks c → all (as_other c) (30 ∷ []) ≡ true
unfolding all met has is_in
malformed_as by_check = refl
malformed_as by_run = refl

selectors_as : {c : Call} → Checks c → all (as_column c) selector_refusals ≡ true
unfolding all met has is_in
selectors_as by_check = refl
selectors_as by_run = refl

differs_as : {c : Call} → Checks c → as_other c 33 ≡ true
unfolding met has is_in
differs_as by_check = refl
differs_as by_run = refl

required_as : {c : Call} → Checks c → as_column c 55 ≡ true
unfolding met has is_in
required_as by_check = refl
required_as by_run = refl

record_as : all (as_other running) record_refusals ≡ true
unfolding all met has is_in
record_as = refl

overflow_as : as_other running 44 ≡ true
unfolding met has is_in
overflow_as = refl

output-length_as : as_other running 45 ≡ true
unfolding met has is_in
output-length_as = refl

selected : (bytes : Bytes) {ss : Selectors} {m k : ℕ} → plan bytes ≡ ok ss m → k < count_selectors ss → k < selector_count bytes
selected bytes e h = rw e h

module _ {c : Call} (h : Checks c) (incoming target bytes : Bytes) where
  abbrev Unfit : ℕ → ℕ → Type 0
  Unfit = Refusal c (layouts_read incoming target []) 0 (selector_count bytes)

  plan-read-in : {B : Type 0} {Q : B → Type 0} (g : Columns → Columns → Selectors → Answer B)
      → ((Γ Δ : Columns) (ss : Selectors) (m : ℕ) → plan bytes ≡ ok ss m → Answers Q Unfit (g Γ Δ ss)) → Answers Q Unfit (read_plan incoming target bytes g)
  unfolding read_plan
  plan-read-in g o =
      layouts-in c incoming target [] (λ a b i j p q.
      other-in (plan_in bytes) (malformed_as h) (λ ss m e. o a.columns b.columns ss m e))

  -- 55 is met at no selector of its own; there is one where it is met
  checked-in : (Γ Δ : Columns) (ss : Selectors) (m : ℕ) → plan bytes ≡ ok ss m → Answers (λ x. Unit {0}) Unfit (check_marked Γ Δ ss)
  checked-in Γ Δ ss m e =
      check_marked_in Γ Δ ss (λ n k r. at_column_lem (all_in (as_column c) selector_refusals n (selectors_as h) r.among) (selected bytes e r.place))
      (at_zero (differs_as h) refl) (λ p. at_column_lem (required_as h) (selected bytes e p))

pub check_plan_in : (incoming target bytes : Bytes)
    → Answers (λ x. Unit {0}) (Refusal checking_plan (layouts_read incoming target []) 0 (selector_count bytes)) (check_plan_of incoming target bytes)
unfolding check_plan_of
check_plan_in incoming target bytes = plan-read-in by_check incoming target bytes _ (checked-in by_check incoming target bytes)

pub run_plan_in : (incoming target bytes rec : Bytes) (room : ℕ)
    → Answers (λ b. length b ≤ longest) (Refusal running (layouts_read incoming target []) 0 (selector_count bytes))
    (run_plan incoming target bytes rec room)
unfolding run_plan
run_plan_in incoming target bytes rec room =
    plan-read-in by_run incoming target bytes _ (λ Γ Δ ss m e.
    answered_in (checked-in by_run incoming target bytes Γ Δ ss m e) (λ n k r. r) (λ x u.
    other-in (record_in rec Γ) record_as (λ ρ j q. run_in ρ ss room (at_zero overflow_as refl) (at_zero output-length_as refl))))

-- ---- the place

met-at_thing : (n : ℕ) → is_in n layout_placed ≡ true → is_in n layout_met ≡ true
unfolding all is_in
met-at_thing n e = all_in (λ m. is_in m layout_met) layout_placed n refl e

met-at_column : (n : ℕ) → is_in n column_placed ≡ true → is_in n column_met ≡ true
unfolding all is_in
met-at_column n e = all_in (λ m. is_in m column_met) column_placed n refl e

-- a number that has the place of a layout or table, or of a column, is met there; any other has the place 0
pub refusal-placed : {c : Call} {things : List ℕ} {incoming columns n k : ℕ} → Refusal c things incoming columns n k → Placed things incoming columns n
    (place_of n k)
unfolding place_of choose
refusal-placed {things = things} {incoming} {columns} {n} {k} R =
    record {
      of_thing = λ e. thing (is_in n layout_placed) e (R.at_thing (met-at_thing n e));
      of_column = λ e. column (is_in n layout_placed) (is_in n column_placed) e (R.at_column (met-at_column n e));
      of_incoming = λ e. arrived (is_in n layout_placed) (is_in n column_placed) (is_in n incoming_placed) e (R.at_incoming e);
      of_other = other (is_in n layout_placed) (is_in n column_placed) (is_in n incoming_placed);
    }
  where
    thing : (a : Bool) → a ≡ true → FirstRefused 1 things n k → FirstRefused 1 things n (choose (a || (is_in n column_placed || is_in n incoming_placed)) k 0)
    thing a e h = rw e h

    column : (a b : Bool) → b ≡ true → k < columns → choose (a || (b || is_in n incoming_placed)) k 0 < columns
    column true b e h = h
    column false b e h = rw e h

    arrived : (a b d : Bool) → d ≡ true → k < incoming → choose (a || (b || d)) k 0 < incoming
    arrived true b d e h = h
    arrived false true d e h = h
    arrived false false d e h = rw e h

    other : (a b d : Bool) → a ≡ false → b ≡ false → d ≡ false → choose (a || (b || d)) k 0 ≡ 0
    other a b d e f g = rw (e, f, g)

-- ---- every place is small

first-within : (i : ℕ) (ms : List ℕ) (n k : ℕ) → FirstRefused i ms n k → k < i + length ms
first-within i [] n k f = absurd f
first-within i (zero ∷ ms) n k f = let h = first-within (i + 1) ms n k f in omega arith
first-within i (suc m ∷ ms) n k f = let h = f.1 in omega arith

pub place-small : {c : Call} {things : List ℕ} {incoming columns n k : ℕ} → Refusal c things incoming columns n k → incoming < 65536 → columns < 65536
    → length things ≤ 3 → k < 65536
place-small {things = things} {n = n} {k = k} R i h l = go (is_in n layout_met) (is_in n column_met) (is_in n incoming_placed) refl refl refl
  where
    go : (a b d : Bool) → is_in n layout_met ≡ a → is_in n column_met ≡ b → is_in n incoming_placed ≡ d → k < 65536
    go true b d p q r = let f = first-within 1 things n k (R.at_thing p) in omega arith
    go false true d p q r = let f = R.at_column q in omega arith
    go false false true p q r = let f = R.at_incoming r in omega arith
    go false false false p q r = let f = R.at_none_of p q r in omega arith

pub columns-small : (s : Bytes) → AllBytes s → column_count s < 65536
columns-small s o = go (layout s) refl
  where
    go : (x : Res Layout) → layout s ≡ x → columns_in x < 65536
    go (refuse n) e = omega arith
    go (ok l m) e =
        let h = (layout_limits s o e).count in
        let q = count_fields_lem l.columns in
        omega arith

pub selectors-small : (s : Bytes) → AllBytes s → selector_count s < 65536
selectors-small s o = go (plan s) refl
  where
    go : (x : Res Selectors) → plan s ≡ x → selectors_in x < 65536
    go (refuse n) e = omega arith
    go (ok ss m) e = (plan_back s o e).counts
