-- Demands 1 and 3, sentence by sentence, over bytes and in the terms of the exported calls' contracts: `check_plan_of`,
-- `run_plan`, `buffer_after` (crate plan, specs/Calls.antt), `build_by_name`, `build_by_number` (crate matching,
-- specs/Calls.antt). `AllBytes` says that a list's numbers are below 256, as those of every lent slice are. Assumes
-- nothing.
use Prim.Native.Nat.{ℕ, ◌<◌, ◌^◌}
use mathlib.Core.Path.{◌≡◌, refl, sym, ap, ◌∙◌, subst}
use lib.ListN.{length, drop}
use mathlib.Core.List.{List, [], ◌∷◌, ◌++◌}
use mathlib.Core.Bool.{true, false}
use mathlib.Core.Logic.{◌↔◌, ◌⊎◌, inl, inr}
use native.Mathlib.Omega.{arith}
use lib.IntN.{nat_abs}
use borrow.Author.Tests.{ltb-true}
use Rattle.layout.specs.Bytes.{Bytes, AllBytes}
use Rattle.layout.specs.Parser.{refuse, ok}
use Rattle.layout.specs.Tree.{decimal, Layout, Label, ColumnType, leaf, fields_of}
use Rattle.layout.specs.Layout.{layout}
use Rattle.layout.specs.declared.leaf.Decimal.{Decimal}
use Rattle.layout.specs.declared.leaf.Leaf.{Leaf}
use Rattle.layout.proofs.Ways.{clash}
use Rattle.numeric.specs.Integers.{signed}
use Rattle.numeric.specs.Decimals.{within_precision}
use Rattle.rules.specs.declared.outcome.CastOption.TheVariants.{NonStrict}
use Rattle.rules.specs.Outcomes.{refused, cast, need}
use Rattle.rules.specs.Params.{widens, same_decimal, decimals_of, params_of}
use Rattle.rules.specs.Chain.{chain}
use Rattle.rules.specs.Pairs.{pair_rule}
use Rattle.values.specs.Value.{vnumber}
use Rattle.values.specs.Fits.{Fits, fit_number, FitsAll}
use Rattle.values.specs.Filled.{required_of, FilledAll}
use Rattle.values.proofs.Round.{record_back}
use Rattle.values.proofs.Kept.{record_kept}
use Rattle.plan.specs.Read.{plan}
use Rattle.plan.specs.Convert.{convert_as, convert}
use Rattle.plan.specs.Result.{Answer, accepted, refused_at, answered}
use Rattle.plan.specs.Selector.{Selector, Selectors}
use Rattle.plan.specs.Run.{spacious, written}
use Rattle.plan.specs.Reach.{SelectorAt, ReachesOverflow}
use Rattle.plan.specs.Calls.{read_at_of, check_plan_of, run_plan, buffer_after}
use Rattle.matching.proofs.Calls.{by_name_built, by_number-built}
use Rattle.matching.specs.Default.{no_defaults}
use Rattle.matching.specs.Build.{build_from}
use Rattle.matching.specs.Calls.{both_layouts, written_plan, build_by_name, build_by_number}
use Rattle.matching.specs.Due.{dues}
use Rattle.matching.specs.Untouched.{Untouched, EqualType}
use Rattle.matching.proofs.Theorems.{build-untouched}
use Rattle.defaults.specs.Table.{entries_of, TableTree, table}
use Rattle.defaults.specs.Lookup.{get_default_value}
use Rattle.rules.specs.declared.policy.Policy.{Policy}
use Rattle.rules.specs.declared.policy.ExtraColumnsPolicy.TheVariants.{Ignore}
use Rattle.layout.specs.Find.{present, column_at}
use Rattle.layout.specs.declared.columns.Position.{Position}
use Rattle.layout.specs.declared.matching.Matching.TheVariants.{ByName, ByNumber}
use Rattle.demands.specs.Refusals.{is_in, table_refusals, Call, reading_layout, building, checking_plan, running, place_of}
use Rattle.demands.specs.Refusals.{refusal_in, Refusal, Placed, read_layout, layouts_read, table_read, column_count, selector_count}
use Rattle.demands.specs.Stated.{FitsLayout, SelectorsOf, LayoutOf, columns_of_of, output, Running, PlanTooLong, NumberTooLong, ExtraColumn}
use Rattle.demands.specs.Stated.{NumberExtraColumn}
use Rattle.demands.proofs.Refusing.{refused_in, refused_as}
use Rattle.demands.proofs.Parsers.{table_in, plan_in}
use Rattle.demands.proofs.Refusals.{read_layout_in, by_name_in, by_number_in, check_plan_in, run_plan_in, refusal-placed}
use Rattle.demands.proofs.Passed.{passed_runs, exceeds_exactly, ok_eq}
use Rattle.demands.proofs.Built.{built-passes, built-due, by_name_past, by_name_back, by_number-past, by_number_back}
use Rattle.demands.proofs.Extra.{by_name_raised, by_name_raises, name_ignoring, by_number_raised, by_number-raises, number_ignoring}

-- ---- Demand 1: "No input, however broken, stops a call, and nothing is written by a refused one: it returns its
-- number from document 01 and every lent buffer is unchanged." A call's contract (crate selector) has no `requires`,
-- and gives its answer and its buffer at exit by these definitions for all bytes; `buffer_after` is what stands in the
-- buffer.

pub refused-unchanged : (n k : ℕ) (buffer : Bytes) → buffer_after (refused_at n k) buffer ≡ buffer
refused-unchanged n k buffer = refl

-- "An accepted build or run .. writes the result from the buffer's start and changes no byte after it" (document 01).
pub accepted-written : (result buffer : Bytes) → buffer_after (accepted result) buffer ≡ result ++ drop (length result) buffer
accepted-written result buffer = refl

-- "It returns its number from document 01": a refused call's number is in the call's list (`refusals_of`) and never 0,
-- and it is met at k: of 1 to 6 and 50 the first layout or table that is refused, which is refused with this number; of
-- 11 to 26, 28, 51, 54 and 55 a position below the number of the target's columns, of 31 and 32 below that of the
-- plan's top selectors; of 53 below the number of the incoming columns; of all others 0 (`Refusal`,
-- specs/Refusals.antt).

pub read_layout-refused : (s : Bytes) {n k : ℕ} → read_layout s ≡ refused_at n k → Refusal reading_layout (refusal_in (layout s) ∷ []) 0 0 n k
read_layout-refused s e = refused_as (read_layout_in s) e

module _ (p : Policy) (incoming target : Bytes) (space : ℕ) where
  pub by_name_refused : {n k : ℕ} → build_by_name p incoming target space ≡ refused_at n k
      → Refusal (building ByName) (layouts_read incoming target []) (column_count incoming) (column_count target) n k
  by_name_refused e = refused_as (by_name_in p incoming target space) e

module _ (p : Policy) (index owner : ℕ) (incoming target defaults : Bytes) (space : ℕ) where
  pub by_number-refused : {n k : ℕ} → build_by_number p index owner incoming target defaults space ≡ refused_at n k
      → Refusal (building ByNumber) (layouts_read incoming target (table_read defaults)) (column_count incoming) (column_count target) n k
  by_number-refused e = refused_as (by_number_in p index owner incoming target defaults space) e

module _ (incoming target bytes : Bytes) where
  pub check-refused : {n k : ℕ} → check_plan_of incoming target bytes ≡ refused_at n k
      → Refusal checking_plan (layouts_read incoming target []) 0 (selector_count bytes) n k
  check-refused e = refused_as (check_plan_in incoming target bytes) e

  pub run-refused : (rec : Bytes) (room : ℕ) {n k : ℕ} → run_plan incoming target bytes rec room ≡ refused_at n k
      → Refusal running (layouts_read incoming target []) 0 (selector_count bytes) n k
  run-refused rec room e = refused_as (run_plan_in incoming target bytes rec room) e

-- The place of a refusal is the one that goes with its number: `place_of n k` is k where the number has a place, and of
-- all others, 50 to 52 and 54 to 56 among them, 0 (`Placed`). How number and place are read out of the word that a call
-- returns stands in crate selector, proofs/Decoded.antt.
pub refused-placed : {c : Call} {things : List ℕ} {incoming columns n k : ℕ} → Refusal c things incoming columns n k → Placed things incoming columns n
    (place_of n k)
refused-placed R = refusal-placed R

-- ---- Demand 3: "For every plan that passes the check from one layout to another, and every record that fits the
-- first: the run refuses with 44 exactly when a strict cast that it reaches multiplies a non-null date-time beyond
-- signed 64 bits. Otherwise, given space, it writes a record that fits the second; short of space it refuses with 45,
-- and no other refusal is left." `ReachesOverflow` (crate plan, specs/Reach.antt) is the condition of 44; the defined
-- output is `output`, and there is space for it where `spacious` says so: for the buffer and for 16,384 bytes.

module _ (incoming target bytes rec : Bytes) (ob : AllBytes bytes) (or : AllBytes rec) (passes : check_plan_of incoming target bytes ≡ accepted tt)
    (F : FitsLayout incoming rec) (room : ℕ) where
  pub run_passed : Running incoming target bytes rec F room
  run_passed = passed_runs incoming target bytes rec ob or passes F room

-- 45 "just when the defined output is too long, for the buffer or for the fixed limit", where no overflow is reached.
module _ {incoming target bytes rec : Bytes} {F : FitsLayout incoming rec} {room : ℕ} (R : Running incoming target bytes rec F room) where
  pub output_too_long : (run_plan incoming target bytes rec room ≡ refused_at 45 0)
      ↔ ((ReachesOverflow F.values R.plan.selectors → ⊥) × (spacious room (output F.values R.plan.selectors) ≡ false))
  output_too_long = exceeds_exactly R

-- ---- "Every plan that either builder writes passes this check between its own two layouts."

module _ (p : Policy) (incoming target : Bytes) (oi : AllBytes incoming) (ot : AllBytes target) (space : ℕ) {bytes : Bytes}
    (built : build_by_name p incoming target space ≡ accepted bytes) where
  pub by_name_passes : check_plan_of incoming target bytes ≡ accepted tt
  by_name_passes = built-passes (by_name_built p incoming target space oi ot built)

module _ (p : Policy) (index owner : ℕ) (incoming target defaults : Bytes) (oi : AllBytes incoming) (ot : AllBytes target)
    (od : AllBytes defaults) (space : ℕ) {bytes : Bytes} (built : build_by_number p index owner incoming target defaults space ≡ accepted bytes) where
  pub by_number-passes : check_plan_of incoming target bytes ≡ accepted tt
  by_number-passes = built-passes (by_number-built p index owner incoming target defaults space oi ot od built).built

-- ---- "For every record that fits the incoming one, the run of such a plan between these same two, unless it refuses
-- as just said, writes exactly the record that document 01 calls due: each target field holds the incoming field of the
-- same path, converted by rule, or else its default or null." The due values are `dues` (crate matching,
-- specs/Due.antt), from the build's arguments and the record alone; `written` refuses them with 44 or 45 as above and
-- else gives their bytes.

module _ (p : Policy) (incoming target rec : Bytes) (oi : AllBytes incoming) (ot : AllBytes target) (or : AllBytes rec) (space : ℕ) {bytes : Bytes}
    (built : build_by_name p incoming target space ≡ accepted bytes)
    (F : FitsLayout incoming rec) (T : LayoutOf target) (room : ℕ) where
  pub by_name_due : run_plan incoming target bytes rec room ≡ written (dues ByName no_defaults T.read.columns (columns_of_of F) F.values) room
  by_name_due = built-due (by_name_built p incoming target space oi ot built) or F T room

module _ (p : Policy) (index owner : ℕ) (incoming target defaults rec : Bytes) (oi : AllBytes incoming) (ot : AllBytes target)
    (od : AllBytes defaults) (or : AllBytes rec) (space : ℕ) {bytes : Bytes}
    (built : build_by_number p index owner incoming target defaults space ≡ accepted bytes) (F : FitsLayout incoming rec) (T : LayoutOf target) (room : ℕ) where
  -- the table that was read
  pub by_number-due : (t : TableTree) {e : ℕ} → table defaults ≡ ok t e
      → run_plan incoming target bytes rec room
      ≡ written (dues ByNumber (get_default_value (entries_of owner t.entries) index) T.read.columns (columns_of_of F) F.values) room
  by_number-due t r =
      let B = by_number-built p index owner incoming target defaults space oi ot od built in
      built-due B.built or F T room
      ∙ ap (λ (x : TableTree). written (dues ByNumber (get_default_value (entries_of owner x.entries) index) T.read.columns (columns_of_of F) F.values) room)
      (ok_eq B.table_read r)

-- ---- "Matched by name, a built plan leaves a target column untouched exactly when the incoming column of that name
-- has an equal type." The target column at the position j has the label b and the type u; its selector is s.

module _ (p : Policy) (incoming target : Bytes) (oi : AllBytes incoming) (ot : AllBytes target) (space : ℕ) {bytes : Bytes}
    (built : build_by_name p incoming target space ≡ accepted bytes)
    (I : LayoutOf incoming) (T : LayoutOf target) (S : SelectorsOf bytes) where
  pub by_name_untouched : (j : Position) {k : Position} {b : Label} {u : ColumnType} {s : Selector} → column_at j T.read.columns ≡ present k b u →
      SelectorAt S.selectors j.0 s
      → Untouched I.read.columns b s ↔ EqualType I.read.columns b u
  by_name_untouched j {k} {b} {u} {s} e x =
      let B = by_name_built p incoming target space oi ot built in
      let f : I.read.columns ≡ B.from = ap (λ (l : Layout). l.columns) (ok_eq I.reads B.incoming_read.reads) in
      let t : T.read.columns ≡ B.to = ap (λ (l : Layout). l.columns) (ok_eq T.reads B.target_read.reads) in
      let g : S.selectors ≡ B.selectors = ok_eq S.reads B.reads in
      rw f (build-untouched p no_defaults B.from B.to B.built j (ap (column_at j) (sym t) ∙ e) (subst (λ (ss : Selectors). SelectorAt ss j.0 s) g x))

-- ---- 27 "just when the defined output is too long, for the buffer or for the fixed limit": the layouts read, the
-- columns all matched, and there is no room for the plan's bytes

module _ (p : Policy) (incoming target : Bytes) (space : ℕ) where
  pub by_name_too_long : (build_by_name p incoming target space ≡ refused_at 27 0) ↔ PlanTooLong ByName p no_defaults incoming target space
  by_name_too_long = (λ e. by_name_past p incoming target space e, λ L. by_name_back p incoming target space L)

module _ (p : Policy) (index owner : ℕ) (incoming target defaults : Bytes) (space : ℕ) where
  pub by_number_too_long : (build_by_number p index owner incoming target defaults space ≡ refused_at 27 0)
      ↔ NumberTooLong p index owner incoming target defaults space
  by_number_too_long = (λ e. by_number-past p index owner incoming target defaults space e, λ N. by_number_back p index owner incoming target defaults space N)

-- ---- Document 02, L1, "Decimal fields". Its numbers 50, 51 and 52 are in the lists above, and demand 3 is said of
-- decimals as of every other type.

-- "value an i64 of magnitude below ten to the precision": so is every decimal of a record that fits, at whatever level
module _ {lay rec : Bytes} (or : AllBytes rec) (F : FitsLayout lay rec) where
  pub values_fit : FitsAll (fields_of (columns_of_of F)) F.values
  values_fit = (record_back (fields_of (columns_of_of F)) rec or F.values F.end ((record_kept required_of rec (columns_of_of F)).forth F.values F.end
      F.reads).0).fits

pub decimal-within : {d : Decimal} {k : Leaf} {n : ℕ} → Fits (leaf (decimal d)) (vnumber k n) → nat_abs (signed 64 n) < 10 ^ d.precision
unfolding within_precision
decimal-within {d} {k} {n} (fit_number e h w) = ltb-true (nat_abs (signed 64 n)) (10 ^ d.precision) (rw (← e) at w)

same_number : {A : Type 0} {m n j k : ℕ} → ◌≡◌ {A = Answer A} (refused_at m j) (refused_at n k) → m ≡ n
same_number e = cc

module _ {incoming target bytes rec : Bytes} {F : FitsLayout incoming rec} {room : ℕ} (R : Running incoming target bytes rec F room) where
  no_other : {n k : ℕ} → (n ≡ 44 → ⊥) → (n ≡ 45 → ⊥) → run_plan incoming target bytes rec room ≡ refused_at n k → ⊥
  no_other {n} a b e = go R.only
    where
      go : (run_plan incoming target bytes rec room ≡ refused_at 44 0)
          ⊎ ((run_plan incoming target bytes rec room ≡ refused_at 45 0)
          ⊎ ((b : Bytes) × (run_plan incoming target bytes rec room ≡ accepted b) × FitsLayout target b)) → ⊥
      go (inl q) = a (same_number (sym e ∙ q))
      go (inr (inl q)) = b (same_number (sym e ∙ q))
      go (inr (inr (b, q, G))) = clash (cc)

  -- "to fit, a record must now meet no 52 either": where it fits and the plan passed the check, the run does not refuse
  -- with 52
  pub no_large_decimal : {k : ℕ} → run_plan incoming target bytes rec room ≡ refused_at 52 k → ⊥
  no_large_decimal e = no_other (λ z. omega (arith, z)) (λ z. omega (arith, z)) e

  -- L5: "To fit, a record must now also meet no 56"
  pub no_null-required : {k : ℕ} → run_plan incoming target bytes rec room ≡ refused_at 56 k → ⊥
  no_null-required e = no_other (λ z. omega (arith, z)) (λ z. omega (arith, z)) e

-- "A new policy flag allows a larger precision at the same scale ..; the cast is NonStrict"; "51 when the widening flag
-- is off, in place of the cast"
pub widening_rule : (p : Policy) (d e : Decimal) → widens d e ≡ true → pair_rule p (decimal d) (decimal e) ≡ need p.decimal_widening 51 (cast NonStrict)
unfolding pair_rule chain params_of decimals_of
widening_rule p d e h = rw h

-- ".. and keeps the value"
pub widening_keeps : (d e : Decimal) (n : ℕ) → convert (Leaf.Decimal d) (Leaf.Decimal e) n ≡ vnumber (Leaf.Decimal e) n
unfolding convert convert_as
widening_keeps d e n = refl

-- "Other unequal decimals are 24"
pub unequal_decimals : (p : Policy) (d e : Decimal) → widens d e ≡ false → same_decimal d e ≡ false → pair_rule p (decimal d) (decimal e) ≡ refused 24
unfolding pair_rule chain params_of decimals_of
unequal_decimals p d e h g = rw (h, g)

-- "In a defaults table the faults of 50 and 52 are 3, in a plan 30": a table is refused with 1 to 6 alone, a plan with
-- 30 alone
pub table-refused : (defaults : Bytes) {n : ℕ} → table defaults ≡ refuse n → is_in n table_refusals ≡ true
table-refused defaults e = refused_in (table_in defaults) e

pub plan-refused : (bytes : Bytes) {n : ℕ} → plan bytes ≡ refuse n → is_in n (30 ∷ []) ≡ true
plan-refused bytes e = refused_in (plan_in bytes) e

-- ---- Document 02, L3, "Strict top columns": "the first incoming column with no target counterpart refuses the build",
-- "53 for such a column, tested after the defaults are read and before the first target column, its place being the
-- incoming position". 53 holds exactly where the layouts are read and of an edition that is taken, by number the table
-- too, a column is extra under Raise, and the place is the first one's position (`ExtraColumn`, specs/Stated.antt).

module _ (p : Policy) (incoming target : Bytes) (space : ℕ) where
  pub by_name_extra : {k : ℕ} → (build_by_name p incoming target space ≡ refused_at 53 k) ↔ ExtraColumn ByName p incoming target k
  by_name_extra = (λ e. by_name_raised p incoming target space e, λ E. by_name_raises p incoming target space E)

  -- "Ignore is as before": every answer is what it was, without the test
  pub by_name_ignoring : p.extra_columns ≡ Ignore
      → build_by_name p incoming target space ≡ both_layouts ByName incoming target (λ a b. answered (build_from ByName p no_defaults b a 0)
      (λ ss. written_plan space ss))
  by_name_ignoring h = name_ignoring p incoming target space h

module _ (p : Policy) (index owner : ℕ) (incoming target defaults : Bytes) (space : ℕ) where
  pub by_number_extra : {k : ℕ} → (build_by_number p index owner incoming target defaults space ≡ refused_at 53 k) ↔ NumberExtraColumn p incoming target defaults k
  by_number_extra = (λ e. by_number_raised p index owner incoming target defaults space e, λ E. by_number-raises p index owner incoming target defaults space E)

  pub by_number_ignoring : p.extra_columns ≡ Ignore
      → build_by_number p index owner incoming target defaults space
      ≡ both_layouts ByNumber incoming target (λ a b. read_at_of 3 (table defaults) (λ t.
      answered (build_from ByNumber p (get_default_value (entries_of owner t.entries) index) b a 0) (λ ss. written_plan space ss)))
  by_number_ignoring h = number_ignoring p index owner incoming target defaults space h

-- ---- Document 02, L5, "Required fields". 54, 55 and 56 are in the lists above, 54 and 55 for a build by number alone;
-- what passes the check, 55 included, and what fits, 56 included, is what demand 3 is said of; so is that both
-- builders' plans pass the check.

-- "An accepted plan must never give null to a required field": what the run of a plan that passed writes fits the
-- target (`run_passed`), and no null of what fits stands in a required field, at whatever level (`FilledAll`, crate
-- values)
module _ {lay rec : Bytes} (F : FitsLayout lay rec) where
  pub required-filled : FilledAll required_of (columns_of_of F) F.values
  required-filled = ((record_kept required_of rec (columns_of_of F)).forth F.values F.end F.reads).1
