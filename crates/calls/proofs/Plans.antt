-- The two calls: the layouts and the table that were read, and the plan that was written. Assumes nothing.
use Prim.Native.Nat.{ℕ, zero, suc, ◌+◌, ◌*◌, ◌≤◌, ◌<◌}
use mathlib.Core.Path.{◌≡◌, refl, sym, ap, ◌∙◌, subst}
use mathlib.Core.Bool.{Bool, true, false, ◌&&◌, and-false}
use mathlib.Core.List.{List, [], ◌++◌}
use native.Mathlib.Omega.{arith}
use native.Mathlib.Nat.{zero-add}
use lib.ListN.{length, take}
use lib.Dec.{leb}
use lib.Seq.{slice}
use borrow.Author.Tests.{le-leb, lt-leb}
use Rattle.store.specs.code.Overlay.{overlay, Holds}
use Rattle.store.proofs.Overlay.{overlay_front, slice-take}
use Rattle.store.proofs.Holds.{holds_exact, holds-append, holds_front}
use Rattle.layout.specs.Bytes.{Bytes}
use Rattle.layout.specs.Parser.{refuse, ok}
use Rattle.layout.specs.Tree.{Columns, cnil, ccons, count_columns, Layout}
use Rattle.layout.specs.Layout.{columns, type, deepest, layout}
use Rattle.layout.specs.code.Answers.{layout_of}
use Rattle.layout.specs.code.Stands.{ColumnsAt, LayoutAt}
use Rattle.layout.specs.declared.columns.Siblings.TheVariants.{Free}
use Rattle.layout.specs.declared.cursor.Cursor.{Cursor}
use Rattle.layout.specs.declared.read.LayoutRead.{LayoutRead}
use Rattle.layout.specs.declared.edition.Edition.{Edition}
use Rattle.layout.specs.declared.matching.Matching.{Matching}
use Rattle.layout.specs.declared.matching.Matching.TheVariants.{ByName, ByNumber}
use Rattle.layout.proofs.Ways.{clash}
use Rattle.layout.proofs.Top.{columns-count}
use Rattle.layout.proofs.View.{next-ok, no_column}
use Rattle.layout.proofs.Whole.{layout-at, layout-small}
use Rattle.forms.specs.Form.{u16_bytes}
use Rattle.forms.proofs.Read.{label-ends}
use Rattle.forms.proofs.Theorems.{columns-reach}
use Rattle.rules.specs.declared.policy.Policy.{Policy}
use Rattle.defaults.specs.declared.lookup.DefaultFieldValues.{DefaultFieldValues}
use Rattle.defaults.specs.declared.read.TableVersion.{TableVersion}
use Rattle.defaults.specs.declared.read.TableVersion.TheVariants.{Shared}
use Rattle.defaults.specs.Table.{Entry, entries_of, entries, table}
use Rattle.defaults.specs.Lookup.{get_default_value, first_entry_of}
use Rattle.defaults.specs.code.Stands.{TableAt}
use Rattle.defaults.specs.code.Index.{Indexed, IndexedTable}
use Rattle.defaults.specs.declared.read.TableRead.{TableRead}
use Rattle.defaults.proofs.Whole.{TableGot}
use Rattle.plan.specs.Result.{Result, gives, refuses, demand, Answer, accepted, refused_at, placed, answered}
use Rattle.plan.specs.Selector.{Selector, Selectors, snil, scons, count_selectors}
use Rattle.plan.specs.Encode.{encode_selectors, encode_plan}
use Rattle.plan.specs.Read.{longest_plan}
use Rattle.matching.specs.Default.{Defaults, no_defaults}
use Rattle.matching.specs.Build.{extra_columns, build_from, build}
use Rattle.plan.specs.Calls.{read_at_of, buffer_after}
use Rattle.plan.specs.code.Written.{write_result}
use Rattle.matching.specs.Calls.{takes, of_edition, both_layouts, room_for, written_plan, build_by_name, build_by_number}
use Rattle.calls.specs.code.Answers.{BothAt, BothIs, extra_answer, columns_made, WroteColumns, MakesColumns, plan_head, written, LongerThan, Attempted}
use Rattle.calls.specs.declared.write.Attempt.{Attempt}
use Rattle.plan.specs.declared.answer.WriteResult.{WriteResult}
use Rattle.calls.specs.declared.layouts.BothRead.{BothRead}
use Rattle.calls.specs.declared.columns.ColumnsMade.{ColumnsMade}
use Rattle.calls.specs.declared.layouts.Both.{Both}
use Rattle.calls.specs.declared.extra.ExtraColumn.{ExtraColumn}

-- ---- the two layouts

-- 1 to 6 of the first, of the second, then 10
module _ (v : Matching) (incoming target : Bytes) (f : Columns → Columns → Answer Bytes) where
  pub first-refused : {k : ℕ} → layout incoming ≡ refuse k → both_layouts v incoming target f ≡ refused_at k 1
  unfolding both_layouts read_at_of
  first-refused h = rw h

  module _ {a : Layout} {m : ℕ} (h : layout incoming ≡ ok a m) where
    pub second-refused : {k : ℕ} → layout target ≡ refuse k → both_layouts v incoming target f ≡ refused_at k 2
    unfolding both_layouts read_at_of
    second-refused g = rw (h, g)

    both-tested : {b : Layout} {n : ℕ} {t : Bool} → layout target ≡ ok b n → (takes v a.edition && takes v b.edition) ≡ t
        → both_layouts v incoming target f ≡ placed 0 (demand t 10 (gives (tt {0}))) (λ x. f a.columns b.columns)
    unfolding both_layouts read_at_of of_edition
    both-tested g q = rw (h, g, q)

    pub editions_refused : {b : Layout} {n : ℕ} → layout target ≡ ok b n → (takes v a.edition && takes v b.edition) ≡ false → both_layouts v
        incoming target f ≡ refused_at 10 0
    unfolding placed demand
    editions_refused g q = both-tested g q

    pub editions_taken : {b : Layout} {n : ℕ} → layout target ≡ ok b n → (takes v a.edition && takes v b.edition) ≡ true → both_layouts v incoming
        target f ≡ f a.columns b.columns
    unfolding placed demand
    editions_taken g q = both-tested g q

both_true : (a b : Bool) → (a && b) ≡ true → (a ≡ true) × (b ≡ true)
both_true true b h = (refl, h)
both_true false b h = clash (cc)

-- a layout's columns, by the answer
columns_of : {s : Bytes} {v : Edition} {n at : ℕ} (L : LayoutAt s v n) → at ≡ 7 → ColumnsAt v deepest s n at
columns_of {s} {v} {n} {at} L z = record {
  columns = L.columns.columns;
  end = L.columns.end;
  reads = ap (λ (j : ℕ). columns v Free (type v Free deepest) n [] s j) z ∙ L.columns.reads;
}

module _ (how : Matching) (incoming target : Bytes) {r q : LayoutRead} (e : r ≡ layout_of (layout incoming)) (g : q ≡ layout_of (layout target))
    {a w : Edition} {n m : ℕ} {c b : Cursor}
    (f : r ≡ LayoutRead.Read a n c) (h : q ≡ LayoutRead.Read w m b) {x y z : Bool} (i : x ≡ takes how a) (j : y ≡ takes how w) (t : z ≡ (x && y)) where
  tested : {o : Bool} → z ≡ o → (takes how a && takes how w) ≡ o
  tested u = sym (ap (λ (k : Bool). k && takes how w) i) ∙ sym (ap (λ (k : Bool). x && k) j) ∙ sym t ∙ u

  pub both_read : z ≡ true → BothAt how incoming target a w (record { incoming = record { count = n; first = c }; target = record { count = m; first = b } })
  unfolding columns_of
  both_read u =
      let (L, l) = layout-at incoming e f in
      let (M, o) = layout-at target g h in
      let k = tested u in
      record {
        from = columns_of L l;
        to = columns_of M o;
        taken = (both_true (takes how a) (takes how w) k).1;
        starts = o;
        small = layout-small M;
        is = λ φ. editions_taken how incoming target φ L.reads M.reads k;
      }

  pub both_differ : z ≡ false → (φ : Columns → Columns → Answer Bytes) → both_layouts how incoming target φ ≡ refused_at 10 0
  both_differ u φ =
      let (L, l) = layout-at incoming e f in
      let (M, o) = layout-at target g h in
      editions_refused how incoming target φ L.reads M.reads (tested u)

-- what `read_both` answered
module _ (how : Matching) (incoming target : Bytes) (r : BothRead) (h : BothIs how incoming target r) where
  pub both_at : {v w : Edition} {both : Both} → r ≡ BothRead.Read v w both → BothAt how incoming target v w both
  both_at e = subst (λ (x : BothRead). BothIs how incoming target x) e h

  pub both-refused : {n k : ℕ} → r ≡ BothRead.Refused n k → (f : Columns → Columns → Answer Bytes) → both_layouts how incoming target f ≡ refused_at n k
  both-refused e = subst (λ (x : BothRead). BothIs how incoming target x) e h

-- ---- 27

module _ (room : ℕ) (p : Bytes) where
  long : room_for room p ≡ false → written room p ≡ refused_at 27 0
  unfolding placed demand
  long h = ap (λ (b : Bool). placed 0 (demand b 27 (gives p)) (λ b. accepted b)) h

  fits : room_for room p ≡ true → written room p ≡ accepted p
  unfolding placed demand
  fits h = ap (λ (b : Bool). placed 0 (demand b 27 (gives p)) (λ b. accepted b)) h

  module _ {len : ℕ} (e : len ≡ length p) where
    pub past_limit : longest_plan < len → written room p ≡ refused_at 27 0
    unfolding room_for
    past_limit h = long (ap (λ (b : Bool). leb (length p) room && b) (lt-leb (length p) longest_plan (omega arith)) ∙ and-false (leb (length p) room))

    pub past-buffer : room < len → written room p ≡ refused_at 27 0
    unfolding room_for
    past-buffer h = long (ap (λ (b : Bool). b && leb (length p) longest_plan) (lt-leb (length p) room (omega arith)))

    pub within_both : len ≤ room → len ≤ longest_plan → written room p ≡ accepted p
    unfolding room_for
    within_both h g = fits (ap (λ (b : Bool). b && leb (length p) longest_plan) (le-leb (length p) room (omega arith)) ∙ le-leb (length p) longest_plan
        (omega arith))

-- a refusal changes nothing
pub plan-kept : {X : Answer Bytes} {n k : ℕ} (out : Bytes) → X ≡ refused_at n k → (WriteResult.Refused n k ≡ write_result X) × (out ≡ buffer_after X out)
plan-kept out h = (sym (ap write_result h), sym (ap (λ (x : Answer Bytes). buffer_after x out) h))

-- the front of what was built, copied
pub plan-copied : (s : Bytes) {len : ℕ} (p : Bytes) (X : Answer Bytes) (out : Bytes) {o : Bytes} → len ≡ length p → take len s ≡ p → X ≡ accepted p →
    len ≤ length s → len ≤ length out → o ≡ overlay out 0 (slice 0 len s)
    → (WriteResult.Written len ≡ write_result X) × (o ≡ buffer_after X out)
plan-copied s {len} p X out {o} e t h l m w =
    let z : slice 0 len s ≡ p = ap (λ (j : ℕ). slice 0 j s) (sym (zero-add len)) ∙ slice-take s 0 len (omega arith) ∙ t in (
      ap WriteResult.Written e ∙ sym (ap write_result h),
      w ∙ ap (overlay out 0) z ∙ overlay_front out p (omega arith) ∙ sym
          (ap (λ (x : Answer Bytes). buffer_after x out) h),
    )

-- ---- the plan

-- as many selectors as target columns
one_more : (i : ℕ) (X : Result Selector) (Y : Answer Selectors) (ss : Selectors) (n : ℕ) → ((rs : Selectors) → Y ≡ accepted rs → count_selectors rs ≡ n)
    → placed i X (λ s. answered Y (λ rs. accepted (scons s rs))) ≡ accepted ss → count_selectors ss ≡ suc n
unfolding placed answered count_selectors
one_more i (refuses k) Y ss n f h = clash (cc)
one_more i (gives s) (refused_at k j) ss n f h = clash (cc)
one_more i (gives s) (accepted rs) ss n f h = let q : ss ≡ scons s rs = cc in rw q (ap suc (f rs refl))

count-built : (v : Matching) (p : Policy) (d : Defaults) (gs fs : Columns) (i : ℕ) (ss : Selectors) → build_from v p d gs fs i ≡ accepted ss →
    count_selectors ss ≡ count_columns gs
unfolding build_from count_columns count_selectors
count-built v p d cnil fs i ss h = let q : ss ≡ snil = cc in rw q
count-built v p d (ccons l u gs) fs i ss h = one_more i _ (build_from v p d gs fs (i + 1)) ss (count_columns gs) (count-built v p d gs fs (i + 1)) h

pub count-is : (how : Matching) (p : Policy) (d : Defaults) (fs : Columns) {v : Edition} {s : Bytes} {m at : ℕ} (Q : ColumnsAt v deepest s m at)
    (ss : Selectors)
    → build_from how p d Q.columns fs 0 ≡ accepted ss → count_selectors ss ≡ m
count-is how p d fs {v} {s} {m} {at} Q ss h =
    count-built how p d Q.columns fs 0 ss h ∙ columns-count v Free (type v Free deepest) m [] s at Q.columns Q.end Q.reads

-- columns end within the bytes, or where they begin
columns-end : {v : Edition} {d : ℕ} {s : Bytes} (n : ℕ) {at : ℕ} (Q : ColumnsAt v d s n at) → Q.end ≤ at + length s
unfolding columns
columns-end zero Q = let (a, b) = no_column Q refl in omega arith
columns-end {v} {d} {s} (suc n) {at} Q =
    let (l, i, h, g) = next-ok _ _ Q.reads in
    let (a, (b, c)) = label-ends s v at h in
    let (x, y, z, w) = columns-reach Q (let le : at ≤ length s = omega arith in le) in
    omega arith

-- the index behind the selectors stays in its bounds
pub columns-room : (X : Answer Selectors) {v : Edition} {d : ℕ} {s : Bytes} {n at : ℕ} (Q : ColumnsAt v d s n at) {out : Bytes} {k : ℕ}
    {r : ColumnsMade} {o : Bytes} {len : ℕ}
    → MakesColumns at Q.end out k X r o → r ≡ ColumnsMade.Done len → len ≤ 65536 * length s
unfolding columns_made WroteColumns
columns-room (refused_at m j) Q {len = len} A q = let z : ColumnsMade.Failed m j ≡ ColumnsMade.Done len = sym A.answer ∙ q in clash (cc)
columns-room (accepted ss) {n = n} Q {len = len} A q =
    let z : ColumnsMade.Done (length (encode_selectors ss)) ≡ ColumnsMade.Done len = sym A.answer ∙ q in
    let y : length (encode_selectors ss) ≡ len = cc in
    let w = A.wrote.1 in
    let e = columns-end n Q in
    omega arith

-- a stronger fact of a plan that is longer than the room
attempt_as : {Long Longer : Type 0} (X : Answer Bytes) (out : Bytes) (y : Attempt) (o : Bytes) → (Longer → Long) → Attempted Longer X out y o →
    Attempted Long X out y o
attempt_as X out (Attempt.Answer r) o f h = h
attempt_as X out Attempt.Short o f (l, k) = (f l, k)

module _ (plan : Bytes) {b e : ℕ} {o₁ o₂ : Bytes} {r : ColumnsMade} where
  pub plan-refused : (X : Answer Selectors) {n i : ℕ} → MakesColumns b e o₁ 7 X r o₂ → r ≡ ColumnsMade.Failed n i
      → (WriteResult.Refused n i ≡ write_result (answered X (written_plan (length plan)))) × (plan ≡ buffer_after (answered X (written_plan (length plan))) plan)
  unfolding answered columns_made
  plan-refused (refused_at m j) {n} {i} A q = let z : ColumnsMade.Failed m j ≡ ColumnsMade.Failed n i = sym A.answer ∙ q in let x : m ≡ n = cc in let
      y : j ≡ i = cc in (rw (x, y), refl)
  plan-refused (accepted ss) {n} {i} A q = let z : ColumnsMade.Done (length (encode_selectors ss)) ≡ ColumnsMade.Failed n i = sym A.answer ∙ q in clash (cc)

  -- the plan that X is, where y and o are what `write_plan` made of its bytes
  pub plan-written : (room : Bytes) (X : Answer Selectors) {m len : ℕ} (y : Attempt) (o : Bytes) →
      ((ss : Selectors) → X ≡ accepted ss → count_selectors ss ≡ m) → MakesColumns b e o₁ 7 X r o₂ → r ≡ ColumnsMade.Done len
      → o₁ ≡ overlay room 0 (plan_head m) → length o₁ ≡ length room → length o₂ ≡ length room
      → ((p : Bytes) → 7 + len ≡ length p → (7 + len ≤ length o₂ → take (7 + len) o₂ ≡ p) → Attempted (length o₂ < length p) (written (length plan) p) plan y o)
      → Attempted (LongerThan (length room) X) (answered X (written_plan (length plan))) plan y o
  unfolding answered columns_made WroteColumns written_plan encode_plan u16_bytes
  plan-written room (refused_at k j) {len = len} y o f A q h l z g = let x : ColumnsMade.Failed k j ≡ ColumnsMade.Done len = sym A.answer ∙ q in clash (cc)
  plan-written room (accepted ss) {m} {len} y o f A q h l z g =
      let x : ColumnsMade.Done (length (encode_selectors ss)) ≡ ColumnsMade.Done len = sym A.answer ∙ q in
      let n : length (encode_selectors ss) ≡ len = cc in
      let w : Holds room 0 (plan_head m ++ encode_selectors ss) o₂ = holds-append room 0 (plan_head m) (encode_selectors ss) o₁ o₂ l
      (holds_exact room 0 (plan_head m) h) A.wrote.0 in
      let c : plan_head m ++ encode_selectors ss ≡ encode_plan ss = ap (λ (k : ℕ). plan_head k ++ encode_selectors ss) (sym (f ss refl)) in
      let u : 7 + len ≡ length (encode_plan ss) = let u : 7 + len ≡ suc (suc (suc (suc (suc (suc (suc (length (encode_selectors ss)))))))) = omega arith in u in
      let w' : Holds room 0 (encode_plan ss) o₂ = subst (λ (k : Bytes). Holds room 0 k o₂) c w in
      attempt_as (written (length plan) (encode_plan ss)) plan y o (λ lt. record { selectors = ss; accepts = refl; longer = omega arith })
      (g (encode_plan ss) u (λ le. ap (λ (k : ℕ). take k o₂) u ∙ holds_front room (encode_plan ss) o₂ (omega arith) w'))

-- ---- the attempts

module _ (Long : Type 0) (X : Answer Bytes) (out : Bytes) (y : Attempt) (o : Bytes) (A : Attempted Long X out y o) where
  pub attempt_answered : {r : WriteResult} → y ≡ Attempt.Answer r → (r ≡ write_result X) × (o ≡ buffer_after X out)
  attempt_answered e = subst (λ (z : Attempt). Attempted Long X out z o) e A

  pub attempt_short : y ≡ Attempt.Short → Long × (o ≡ out)
  attempt_short e = subst (λ (z : Attempt). Attempted Long X out z o) e A

-- 27 where the longest room is too short
pub plan-long : (plan : Bytes) {X : Answer Selectors} {o : Bytes} → LongerThan longest_plan X → o ≡ plan
    → (WriteResult.Refused 27 0 ≡ write_result (answered X (written_plan (length plan)))) × (o ≡ buffer_after (answered X (written_plan (length plan))) plan)
unfolding answered written_plan
plan-long plan {X} W k =
    let h : answered X (written_plan (length plan)) ≡ refused_at 27 0 = ap (λ (x : Answer Selectors). answered x (written_plan (length plan))) W.accepts
    ∙ past_limit (length plan) (encode_plan W.selectors) refl W.longer in
    let (a, b) = plan-kept plan h in
    (a, k ∙ b)

-- a second attempt, with the buffer as it was
pub plan_again : (X : Answer Selectors) {plan same : Bytes} {y : WriteResult} {o : Bytes} → same ≡ plan
    → (y ≡ write_result (answered X (written_plan (length same)))) × (o ≡ buffer_after (answered X (written_plan (length same))) same)
    → (y ≡ write_result (answered X (written_plan (length plan)))) × (o ≡ buffer_after (answered X (written_plan (length plan))) plan)
plan_again X {y = y} {o = o} e h = subst (λ (p : Bytes). (y ≡ write_result (answered X (written_plan (length p)))) ×
    (o ≡ buffer_after (answered X (written_plan (length p))) p)) e h

-- ---- 53, and what a build is after it

module _ (v : Matching) (p : Policy) (d : Defaults) (fs gs : Columns) {x : ExtraColumn} (e : extra_answer x ≡ extra_columns p.extra_columns v fs gs) where
  pub build_extra : {i : ℕ} → x ≡ ExtraColumn.At i → build v p d fs gs ≡ refused_at 53 i
  unfolding build answered
  build_extra h = ap (λ (a : Answer (Unit {0})). answered a (λ u. build_from v p d gs fs 0)) (sym e ∙ ap extra_answer h)

  pub build-plain : x ≡ ExtraColumn.Nothing → build v p d fs gs ≡ build_from v p d gs fs 0
  unfolding build answered
  build-plain h = ap (λ (a : Answer (Unit {0})). answered a (λ u. build_from v p d gs fs 0)) (sym e ∙ ap extra_answer h)

-- a refusal of the columns is one of the plan
pub answered-refused : {X : Answer Selectors} {n k : ℕ} (room : ℕ) → X ≡ refused_at n k → answered X (written_plan room) ≡ refused_at n k
unfolding answered
answered-refused room h = rw h

pub answered_as : {X Y : Answer Selectors} (room : ℕ) → X ≡ Y → answered X (written_plan room) ≡ answered Y (written_plan room)
answered_as room h = ap (λ (x : Answer Selectors). answered x (written_plan room)) h

-- ---- the calls

-- no entries stand anywhere, and give no defaults
abbrev no_values : DefaultFieldValues
no_values = record { version = Shared; count = 0; entries = record { at = 0 }; owner = 0; source_index = 0 }

pub no_table : (s : Bytes) → TableAt s no_values
unfolding entries entries_of
no_table s = record { all = []; end = 0; reads = refl; entries = []; owned = refl }

no_entries : {s : Bytes} (T : TableAt s no_values) (k : ℕ) → get_default_value T.entries k ≡ no_defaults
unfolding entries entries_of get_default_value first_entry_of
no_entries T k =
    let h = T.reads in
    let a : T.all ≡ [] = cc in
    let e : T.entries ≡ [] = T.owned ∙ ap (entries_of 0) a in
    ap (λ (es : List Entry). get_default_value es k) e ∙ (λ i j. no_defaults j)

module _ (p : Policy) (incoming target : Bytes) (room : ℕ) where
  pub by_name_refused : {n k : ℕ} → ((f : Columns → Columns → Answer Bytes) → both_layouts ByName incoming target f ≡ refused_at n k) → build_by_name p
      incoming target room ≡ refused_at n k
  unfolding build_by_name
  by_name_refused h = h _

  pub by_name_built : {v w : Edition} {both : Both} (B : BothAt ByName incoming target v w both) {s : Bytes} (T : TableAt s no_values) (k : ℕ)
      → build_by_name p incoming target room ≡ answered (build ByName p (get_default_value T.entries k) B.from.columns B.to.columns) (written_plan room)
  unfolding build_by_name
  by_name_built B T k = B.is _ ∙ ap (λ (d : Defaults). answered (build ByName p d B.from.columns B.to.columns) (written_plan room))
      (sym (no_entries T k))

module _ (p : Policy) (index owner : ℕ) (incoming target defaults : Bytes) (room : ℕ) where
  pub by_number-refused : {n k : ℕ} → ((f : Columns → Columns → Answer Bytes) → both_layouts ByNumber incoming target f ≡ refused_at n k)
      → build_by_number p index owner incoming target defaults room ≡ refused_at n k
  unfolding build_by_number
  by_number-refused h = h _

  module _ {v w : Edition} {both : Both} (B : BothAt ByNumber incoming target v w both) where
    pub by_number_untabled : {k : ℕ} → table defaults ≡ refuse k → build_by_number p index owner incoming target defaults room ≡ refused_at k 3
    unfolding build_by_number read_at_of
    by_number_untabled h = B.is _ ∙ rw h

    pub by_number-built : {x : TableVersion} {l : ℕ} {d : Cursor}
        (G : TableGot defaults (record { version = x; count = l; entries = d; owner = owner; source_index = index }))
        → build_by_number p index owner incoming target defaults room
        ≡ answered (build ByNumber p (get_default_value G.entries.entries index) B.from.columns B.to.columns) (written_plan room)
    unfolding build_by_number read_at_of
    by_number-built G =
        B.is _
        ∙ rw G.reads
        (ap (λ (es : List Entry). answered (build ByNumber p (get_default_value es index) B.from.columns B.to.columns) (written_plan room))
        (sym G.owned))

-- the index that `read_table` left behind
pub indexed-read : {s : Bytes} {index : List ℕ} (r : TableRead) {v : TableVersion} {n : ℕ} {c : Cursor} → IndexedTable s r index → r ≡ TableRead.Read v n c
    → Indexed v s n c.at index
indexed-read {s} {index} r h e = subst (λ (x : TableRead). IndexedTable s x index) e h

-- an answer and a buffer, under another name of what they are
pub plan_as : {X Y : Answer Bytes} {y : WriteResult} {o : Bytes} (out : Bytes) → X ≡ Y → (y ≡ write_result Y) × (o ≡ buffer_after Y out) →
    (y ≡ write_result X) × (o ≡ buffer_after X out)
plan_as out h (a, b) = (a ∙ sym (ap write_result h), b ∙ sym (ap (λ (x : Answer Bytes). buffer_after x out) h))
