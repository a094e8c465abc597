-- Passing over labels, types and columns: what is answered on each way, and what holds after i of n columns. Assumes
-- nothing.
use Prim.Native.Nat.{ℕ, suc, ◌+◌, ◌-◌, ◌≤◌, ◌<◌}
use mathlib.Core.Path.{◌≡◌, refl, sym, ap, ◌∙◌}
use mathlib.Core.List.{[], ◌∷◌, ◌++◌}
use mathlib.Core.Bool.{Bool}
use native.Mathlib.Omega.{arith}
use native.Mathlib.Decide.{dec_lt}
use lib.ListN.{length, get_or}
use borrow.Author.Tests.{lt-ltb, le-ltb, ne_eqb}
use Rattle.layout.specs.Bytes.{Bytes}
use Rattle.layout.specs.Parser.{Res, refuse, ok, next, choose, byte, u16, u32}
use Rattle.layout.specs.Tree.{Label, ColumnType, leaf_type, cstruct, clist, carray}
use Rattle.layout.specs.Layout.{a_leaf, text, unit, required_mark, field_id, field_mark, label_rest, label, element_label, plain_leaf, leaf_head}
use Rattle.layout.specs.Layout.{datetime_head, decimal_params, decimal_head, struct_head, array_head, kind_of, kind, body, struct_type, list_type, array_type}
use Rattle.layout.specs.Layout.{columns, type}
use Rattle.layout.specs.code.Pass.{type_rest}
use Rattle.layout.specs.code.Answers.{step_res, short_res, unit_res, decimal_res, mark_res, text_res, moved_of}
use Rattle.layout.specs.declared.bytes.Span.{Span}
use Rattle.layout.specs.declared.cursor.Cursor.{Cursor}
use Rattle.layout.specs.declared.cursor.Step.{Step}
use Rattle.layout.specs.declared.cursor.Short.{Short}
use Rattle.layout.specs.declared.cursor.Moved.{Moved}
use Rattle.layout.specs.declared.cursor.Text.{Text}
use Rattle.layout.specs.declared.leaf.TimeUnit.{TimeUnit}
use Rattle.layout.specs.declared.leaf.Leaf.{Leaf}
use Rattle.layout.specs.declared.leaf.Decimal.{Decimal}
use Rattle.layout.specs.declared.types.PlainLeaf.{PlainLeaf}
use Rattle.layout.specs.declared.types.Unit.{Unit as UnitRead}
use Rattle.layout.specs.declared.types.DecimalRead.{DecimalRead}
use Rattle.layout.specs.declared.columns.MarkRead.{MarkRead}
use Rattle.layout.specs.declared.columns.Siblings.{Siblings}
use Rattle.layout.specs.declared.edition.Edition.{Edition}
use Rattle.layout.proofs.Leaves.{other-code}
use Rattle.layout.proofs.Ways.{clash, moved_to, moved_refused, to-pure, choose-true, choose-false, type-deep}
use Rattle.layout.proofs.FreeRule.{repeats_free}
use Rattle.layout.proofs.Reading.{columns-suc}
use Rattle.layout.proofs.View.{columns-any}

-- ---- four bytes

module _ (s : Bytes) where
  byte_in : (at : ℕ) → at < length s → byte s at ≡ ok (get_or s at 0) (at + 1)
  unfolding byte
  byte_in at h = sym (choose-true _ _ _ (lt-ltb at (length s) h) refl)

  byte-out : (at : ℕ) → length s ≤ at → byte s at ≡ refuse 2
  unfolding byte
  byte-out at h = sym (choose-false _ _ _ (le-ltb at (length s) h) refl)

module _ (s : Bytes) (at : ℕ) where
  pub long_in : at ≤ length s → 4 ≤ length s - at → Moved.To (record { at = at + 4 }) ≡ moved_of (u32 s at)
  unfolding u32 u16 next moved_of
  long_in h k =
      rw (byte_in s at (omega arith), byte_in s (at + 1) (omega arith), byte_in s (at + 1 + 1) (omega arith), byte_in s (at + 1 + 1 + 1) (omega arith))
      (ap (λ (i : ℕ). Moved.To (record { at = i })) (let e : at + 4 ≡ at + 1 + 1 + 1 + 1 = omega arith in e))

  -- by the first byte that is not there
  missing : Dec (at < length s) → Dec (at + 1 < length s) → Dec (at + 1 + 1 < length s) → length s < at + 4 → Moved.Refused 2 ≡ moved_of (u32 s at)
  unfolding u32 u16 next moved_of
  missing (no a) b c h = rw (byte-out s at (omega arith))
  missing (yes a) (no b) c h = rw (byte_in s at a, byte-out s (at + 1) (omega arith))
  missing (yes a) (yes b) (no c) h = rw (byte_in s at a, byte_in s (at + 1) b, byte-out s (at + 1 + 1) (omega arith))
  missing (yes a) (yes b) (yes c) h = rw (byte_in s at a, byte_in s (at + 1) b, byte_in s (at + 1 + 1) c, byte-out s (at + 1 + 1 + 1) (omega arith))

  gone : length s < at + 4 → Moved.Refused 2 ≡ moved_of (u32 s at)
  gone h = missing (dec_lt at (length s)) (dec_lt (at + 1) (length s)) (dec_lt (at + 1 + 1) (length s)) h

  pub long-past : length s < at → Moved.Refused 2 ≡ moved_of (u32 s at)
  long-past h = gone (omega arith)

  pub long-short : at ≤ length s → length s - at < 4 → Moved.Refused 2 ≡ moved_of (u32 s at)
  long-short h k = gone (omega arith)

-- ---- a label

module _ (v : Edition) (s : Bytes) (at : ℕ) {p : Text} (e : text_res s p ≡ text s at) where
  pub label-named : {b : Span} {c : Cursor} → p ≡ Text.Is b c → v ≡ Edition.One → Moved.To c ≡ moved_of (label v s at)
  unfolding label label_rest field_id field_mark next moved_of
  label-named f h = rw (← e, f, h)

  pub label-numbered : {b : Span} {c : Cursor} {o : Moved} → p ≡ Text.Is b c → v ≡ Edition.Two → o ≡ moved_of (u32 s c.at) → o ≡ moved_of (label v s at)
  unfolding label label_rest field_id field_mark next
  label-numbered {c = c} f h g = rw (← e, f, h) (to-pure _ (u32 s c.at) g)

  module _ {b : Span} {c : Cursor} (f : p ≡ Text.Is b c) (h : v ≡ Edition.Three) {q : Moved} (g : q ≡ moved_of (u32 s c.at)) where
    pub label_idless : {k : ℕ} → q ≡ Moved.Refused k → Moved.Refused k ≡ moved_of (label v s at)
    unfolding label label_rest field_id next moved_of
    label_idless i = rw (← e, f, h) (rw (moved_refused (u32 s c.at) g i))

    module _ {d : Cursor} (i : q ≡ Moved.To d) {m : MarkRead} (j : mark_res m ≡ required_mark s d.at) where
      pub label-marked : {r : Bool} {n : Cursor} → m ≡ MarkRead.Is r n → Moved.To n ≡ moved_of (label v s at)
      unfolding label label_rest field_id field_mark next moved_of
      label-marked k = rw (← e, f, h) (rw ((moved_to (u32 s c.at) g i).1, ← j, k))

      pub label-markless : {k : ℕ} → m ≡ MarkRead.Refused k → Moved.Refused k ≡ moved_of (label v s at)
      unfolding label label_rest field_id field_mark next moved_of
      label-markless k = rw (← e, f, h) (rw ((moved_to (u32 s c.at) g i).1, ← j, k))

  pub label_nameless : {k : ℕ} → p ≡ Text.Refused k → Moved.Refused k ≡ moved_of (label v s at)
  unfolding label next moved_of
  label_nameless f = rw (← e, f)

-- ---- a date-time

module _ (s : Bytes) (at : ℕ) {p : UnitRead} (e : unit_res p ≡ unit s at) where
  module _ {u : TimeUnit} {c : Cursor} (f : p ≡ UnitRead.Is u c) {q : Text} (g : text_res s q ≡ text s c.at) where
    pub datetime_whole : {z : Span} {d : Cursor} → q ≡ Text.Is z d → Moved.To d ≡ moved_of (datetime_head s at)
    unfolding datetime_head next moved_of
    datetime_whole h = rw (← e, f, ← g, h)

    pub datetime_zoneless : {k : ℕ} → q ≡ Text.Refused k → Moved.Refused k ≡ moved_of (datetime_head s at)
    unfolding datetime_head next moved_of
    datetime_zoneless h = rw (← e, f, ← g, h)

  pub datetime_unitless : {k : ℕ} → p ≡ UnitRead.Refused k → Moved.Refused k ≡ moved_of (datetime_head s at)
  unfolding datetime_head next moved_of
  datetime_unitless f = rw (← e, f)

-- ---- a decimal

module _ (s : Bytes) (at : ℕ) {p : DecimalRead} (e : decimal_res p ≡ decimal_params s at) where
  pub decimal_whole : {d : Decimal} {c : Cursor} → p ≡ DecimalRead.Is d c → Moved.To c ≡ moved_of (decimal_head s at)
  unfolding decimal_head next moved_of
  decimal_whole f = rw (← e, f)

  pub decimal-refused : {k : ℕ} → p ≡ DecimalRead.Refused k → Moved.Refused k ≡ moved_of (decimal_head s at)
  unfolding decimal_head next moved_of
  decimal-refused f = rw (← e, f)

-- ---- a type

pub type_unruled : (v : Edition) (r : Siblings) (s : Bytes) (at d : ℕ) {o : Moved} → r ≡ Siblings.Free → o ≡ moved_of (type v Siblings.Free d s at) → o ≡
    moved_of (type v r d s at)
type_unruled v r s at d h e = rw h e

pub not_plain : (code : ℕ) {q : PlainLeaf} → q ≡ plain_leaf code → q ≡ PlainLeaf.Unknown → plain_leaf code ≡ PlainLeaf.Unknown
not_plain code e f = sym e ∙ f

module _ (v : Edition) (r : Siblings) (s : Bytes) (at d : ℕ) (z : d ≡ 0 → ⊥) where
  level : moved_of (next (byte s at) (λ code m. type_rest v r (d - 1) code s m)) ≡ moved_of (type v r d s at)
  unfolding type kind type_rest next
  level = go (byte s at) ∙ ap (λ (k : ℕ). moved_of (type v r k s at)) (let e : suc (d - 1) ≡ d = omega arith in e)
    where
      go : (x : Res ℕ) → moved_of (next x (λ code m. type_rest v r (d - 1) code s m))
          ≡ moved_of (next (next x (λ code m. kind_of code s m)) (λ k m. body v r (type v r (d - 1)) k s m))
      go (refuse n) = refl
      go (ok code m) = refl

module _ (v : Edition) (r : Siblings) (s : Bytes) (at d : ℕ) (z : d ≡ 0 → ⊥) {p : Step} (e : step_res p ≡ byte s at) where
  pub pass-ended : {k : ℕ} → p ≡ Step.Refused k → Moved.Refused k ≡ moved_of (type v r d s at)
  unfolding next moved_of
  pass-ended f = rw (← level v r s at d z, ← e, f)

  module _ {code : ℕ} {c : Cursor} (f : p ≡ Step.Byte code c) {q : PlainLeaf} (g : q ≡ plain_leaf code) where
    pub pass-plain : {l : Leaf} → q ≡ PlainLeaf.Known l → Moved.To c ≡ moved_of (type v r d s at)
    unfolding next moved_of type_rest kind_of choose leaf_head body
    pass-plain h =
        let k = sym g ∙ h in
        rw (← level v r s at d z, ← e, f) (rw (
          other-code code 14 refl k,
          other-code code 18 refl k,
          other-code code 19 refl k,
          other-code code 20 refl
              k,
          other-code code 21 refl k,
          k,
        ))

    pub pass_on : {o : Moved} → o ≡ moved_of (type_rest v r (d - 1) code s c.at) → o ≡ moved_of (type v r d s at)
    unfolding next
    pass_on h = rw (← level v r s at d z, ← e, f) h

module _ (v : Edition) (r : Siblings) (d : ℕ) (s : Bytes) where
  -- an array's element is passed as a list's
  as-list : (w m : ℕ) → moved_of (list_type v (type v r d) s m) ≡ moved_of (array_type v w (type v r d) s m)
  unfolding list_type array_type next moved_of
  as-list w m = go (element_label v s m)
    where
      go : (x : Res Label) → moved_of (next x (λ l i. next (type v r d s i) (λ t j. ok (clist l t) j)))
          ≡ moved_of (next x (λ l i. next (type v r d s i) (λ t j. ok (carray w l t) j)))
      go (refuse n) = refl
      go (ok l i) = type_of_lem l (type v r d s i)
        where
          type_of_lem : (l : Label) (y : Res ColumnType) → moved_of (next y (λ t j. ok (clist l t) j)) ≡ moved_of (next y (λ t j. ok (carray w l t) j))
          type_of_lem l (refuse n) = refl
          type_of_lem l (ok t j) = refl

-- what follows a code
module _ (v : Edition) (r : Siblings) (d : ℕ) (s : Bytes) (at : ℕ) {code : ℕ} where
  pub rest-datetime : {o : Moved} → code ≡ 14 → o ≡ moved_of (datetime_head s at) → o ≡ moved_of (type_rest v r d code s at)
  unfolding type_rest kind_of choose datetime_head next moved_of body
  rest-datetime {o} h e = rw h (e ∙ go (unit s at) (λ m. text s m))
    where
      go : (x : Res TimeUnit) (y : ℕ → Res Bytes) → moved_of (next x (λ u m. next (y m) (λ z n. ok (a_leaf (leaf_type (Leaf.Datetime u) z)) n)))
          ≡ moved_of (next (next x (λ u m. next (y m) (λ z n. ok (a_leaf (leaf_type (Leaf.Datetime u) z)) n))) (λ k m. body v r (type v r d) k s m))
      go (refuse n) y = refl
      go (ok u m) y = zone u (y m)
        where
          zone : (u : TimeUnit) (y : Res Bytes) → moved_of (next y (λ z n. ok (a_leaf (leaf_type (Leaf.Datetime u) z)) n))
              ≡ moved_of (next (next y (λ z n. ok (a_leaf (leaf_type (Leaf.Datetime u) z)) n)) (λ k m. body v r (type v r d) k s m))
          zone u (refuse n) = refl
          zone u (ok z n) = refl

  pub rest-decimal : {o : Moved} → code ≡ 21 → o ≡ moved_of (decimal_head s at) → o ≡ moved_of (type_rest v r d code s at)
  unfolding type_rest kind_of choose decimal_head next moved_of body
  rest-decimal h e = rw h (e ∙ go (decimal_params s at))
    where
      go : (x : Res Decimal) → moved_of (next x (λ p m. ok (a_leaf (leaf_type (Leaf.Decimal p) [])) m))
          ≡ moved_of (next (next x (λ p m. ok (a_leaf (leaf_type (Leaf.Decimal p) [])) m)) (λ k m. body v r (type v r d) k s m))
      go (refuse n) = refl
      go (ok p m) = refl

  module _ {q : Short} (e : short_res q ≡ u16 s at) (h : code ≡ 18) where
    pub rest-struct : {n : ℕ} {c : Cursor} {o : Moved} → q ≡ Short.Is n c → o ≡ moved_of (columns v r (type v r d) n [] s c.at) → o ≡ moved_of
        (type_rest v r d code s at)
    unfolding type_rest kind_of choose struct_head next body struct_type
    rest-struct {n} {c} f g = rw (h, ← e, f) (to-pure cstruct (columns v r (type v r d) n [] s c.at) g)

    pub rest_uncounted : {k : ℕ} → q ≡ Short.Refused k → Moved.Refused k ≡ moved_of (type_rest v r d code s at)
    unfolding type_rest kind_of choose struct_head next moved_of
    rest_uncounted f = rw (h, ← e, f)

  pub rest-list : {o : Moved} → code ≡ 19 → o ≡ moved_of (list_type v (type v r d) s at) → o ≡ moved_of (type_rest v r d code s at)
  unfolding type_rest kind_of choose next body
  rest-list h e = rw h e

  module _ {q : Moved} (e : q ≡ moved_of (u32 s at)) (h : code ≡ 20) where
    pub rest-array : {c : Cursor} {o : Moved} → q ≡ Moved.To c → o ≡ moved_of (list_type v (type v r d) s c.at) → o ≡ moved_of (type_rest v r d code s at)
    unfolding type_rest kind_of choose array_head next body
    rest-array {c} f g = let t = moved_to (u32 s at) e f in rw (h, t.1) (g ∙ as-list v r d s t.0 c.at)

    pub rest_widthless : {k : ℕ} → q ≡ Moved.Refused k → Moved.Refused k ≡ moved_of (type_rest v r d code s at)
    unfolding type_rest kind_of choose array_head next moved_of
    rest_widthless f = rw (h, moved_refused (u32 s at) e f)

  pub rest_unknown : (code ≡ 14 → ⊥) → (code ≡ 18 → ⊥) → (code ≡ 19 → ⊥) → (code ≡ 20 → ⊥) → (code ≡ 21 → ⊥) → plain_leaf code ≡ PlainLeaf.Unknown
      → Moved.Refused 3 ≡ moved_of (type_rest v r d code s at)
  unfolding type_rest kind_of choose leaf_head next moved_of
  rest_unknown a b c e g f = rw (ne_eqb code 14 a, ne_eqb code 18 b, ne_eqb code 19 c, ne_eqb code 20 e, ne_eqb code 21 g, f)

-- an element's label
module _ (v : Edition) (s : Bytes) (at : ℕ) where
  pub label-none : {c : Cursor} → v ≡ Edition.One → c.at ≡ at → Moved.To c ≡ moved_of (element_label v s at)
  unfolding element_label moved_of
  label-none h e = rw (h, ← e)

  pub label-two : {o : Moved} → v ≡ Edition.Two → o ≡ moved_of (label v s at) → o ≡ moved_of (element_label v s at)
  unfolding element_label
  label-two h e = rw h (rw h at e)

  pub label_three : {o : Moved} → v ≡ Edition.Three → o ≡ moved_of (label v s at) → o ≡ moved_of (element_label v s at)
  unfolding element_label
  label_three h e = rw h (rw h at e)

-- an element
module _ (v : Edition) (r : Siblings) (d : ℕ) (s : Bytes) (at : ℕ) where
  of-type : (l : Label) {o : Moved} (m : ℕ) → element_label v s at ≡ ok l m → o ≡ moved_of (type v r d s m) → o ≡ moved_of (list_type v (type v r d) s at)
  unfolding list_type next
  of-type l m h e = rw h (to-pure (clist l) (type v r d s m) e)

  module _ {p : Moved} (e : p ≡ moved_of (element_label v s at)) where
    pub element_on : {o : Moved} {c : Cursor} → p ≡ Moved.To c → o ≡ moved_of (type v r d s c.at) → o ≡ moved_of (list_type v (type v r d) s at)
    element_on {c = c} f g = let t = moved_to (element_label v s at) e f in of-type t.0 c.at t.1 g

    pub element_off : {k : ℕ} → p ≡ Moved.Refused k → Moved.Refused k ≡ moved_of (list_type v (type v r d) s at)
    unfolding list_type next moved_of
    element_off f = rw (moved_refused (element_label v s at) e f)

-- ---- columns

pub record Passing (v : Edition) (d : ℕ) (s : Bytes) (n from i at : ℕ) : Type 0 where
  pub within : i ≤ n
  pub rest : moved_of (columns v Siblings.Free (type v Siblings.Free d) n [] s from) ≡ moved_of (columns v Siblings.Free (type v Siblings.Free d) (n - i) [] s at)

module _ (v : Edition) (d : ℕ) (s : Bytes) (n from : ℕ) where
  pub passing_none : Passing v d s n from 0 from
  passing_none = record {
    within = omega arith;
    rest = ap (λ (k : ℕ). moved_of (columns v Siblings.Free (type v Siblings.Free d) k [] s from)) (let e : n ≡ n - 0 = omega arith in e);
  }

  module _ (i at : ℕ) (a : Passing v d s n from i at) where
    pub passing_all : n ≤ i → Moved.To (record { at = at }) ≡ moved_of (columns v Siblings.Free (type v Siblings.Free d) n [] s from)
    unfolding columns moved_of
    passing_all h = let e : n - i ≡ 0 = omega arith in rw (a.rest, e)

    module _ (lt : i < n) {p : Moved} (e : p ≡ moved_of (label v s at)) where
      step : n - i ≡ suc (n - (i + 1))
      step = omega arith

      pub passing-no-label : {k : ℕ} → p ≡ Moved.Refused k → Moved.Refused k ≡ moved_of (columns v Siblings.Free (type v Siblings.Free d) n [] s from)
      unfolding columns next moved_of
      passing-no-label f = rw (a.rest, step) (rw (moved_refused (label v s at) e f))

      module _ {c : Cursor} (f : p ≡ Moved.To c) {q : Moved} (g : q ≡ moved_of (type v Siblings.Free d s c.at)) where
        pub passing-no-type : {k : ℕ} → q ≡ Moved.Refused k → Moved.Refused k ≡ moved_of (columns v Siblings.Free (type v Siblings.Free d) n [] s from)
        unfolding columns next moved_of
        passing-no-type h = rw (a.rest, step) (rw ((moved_to (label v s at) e f).1, moved_refused (type v Siblings.Free d s c.at) g h))

        pub passing-more : {j : Cursor} → q ≡ Moved.To j → Passing v d s n from (i + 1) j.at
        passing-more {j} h =
            let l = moved_to (label v s at) e f in
            let t = moved_to (type v Siblings.Free d s c.at) g h in
            record {
              within = omega arith;
              rest = a.rest ∙ ap (λ (k : ℕ). moved_of (columns v Siblings.Free (type v Siblings.Free d) k [] s at)) step
                  ∙ columns-suc v Siblings.Free (type v Siblings.Free d) (n - (i + 1)) [] s at l.1 t.1 (repeats_free l.0 [])
                  ∙ ap moved_of (columns-any v (type v Siblings.Free d) (n - (i + 1)) ([] ++ (l.0 ∷ [])) [] s j.at);
            }

pub ruleset type-passed = (type-deep, pass-ended, pass-plain, pass_on)

pub ruleset rest-passed = (rest-datetime, rest-struct, rest_uncounted, rest-list, rest-array, rest_widthless, rest-decimal, rest_unknown)

pub ruleset label-passed = (label-named, label-numbered, label_idless, label-marked, label-markless, label_nameless)

pub ruleset element-labelled = (label-none, label-two, label_three)

pub ruleset element-passed = (element_on, element_off)
