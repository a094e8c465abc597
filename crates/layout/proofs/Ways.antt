-- Rules for `search`: each way through a parser, from what the callees answered and what the tests said.
use Prim.Native.Nat.{ℕ, ◌+◌, ◌-◌, ◌≤◌, ◌<◌}
use mathlib.Core.Path.{◌≡◌, refl, sym, ◌∙◌}
use mathlib.Core.List.{List, []}
use mathlib.Core.Bool.{Bool, true, false}
use native.Mathlib.Omega.{arith}
use lib.ListN.{length, take, drop}
use lib.Dec.{eqb, leb}
use borrow.Author.Tests.{lt-ltb, le-ltb, le-leb, lt-leb, eq-eqb, ne_eqb}
use Rattle.layout.specs.Parser.{Res, refuse, ok, next, choose, byte, chunk, u32}
use Rattle.layout.specs.Tree.{leaf_type, Label}
use Rattle.layout.specs.Layout.{Head, a_leaf, field_id, field_mark, label_rest, label, element_label, plain_leaf, leaf_head, decimal_head, kind_of, kind, type}
use Rattle.layout.specs.code.Answers.{step_res, short_res, long_res, unit_res, decimal_res, mark_res, span_at, SpanIn, text_res, HeadIn, label_res, label_at}
use Rattle.layout.specs.code.Answers.{IsTextIn, LabelIn, moved_of}
use Rattle.layout.specs.declared.bytes.Span.{Span}
use Rattle.layout.specs.declared.cursor.Cursor.{Cursor}
use Rattle.layout.specs.declared.cursor.Step.{Step}
use Rattle.layout.specs.declared.cursor.Short.{Short}
use Rattle.layout.specs.declared.cursor.Long.{Long}
use Rattle.layout.specs.declared.cursor.Moved.{Moved}
use Rattle.layout.specs.declared.cursor.Text.{Text}
use Rattle.layout.specs.declared.leaf.TimeUnit.{TimeUnit}
use Rattle.layout.specs.declared.leaf.Leaf.{Leaf}
use Rattle.layout.specs.declared.leaf.Decimal.{Decimal}
use Rattle.layout.specs.declared.types.LeafType.{LeafType as LeafSpan}
use Rattle.layout.specs.declared.types.PlainLeaf.{PlainLeaf}
use Rattle.layout.specs.declared.types.Head.{Head as HeadSpan}
use Rattle.layout.specs.declared.types.Unit.{Unit as UnitRead}
use Rattle.layout.specs.declared.types.DecimalRead.{DecimalRead}
use Rattle.layout.specs.declared.columns.MarkRead.{MarkRead}
use Rattle.layout.specs.declared.columns.Labelled.{Labelled}
use Rattle.layout.specs.declared.columns.Label.{Label as LabelSpan}
use Rattle.layout.specs.declared.columns.Siblings.{Siblings}
use Rattle.layout.specs.declared.edition.Edition.{Edition}

pub clash : {A : Type 0} → ◌≡◌ {A = ℕ} 0 1 → A
clash z = absurd (omega arith)

pub choose-true : {A : Type 0} (b : Bool) (x y : A) {z : A} → b ≡ true → z ≡ x → z ≡ choose b x y
unfolding choose
choose-true b x y e f = rw e f

pub choose-false : {A : Type 0} (b : Bool) (x y : A) {z : A} → b ≡ false → z ≡ y → z ≡ choose b x y
unfolding choose
choose-false b x y e f = rw e f

-- a test that a call made
pub flag : (x : Bool) {b t : Bool} → b ≡ x → b ≡ t → x ≡ t
flag x e f = sym e ∙ f

module _ (n : ℕ) (s : List ℕ) (at : ℕ) where
  pub chunk-fits : at ≤ length s → n ≤ length s - at → ok (take n (drop at s)) (at + n) ≡ chunk n s at
  unfolding chunk
  chunk-fits h k = choose-true _ _ _ (le-leb (at + n) (length s) (omega arith)) refl

  pub chunk-past : length s < at → refuse 2 ≡ chunk n s at
  unfolding chunk
  chunk-past h = choose-false _ _ _ (lt-leb (at + n) (length s) (omega arith)) refl

  pub chunk-short : length s - at < n → refuse 2 ≡ chunk n s at
  unfolding chunk
  chunk-short h = choose-false _ _ _ (lt-leb (at + n) (length s) (omega arith)) refl

-- what follows a label's name, by the edition
module _ (v : Edition) (b : List ℕ) (s : List ℕ) (at : ℕ) where
  pub rest-bare : v ≡ Edition.One → ok (record { name = b; id = record { 0 = 0 }; required = false }) at ≡ label_rest v b s at
  unfolding label_rest field_id field_mark next
  rest-bare h = rw h

  module _ (h : v ≡ Edition.Two) {p : Long} (e : long_res p ≡ u32 s at) where
    pub rest-numbered : {i : ℕ} {c : Cursor} → p ≡ Long.Is i c → ok (record { name = b; id = record { 0 = i }; required = false }) c.at ≡ label_rest v b s at
    unfolding label_rest field_id field_mark next
    rest-numbered f = rw (h, ← e, f)

    pub rest_idless : {n : ℕ} → p ≡ Long.Refused n → refuse n ≡ label_rest v b s at
    unfolding label_rest field_id field_mark next
    rest_idless f = rw (h, ← e, f)

  pub rest_marked : {y : Res Label} → v ≡ Edition.Three → y ≡ label_rest Edition.Three b s at → y ≡ label_rest v b s at
  rest_marked h e = rw h e

pub text_in : (s : List ℕ) {p : Text} {b : Span} {c : Cursor} → IsTextIn s p → p ≡ Text.Is b c → SpanIn s b
text_in s h e = rw e at h

pub head_in : (s : List ℕ) {p : HeadSpan} {l : LeafSpan} {c : Cursor} → HeadIn s p → p ≡ HeadSpan.Leaf l c → SpanIn s l.zone
head_in s h e = rw e at h

pub label_in : (s : List ℕ) {p : Labelled} {l : LabelSpan} {c : Cursor} → LabelIn s p → p ≡ Labelled.Is l c → SpanIn s l.name
label_in s h e = rw e at h

-- the tree is not in the answer: there is one
pub moved_to : {A : Type 0} (x : Res A) {r : Moved} {c : Cursor} → r ≡ moved_of x → r ≡ Moved.To c → (a : A) × (x ≡ ok a c.at)
unfolding moved_of
moved_to (refuse n) p q = clash (cc)
moved_to (ok a m) {r} {c} p q = let h : Moved.To (record { at = m }) ≡ Moved.To c = sym p ∙ q in (a, (cc))

pub moved_refused : {A : Type 0} (x : Res A) {r : Moved} {n : ℕ} → r ≡ moved_of x → r ≡ Moved.Refused n → x ≡ refuse n
unfolding moved_of
moved_refused (refuse m) p q = cc
moved_refused (ok a m) p q = clash (cc)

-- a test of a number that is known
pub eqb-from : (k n : ℕ) {m : ℕ} {b : Bool} → k ≡ m → eqb m n ≡ b → eqb k n ≡ b
eqb-from k n h e = rw h e

pub leb-from : (k n : ℕ) {m : ℕ} {b : Bool} → k ≡ m → leb m n ≡ b → leb k n ≡ b
leb-from k n h e = rw h e

pub element-none : (v : Edition) (s : List ℕ) (at : ℕ) → v ≡ Edition.One → ok (record { name = []; id = record { 0 = 0 }; required = false }) at ≡
    element_label v s at
unfolding element_label
element-none v s at h = rw h

pub element-two : (v : Edition) (s : List ℕ) (at : ℕ) {y : Res Label} → v ≡ Edition.Two → y ≡ label v s at → y ≡ element_label v s at
unfolding element_label
element-two v s at h e = rw h (rw h at e)

pub element_three : (v : Edition) (s : List ℕ) (at : ℕ) {y : Res Label} → v ≡ Edition.Three → y ≡ label v s at → y ≡ element_label v s at
unfolding element_label
element_three v s at h e = rw h (rw h at e)

-- the leaf of a code that is not a date-time's
pub leaf-known : (code : ℕ) (s : List ℕ) (at : ℕ) {p : PlainLeaf} {l : Leaf} → p ≡ plain_leaf code → p ≡ PlainLeaf.Known l → ok (a_leaf (leaf_type l []))
    at ≡ leaf_head (plain_leaf code) s at
unfolding leaf_head
leaf-known code s at e f = rw (← e, f)

pub leaf_unknown : (code : ℕ) (s : List ℕ) (at : ℕ) {p : PlainLeaf} → p ≡ plain_leaf code → p ≡ PlainLeaf.Unknown → refuse 3 ≡ leaf_head (plain_leaf code) s at
unfolding leaf_head
leaf_unknown code s at e f = rw (← e, f)

module _ {B : Type 0} where
  pub step_on : (x : Res (ℕ)) (k : ℕ → ℕ → Res B) {y : Res B} {p : Step} {b : ℕ} {c : Cursor} → step_res p ≡ x → p ≡ Step.Byte b c → y ≡ k b c.at → y
      ≡ next x k
  unfolding next
  step_on x k e f g = rw (← e, f) g

  pub step_off : (x : Res (ℕ)) (k : ℕ → ℕ → Res B) {p : Step} {n : ℕ} → step_res p ≡ x → p ≡ Step.Refused n → refuse n ≡ next x k
  unfolding next
  step_off x k e f = rw (← e, f)

  pub short_on : (x : Res (ℕ)) (k : ℕ → ℕ → Res B) {y : Res B} {p : Short} {b : ℕ} {c : Cursor} → short_res p ≡ x → p ≡ Short.Is b c → y ≡ k b c.at →
      y ≡ next x k
  unfolding next
  short_on x k e f g = rw (← e, f) g

  pub short_off : (x : Res (ℕ)) (k : ℕ → ℕ → Res B) {p : Short} {n : ℕ} → short_res p ≡ x → p ≡ Short.Refused n → refuse n ≡ next x k
  unfolding next
  short_off x k e f = rw (← e, f)

  pub long_on : (x : Res (ℕ)) (k : ℕ → ℕ → Res B) {y : Res B} {p : Long} {b : ℕ} {c : Cursor} → long_res p ≡ x → p ≡ Long.Is b c → y ≡ k b c.at → y ≡ next x k
  unfolding next
  long_on x k e f g = rw (← e, f) g

  pub long_off : (x : Res (ℕ)) (k : ℕ → ℕ → Res B) {p : Long} {n : ℕ} → long_res p ≡ x → p ≡ Long.Refused n → refuse n ≡ next x k
  unfolding next
  long_off x k e f = rw (← e, f)

  pub unit_on : (x : Res (TimeUnit)) (k : TimeUnit → ℕ → Res B) {y : Res B} {p : UnitRead} {b : TimeUnit} {c : Cursor} → unit_res p ≡ x → p ≡ UnitRead.Is
      b c → y ≡ k b c.at → y ≡ next x k
  unfolding next
  unit_on x k e f g = rw (← e, f) g

  pub unit_off : (x : Res (TimeUnit)) (k : TimeUnit → ℕ → Res B) {p : UnitRead} {n : ℕ} → unit_res p ≡ x → p ≡ UnitRead.Refused n → refuse n ≡ next x k
  unfolding next
  unit_off x k e f = rw (← e, f)

  pub decimal_on : (x : Res Decimal) (k : Decimal → ℕ → Res B) {y : Res B} {p : DecimalRead} {d : Decimal} {c : Cursor} → decimal_res p ≡ x → p ≡
      DecimalRead.Is d c
      → y ≡ k d c.at → y ≡ next x k
  unfolding next
  decimal_on x k e f g = rw (← e, f) g

  pub decimal_off : (x : Res Decimal) (k : Decimal → ℕ → Res B) {p : DecimalRead} {n : ℕ} → decimal_res p ≡ x → p ≡ DecimalRead.Refused n → refuse n ≡ next x k
  unfolding next
  decimal_off x k e f = rw (← e, f)

  pub mark_on : (x : Res Bool) (k : Bool → ℕ → Res B) {y : Res B} {p : MarkRead} {r : Bool} {c : Cursor} → mark_res p ≡ x → p ≡ MarkRead.Is r c → y ≡ k r
      c.at → y ≡ next x k
  unfolding next
  mark_on x k e f g = rw (← e, f) g

  pub mark_off : (x : Res Bool) (k : Bool → ℕ → Res B) {p : MarkRead} {n : ℕ} → mark_res p ≡ x → p ≡ MarkRead.Refused n → refuse n ≡ next x k
  unfolding next
  mark_off x k e f = rw (← e, f)

  pub text_on : (s : List ℕ) (x : Res (List ℕ)) (k : List ℕ → ℕ → Res B) {y : Res B} {p : Text} {b : Span} {c : Cursor} → text_res s p ≡ x → p ≡ Text.Is
      b c → y ≡ k (span_at s b) c.at → y ≡ next x k
  unfolding next
  text_on s x k e f g = rw (← e, f) g

  pub text_off : (s : List ℕ) (x : Res (List ℕ)) (k : List ℕ → ℕ → Res B) {p : Text} {n : ℕ} → text_res s p ≡ x → p ≡ Text.Refused n → refuse n ≡ next x k
  unfolding next
  text_off s x k e f = rw (← e, f)

  pub label_on : (s : List ℕ) (x : Res (Label)) (k : Label → ℕ → Res B) {y : Res B} {p : Labelled} {b : LabelSpan} {c : Cursor} → label_res s p ≡ x → p ≡
      Labelled.Is b c → y ≡ k (label_at s b) c.at → y ≡ next x k
  unfolding next
  label_on s x k e f g = rw (← e, f) g

  pub label_off : (s : List ℕ) (x : Res (Label)) (k : Label → ℕ → Res B) {p : Labelled} {n : ℕ} → label_res s p ≡ x → p ≡ Labelled.Refused n → refuse n ≡
      next x k
  unfolding next
  label_off s x k e f = rw (← e, f)

-- what a type begins with, where its code is a decimal's
pub kind-decimal : (s : List ℕ) (at : ℕ) {p : Step} {code : ℕ} {c : Cursor} {y : Res Head} → step_res p ≡ byte s at → p ≡ Step.Byte code c → code ≡ 21
    → y ≡ decimal_head s c.at → y ≡ kind s at
unfolding kind kind_of next choose
kind-decimal s at e f h g = rw (← e, f, h) g

pub ruleset ways = (
  step_on,
  step_off,
  short_on,
  short_off,
  long_on,
  long_off,
  unit_on,
  unit_off,
  decimal_on,
  decimal_off,
  mark_on,
  mark_off,
  text_on,
  text_off,
  label_on,
  label_off,
  choose-true,
  choose-false,
  chunk-fits,
  chunk-past,
  chunk-short,
  rest-bare,
  rest-numbered,
  rest_idless,
  rest_marked,
  eqb-from,
  leb-from,
  element-none,
  element-two,
  element_three,
  leaf-known,
  leaf_unknown,
  text_in,
  flag,
  lt-ltb,
  le-ltb,
  le-leb,
  lt-leb,
  eq-eqb,
  ne_eqb,
)

-- where only the position is answered
module _ {A : Type 0} {o : Moved} where
  pub to-pure : {B : Type 0} (f : A → B) (x : Res A) → o ≡ moved_of x → o ≡ moved_of (next x (λ a m. ok (f a) m))
  unfolding moved_of next
  to-pure f (refuse n) e = e
  to-pure f (ok a m) e = e

  pub to_on : {B : Type 0} (x : Res A) (k : A → ℕ → Res B) {p : Moved} {c : Cursor} → p ≡ moved_of x → p ≡ Moved.To c → ((a : A) → o ≡ moved_of (k a c.at))
      → o ≡ moved_of (next x k)
  unfolding next
  to_on x k e f g = let t = moved_to x e f in rw t.1 (g t.0)

pub to_off : {A B : Type 0} (x : Res A) (k : A → ℕ → Res B) {p : Moved} {n : ℕ} → p ≡ moved_of x → p ≡ Moved.Refused n → Moved.Refused n ≡ moved_of (next x k)
unfolding next moved_of
to_off x k e f = rw (moved_refused x e f)

module _ (v : Edition) (r : Siblings) (s : List ℕ) (at d : ℕ) where
  pub type-deep : d ≡ 0 → Moved.Refused 4 ≡ moved_of (type v r d s at)
  unfolding type moved_of
  type-deep z = rw z
