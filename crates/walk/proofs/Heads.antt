-- What the functions of src/head.rt return on each way, from what the callees answered and what the tests said; and
-- what a caller gets from an answer of `head`. Assumes nothing.
use Prim.Native.Nat.{ℕ, ◌<◌, zero-le}
use mathlib.Core.Path.{◌≡◌, sym, ap, ◌∙◌, subst}
use lib.ListN.{get_or}
use Rattle.layout.specs.Bytes.{Bytes}
use Rattle.layout.specs.Parser.{refuse, ok, byte, u16}
use Rattle.layout.specs.Layout.{text, type}
use Rattle.layout.specs.code.Stands.{TypeAt}
use Rattle.layout.specs.code.Answers.{step_res, short_res, text_res, IsTextIn, span_at, moved_of}
use Rattle.layout.specs.declared.bytes.Span.{Span}
use Rattle.layout.specs.declared.columns.Position.{Position}
use Rattle.layout.specs.declared.columns.Siblings.TheVariants.{Free}
use Rattle.layout.specs.declared.cursor.Cursor.{Cursor}
use Rattle.layout.specs.declared.cursor.Moved.{Moved}
use Rattle.layout.specs.declared.cursor.Short.{Short}
use Rattle.layout.specs.declared.cursor.Step.{Step}
use Rattle.layout.specs.declared.cursor.Text.{Text}
use Rattle.layout.specs.declared.edition.Edition.TheVariants.{One}
use Rattle.layout.proofs.Keys.{None, none}
use Rattle.layout.proofs.Ways.{clash, moved_to, moved_refused, text_in}
use Rattle.layout.proofs.View.{next-ok, type-ends}
use Rattle.rules.specs.declared.outcome.CastOption.{CastOption}
use Rattle.rules.specs.declared.outcome.OptionCode.{OptionCode}
use Rattle.rules.specs.Outcomes.{option_at}
use Rattle.plan.specs.Selector.{position}
use Rattle.plan.specs.Read.{known_option, cast_option, selectors as selectorsOf, selector}
use Rattle.walk.specs.code.Stands.{SelectorAt, SelectorsAt}
use Rattle.walk.specs.code.Parts.{TextAt, OptionAt, CountedAt, ConstantAt, CastAt, RenameAt, StructAt, ListAt, ArrayAt, HeadParts, HeadIs, NameIs}
use Rattle.walk.specs.code.Parts.{CountedIs, NthIs}
use Rattle.walk.specs.declared.head.SelectorHead.{SelectorHead}
use Rattle.walk.proofs.View.{never_ended, position_at, position-counted, constant-named, constant-at, cast_at, rename-at, struct_at, list_at, array_at}
use Rattle.walk.proofs.View.{never_unknown, nth-at}

-- ---- head

module _ {s : Bytes} {at : ℕ} (P : SelectorAt s at) {p : Step} (e : step_res p ≡ byte s at) where
  pub head-ended : {B : Type 0} {n : ℕ} → p ≡ Step.Refused n → B
  head-ended f = never_ended P (sym e ∙ ap step_res f)

  module _ {code : ℕ} {d : Cursor} (f : p ≡ Step.Byte code d) where
    coded : byte s at ≡ ok code d.at
    coded = sym e ∙ ap step_res f

    pub head-position : code ≡ 0 → {q : Short} {k : ℕ} {c : Cursor} → short_res q ≡ u16 s d.at → q ≡ Short.Is k c → HeadIs s at P
        (SelectorHead.Position (record { 0 = k }))
    head-position h g i = record { parts = position_at P coded h (sym g ∙ ap short_res i) }

    pub head_uncounted : {B : Type 0} → code ≡ 0 → {q : Short} {n : ℕ} → short_res q ≡ u16 s d.at → q ≡ Short.Refused n → B
    head_uncounted h g i = position-counted P coded h (sym g ∙ ap short_res i)

    pub head-constant : code ≡ 1 → {q : Text} {n : Span} {c : Cursor} → text_res s q ≡ text s d.at → IsTextIn s q → q ≡ Text.Is n c → HeadIs s at P
        (SelectorHead.Constant n c)
    head-constant h g k i = record { parts = constant-at P coded h (sym g ∙ ap (text_res s) i) (text_in s k i) }

    pub head_unnamed : {B : Type 0} → code ≡ 1 → {q : Text} {n : ℕ} → text_res s q ≡ text s d.at → q ≡ Text.Refused n → B
    head_unnamed h g i = constant-named P coded h (sym g ∙ ap (text_res s) i)

    pub head-cast : code ≡ 2 → HeadIs s at P (SelectorHead.Cast d)
    head-cast h = record { parts = cast_at P coded h }

    pub head-rename : code ≡ 3 → HeadIs s at P (SelectorHead.Rename d)
    head-rename h = record { parts = rename-at P coded h }

    pub head-struct : code ≡ 4 → HeadIs s at P (SelectorHead.Struct d)
    head-struct h = record { parts = struct_at P coded h }

    pub head-list : code ≡ 5 → HeadIs s at P (SelectorHead.List d)
    head-list h = record { parts = list_at P coded h }

    pub head-array : code ≡ 6 → HeadIs s at P (SelectorHead.Array d)
    head-array h = record { parts = array_at P coded h }

    pub head_unknown : {B : Type 0} → None 0 code 7 → B
    head_unknown h = never_unknown P coded (none 0 code 7 h zero-le)

-- what a caller gets from an answer
module _ {s : Bytes} {at : ℕ} {P : SelectorAt s at} {r : SelectorHead} (H : HeadIs s at P r) where
  opened : {q : SelectorHead} → r ≡ q → HeadParts s at P q
  opened e = subst (λ (q : SelectorHead). HeadParts s at P q) e H.parts

  pub is_position_lem : {k : Position} → r ≡ SelectorHead.Position k → (get_or s at 0 ≡ 0) × (P.tree ≡ position k)
  is_position_lem e = opened e

  pub is-constant : {n : Span} {c : Cursor} → r ≡ SelectorHead.Constant n c → ConstantAt s at P n c.at
  is-constant e = opened e

  pub is-cast : {c : Cursor} → r ≡ SelectorHead.Cast c → CastAt s at P c.at
  is-cast e = opened e

  pub is-rename : {c : Cursor} → r ≡ SelectorHead.Rename c → RenameAt s at P c.at
  is-rename e = opened e

  pub is_struct_mapping : {c : Cursor} → r ≡ SelectorHead.Struct c → StructAt s at P c.at
  is_struct_mapping e = opened e

  pub is_list_mapping : {c : Cursor} → r ≡ SelectorHead.List c → ListAt s at P c.at
  is_list_mapping e = opened e

  pub is-array : {c : Cursor} → r ≡ SelectorHead.Array c → ArrayAt s at P c.at
  is-array e = opened e

  pub never_refused : {B : Type 0} → r ≡ SelectorHead.Refused → B
  never_refused e = absurd (opened e)

-- ---- a selector, and the k-th of some

module _ {s : Bytes} {at : ℕ} (P : SelectorAt s at) {r : Moved} (e : r ≡ moved_of (selector 64 s at)) where
  pub selector-ends : {c : Cursor} → r ≡ Moved.To c → c.at ≡ P.end
  selector-ends f = let t = moved_to (selector 64 s at) e f in let z : ok t.0 _ ≡ ok P.tree P.end = sym t.1 ∙ P.reads in cc

  pub selector_stuck : {B : Type 0} {n : ℕ} → r ≡ Moved.Refused n → B
  selector_stuck {n = n} f = let z : refuse n ≡ ok P.tree P.end = sym (moved_refused (selector 64 s at) e f) ∙ P.reads in clash (cc)

module _ {s : Bytes} {n at : ℕ} (Q : SelectorsAt s n at) {k : ℕ} (l : k < n) {r : Moved} (e : r ≡ moved_of (selectorsOf (selector 64) k s at)) where
  pub nth-is : {c : Cursor} → r ≡ Moved.To c → NthIs s n at Q k c.at
  nth-is {c} f =
      let B = nth-at n k Q l in
      let t = moved_to (selectorsOf (selector 64) k s at) e f in
      let z : ok t.0 c.at ≡ ok B.passed B.start = sym t.1 ∙ B.reads in
      let y : B.start ≡ c.at = cc in
      subst (λ (m : ℕ). NthIs s n at Q k m) y B.nth

  pub nth_stuck : {B : Type 0} {j : ℕ} → r ≡ Moved.Refused j → B
  nth_stuck {j = j} f =
      let B = nth-at n k Q l in
      let z : refuse j ≡ ok B.passed B.start = sym (moved_refused (selectorsOf (selector 64) k s at) e f) ∙ B.reads in
      clash (cc)

-- ---- a cast's option

module _ {s : Bytes} {at : ℕ} (T : TypeAt One 16 s at) (O : OptionAt s T.end) {r : Moved} {d : Cursor} (e : r ≡ moved_of (type One Free 16 s at))
    (f : r ≡ Moved.To d) where
  option-read : cast_option s d.at ≡ ok O.option O.end
  option-read = ap (λ (m : ℕ). cast_option s m) (type-ends T e f) ∙ O.reads

  module _ {p : Step} (g : step_res p ≡ byte s d.at) where
    pub option-ended : {B : Type 0} {n : ℕ} → p ≡ Step.Refused n → B
    unfolding cast_option
    option-ended {n = n} h =
        let (b, m, i, j) = next-ok _ _ option-read in
        let z : refuse n ≡ ok b m = ap step_res (sym h) ∙ g ∙ i in
        clash (cc)

    module _ {b : ℕ} {c : Cursor} {q : OptionCode} (h : p ≡ Step.Byte b c) (i : q ≡ option_at b) where
      known : known_option (option_at b) s c.at ≡ ok O.option O.end
      unfolding cast_option
      known =
          let (x, m, j, k) = next-ok _ _ option-read in
          let z : ok b c.at ≡ ok x m = ap step_res (sym h) ∙ g ∙ j in
          let y : b ≡ x = cc in
          let w : c.at ≡ m = cc in
          (λ t. known_option (option_at (y t)) s (w t)) ∙ k

      pub option_is : {o : CastOption} → q ≡ OptionCode.Known o → o ≡ O.option
      unfolding known_option
      option_is {o} j = let z : known_option (OptionCode.Known o) s c.at ≡ ok O.option O.end = ap (λ (x : OptionCode). known_option x s c.at)
          (sym j ∙ i) ∙ known in cc

      pub option_unknown : {B : Type 0} → q ≡ OptionCode.Unknown → B
      unfolding known_option
      option_unknown j = let z : known_option OptionCode.Unknown s c.at ≡ ok O.option O.end = ap (λ (x : OptionCode). known_option x s c.at)
          (sym j ∙ i) ∙ known in clash (cc)

      pub option-end : c.at ≡ O.end
      unfolding known_option
      option-end = go (option_at b) known
        where
          go : (x : OptionCode) → known_option x s c.at ≡ ok O.option O.end → c.at ≡ O.end
          go (OptionCode.Known o) e = cc
          go OptionCode.Unknown e = clash (cc)

-- ---- what stands behind an input

module _ {s : Bytes} {at : ℕ} {m : ℕ} (y : m ≡ at) where
  module _ (N : TextAt s at) {q : Text} (e : text_res s q ≡ text s m) where
    pub name-is : {n : Span} {c : Cursor} → IsTextIn s q → q ≡ Text.Is n c → NameIs s at N n
    name-is {n} {c} i f =
        let z : ok (span_at s n) c.at ≡ ok N.bytes N.end = ap (text_res s) (sym f) ∙ e ∙ ap (λ (o : ℕ). text s o) y ∙ N.reads in
        record { is = cc; within = text_in s i f }

    pub name-missing : {B : Type 0} {n : ℕ} → q ≡ Text.Refused n → B
    name-missing {n = n} f =
        let z : refuse n ≡ ok N.bytes N.end = ap (text_res s) (sym f) ∙ e ∙ ap (λ (o : ℕ). text s o) y ∙ N.reads in
        clash (cc)

  module _ (Q : CountedAt s at) {q : Short} (e : short_res q ≡ u16 s m) where
    pub counted_is : {n : ℕ} {c : Cursor} → q ≡ Short.Is n c → CountedIs s at Q (record { count = n; first = c })
    counted_is {n} {c} f =
        let z : ok n c.at ≡ ok Q.count Q.first = ap short_res (sym f) ∙ e ∙ ap (λ (o : ℕ). u16 s o) y ∙ Q.reads in
        record { count = cc; first = cc }

    pub count-missing : {B : Type 0} {n : ℕ} → q ≡ Short.Refused n → B
    count-missing {n = n} f =
        let z : refuse n ≡ ok Q.count Q.first = ap short_res (sym f) ∙ e ∙ ap (λ (o : ℕ). u16 s o) y ∙ Q.reads in
        clash (cc)
