-- What the functions of src/inputs.rt return on each way, from what the callees answered and what the tests said.
-- Assumes nothing.
use Prim.Native.Nat.{ℕ, zero, suc, ◌+◌, ◌-◌, ◌≤◌, ◌<◌}
use mathlib.Core.Path.{◌≡◌, refl, sym, ap, ◌∙◌}
use native.Mathlib.Omega.{arith}
use native.Mathlib.Decide.{ℕ_discrete}
use lib.ListN.{length, get_or, set, replicate, length-set}
use lib.Seq.{get_or-set_same, get_or-set_other}
use Rattle.layout.specs.Bytes.{Bytes}
use Rattle.layout.specs.Parser.{refuse, ok, u16}
use Rattle.layout.specs.Layout.{text, type}
use Rattle.layout.specs.code.Stands.{TypeAt}
use Rattle.layout.specs.declared.columns.Siblings.TheVariants.{Free}
use Rattle.layout.specs.declared.edition.Edition.TheVariants.{One}
use Rattle.layout.specs.code.Answers.{short_res, text_res, span_at, moved_of}
use Rattle.layout.specs.declared.bytes.Span.{Span}
use Rattle.layout.specs.declared.cursor.Cursor.{Cursor}
use Rattle.layout.specs.declared.cursor.Moved.{Moved}
use Rattle.layout.specs.declared.cursor.Short.{Short}
use Rattle.layout.specs.declared.cursor.Text.{Text}
use Rattle.layout.proofs.Ways.{clash, moved_to, moved_refused}
use Rattle.plan.specs.Read.{selectors as selectorsOf, selector}
use Rattle.walk.specs.code.Stands.{SelectorAt, SelectorsAt}
use Rattle.walk.specs.code.Parts.{TextAt, OptionAt, CountedAt, CastAt, RenameAt, StructAt, ListAt, ArrayAt}
use Rattle.walk.specs.code.Ends.{EndsAt}
use Rattle.walk.specs.declared.inputs.InputEnds.{InputEnds}
use Rattle.walk.proofs.View.{selector_moved, selectors_moved}

-- ---- the table

zero-at : (n i : ℕ) → ◌≡◌ {A = ℕ} (get_or (replicate n 0) i 0) 0
zero-at zero i = refl
zero-at (suc n) zero = refl
zero-at (suc n) (suc i) = zero-at n i

pub ends-none : {plan : Bytes} {first : ℕ} → EndsAt plan (record { first = first; ends = replicate 64 0 })
ends-none = record { room = refl; right = λ i P h. absurd (h (zero-at 64 i)) }

pub ends_more : {plan : Bytes} {e : InputEnds} {i end : ℕ} → i < 64 → EndsAt plan e → ((P : SelectorAt plan (e.first + i)) → end ≡ P.end)
    → EndsAt plan (record { first = e.first; ends = set e.ends i end })
ends_more {plan} {e} {i} {end} l E h = record {
  room = length-set e.ends i end ∙ E.room;
  right = λ j P n. go j P n (ℕ_discrete j i);
}
  where
    go : (j : ℕ) (P : SelectorAt plan (e.first + j)) → (get_or (set e.ends i end) j 0 ≡ 0 → ⊥) → Dec (j ≡ i) → get_or (set e.ends i end) j 0 ≡ P.end
    go j P n (yes q) =
        ap (λ (k : ℕ). get_or (set e.ends i end) k 0) q
        ∙ get_or-set_same e.ends i end 0 (omega (arith, E.room))
        ∙ h (selector_moved (ap (λ (k : ℕ). e.first + k) q) P)
    go j P n (no q) =
        let z = get_or-set_other e.ends i j end 0 q in
        z ∙ E.right j P (λ y. n (z ∙ y))

module _ {plan : Bytes} {e : InputEnds} {at : ℕ} (P : SelectorAt plan at) (E : EndsAt plan e) where
  pub known_is : e.first ≤ at → (get_or e.ends (at - e.first) 0 ≡ 0 → ⊥) → get_or e.ends (at - e.first) 0 ≡ P.end
  known_is l h = E.right (at - e.first) (selector_moved (let q : at ≡ e.first + (at - e.first) = omega arith in q) P) h

-- ---- what stands behind an input

module _ {s : Bytes} {at : ℕ} where
  module _ (N : TextAt s at) {q : Text} (e : text_res s q ≡ text s at) where
    pub name-ends : {n : Span} {c : Cursor} → q ≡ Text.Is n c → c.at ≡ N.end
    name-ends {n} {c} f = let z : ok (span_at s n) c.at ≡ ok N.bytes N.end = ap (text_res s) (sym f) ∙ e ∙ N.reads in cc

    pub name_lost : {B : Type 0} {n : ℕ} → q ≡ Text.Refused n → B
    name_lost {n = n} f = let z : refuse n ≡ ok N.bytes N.end = ap (text_res s) (sym f) ∙ e ∙ N.reads in clash (cc)

  module _ (Q : CountedAt s at) {q : Short} (e : short_res q ≡ u16 s at) where
    pub count_lost : {B : Type 0} {n : ℕ} → q ≡ Short.Refused n → B
    count_lost {n = n} f = let z : refuse n ≡ ok Q.count Q.first = ap short_res (sym f) ∙ e ∙ Q.reads in clash (cc)

    module _ {n : ℕ} {d : Cursor} {r : Moved} (f : q ≡ Short.Is n d) (g : r ≡ moved_of (selectorsOf (selector 64) n s d.at)) where
      counted : SelectorsAt s n d.at
      counted =
          let z : ok n d.at ≡ ok Q.count Q.first = ap short_res (sym f) ∙ e ∙ Q.reads in
          let a : Q.count ≡ n = cc in
          let b : Q.first ≡ d.at = cc in
          selectors_moved a b Q.selectors

      pub fields_end : {c : Cursor} → r ≡ Moved.To c → c.at ≡ Q.selectors.end
      unfolding counted
      fields_end {c} h =
          let t = moved_to (selectorsOf (selector 64) n s d.at) g h in
          let z : ok t.0 c.at ≡ ok counted.trees counted.end = sym t.1 ∙ counted.reads in
          cc

      pub fields-lost : {B : Type 0} {j : ℕ} → r ≡ Moved.Refused j → B
      fields-lost {j = j} h =
          let z : refuse j ≡ ok counted.trees counted.end = sym (moved_refused (selectorsOf (selector 64) n s d.at) g h) ∙ counted.reads in
          clash (cc)

module _ {s : Bytes} {at m d r : ℕ} {P : SelectorAt s at} (h : (I : SelectorAt s (at + 1)) → d ≡ I.end) where
  pub behind-cast : CastAt s at P m → ((T : TypeAt One 16 s d) (O : OptionAt s T.end) → r ≡ O.end) → r ≡ P.end
  behind-cast C g =
      let e = h (selector_moved C.starts C.input) in
      let T = C.type in
      g (record { tree = T.tree; end = T.end; reads = ap (λ (o : ℕ). type One Free 16 s o) e ∙ T.reads }) C.option ∙ C.ends.1

  pub behind-rename : RenameAt s at P m → ((N : TextAt s d) → r ≡ N.end) → r ≡ P.end
  behind-rename R g =
      let e = h (selector_moved R.starts R.input) in
      g (record { bytes = R.name.bytes; end = R.name.end; reads = ap (λ (o : ℕ). text s o) e ∙ R.name.reads }) ∙ R.ends

  pub behind-struct : StructAt s at P m → ((Q : CountedAt s d) → r ≡ Q.selectors.end) → r ≡ P.end
  behind-struct S g =
      let e = h (selector_moved S.starts S.input) in
      let Q = S.fields in
      g (record { count = Q.count; first = Q.first; reads = ap (λ (o : ℕ). u16 s o) e ∙ Q.reads; selectors = Q.selectors }) ∙ S.ends.1

  pub behind-list : ListAt s at P m → ((E : SelectorAt s d) → r ≡ E.end) → r ≡ P.end
  behind-list L g = g (selector_moved (sym (h (selector_moved L.starts L.input))) L.element) ∙ L.ends

  pub behind-array : ArrayAt s at P m → ((E : SelectorAt s d) → r ≡ E.end) → r ≡ P.end
  behind-array A g = g (selector_moved (sym (h (selector_moved A.starts A.input))) A.element) ∙ A.ends

-- ---- the pass outwards

-- the selector at first + i ends at d
pub record Ending (plan : Bytes) (first i d : ℕ) (e : InputEnds) : Type 0 where
  pub starts : e.first ≡ first
  pub within : (i < 64) × (first + i ≤ length plan)
  pub here : (P : SelectorAt plan (first + i)) → d ≡ P.end
  pub table : EndsAt plan e

module _ {plan : Bytes} {first : ℕ} where
  pub ending : {i d : ℕ} {e r : InputEnds} → e.first ≡ first → (i < 64) × (first + i ≤ length plan) → ((P : SelectorAt plan (first + i)) → d ≡ P.end)
      → EndsAt plan e
      → ((p : Bytes) → EndsAt p e → ((P : SelectorAt p (e.first + i)) → d ≡ P.end) → EndsAt p r) × (r.first ≡ e.first) → Ending plan first i d r
  ending {i} {d} {e} {r} q w h E k = record {
    starts = k.1 ∙ q;
    within = w;
    here = h;
    table = k.0 plan E (λ P. h (selector_moved (ap (λ (o : ℕ). o + i) q) P));
  }

  pub ending_more : {i d f : ℕ} {e r : InputEnds} → Ending plan first i d e → 0 < i
      → ((P : SelectorAt plan (first + (i - 1))) → ((I : SelectorAt plan (first + (i - 1) + 1)) → d ≡ I.end) → f ≡ P.end)
      → ((p : Bytes) → EndsAt p e → ((P : SelectorAt p (e.first + (i - 1))) → f ≡ P.end) → EndsAt p r) × (r.first ≡ e.first) → Ending plan first (i - 1) f r
  ending_more {i} {d} {f} N l g k =
      let h : (P : SelectorAt plan (first + (i - 1))) → f ≡ P.end = λ P. g P (λ I. N.here
      (selector_moved (let q : first + (i - 1) + 1 ≡ first + i = omega arith in q) I)) in
      ending N.starts (omega (arith, N.within), omega (arith, N.within)) h N.table k
