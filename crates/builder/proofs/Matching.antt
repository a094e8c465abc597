-- A type's parts by the answer of `head`, and the leaf case. Assumes nothing.
use Prim.Native.Nat.{ℕ, ◌+◌, ◌-◌, ◌≤◌, ◌<◌}
use mathlib.Core.Path.{◌≡◌, refl, sym, ap, ◌∙◌, subst}
use mathlib.Core.Bool.{Bool, true, false}
use native.Mathlib.Omega.{arith}
use lib.ListN.{length, take, drop}
use native.Mathlib.Nat.{add-sub_cancel_left}
use lib.Dec.{eqb}
use Rattle.layout.specs.Bytes.{Bytes}
use Rattle.layout.specs.Parser.{ok}
use Rattle.layout.specs.Tree.{LeafType, leaf_type, leaf_of, Label, ColumnType, cleaf, cstruct, clist, carray, Columns, dtype_of}
use Rattle.layout.specs.Layout.{Head, a_leaf, a_struct, a_list, an_array, kind, element_label}
use Rattle.layout.specs.code.Answers.{head_res, HeadIn, leaf_at, label_at, span_at, SpanIn}
use Rattle.layout.specs.code.Parts.{ElementRead, PartsIs}
use Rattle.layout.specs.code.Stands.{TypeAt}
use Rattle.layout.specs.declared.columns.Position.{Position}
use Rattle.layout.specs.declared.columns.Label.{Label as LabelSpan}
use Rattle.layout.specs.declared.cursor.Cursor.{Cursor}
use Rattle.layout.specs.declared.parts.TypeParts.{TypeParts}
use Rattle.layout.specs.declared.types.Head.{Head as HeadSpan}
use Rattle.layout.specs.declared.types.LeafType.{LeafType as LeafSpan}
use Rattle.layout.specs.declared.edition.Edition.{Edition}
use Rattle.layout.specs.declared.edition.Edition.TheVariants.{One, Two, Three}
use Rattle.layout.specs.declared.matching.Matching.{Matching}
use Rattle.layout.specs.declared.matching.Matching.TheVariants.{ByName, ByNumber}
use Rattle.layout.proofs.Ways.{clash, head_in}
use Rattle.layout.proofs.View.{leaf_at_lem, struct_at, list-parts, array_parts, leaf-opened, struct-opened, list-opened, array-opened}
use Rattle.forms.specs.Form.{u16_bytes, u32_bytes, text_bytes, kind_form}
use Rattle.forms.specs.code.Heads.{head_of}
use Rattle.forms.proofs.Read.{ok_eq, label-ends}
use Rattle.forms.proofs.Heads.{head_at}
use Rattle.forms.proofs.Writing.{span-long}
use Rattle.rules.specs.Kinds.{kind_of}
use Rattle.rules.specs.Outcomes.{Verdict, untouched, refused, cast as casts}
use Rattle.rules.specs.Pairs.{pair_rule}
use Rattle.layout.proofs.Leaves.{leaf_of-type}
use Rattle.rules.specs.declared.policy.Policy.{Policy}
use Rattle.plan.specs.Result.{Result, gives, refuses, ◌>>=◌}
use Rattle.plan.specs.Selector.{Selector}
use Rattle.matching.specs.Default.{Defaults}
use Rattle.matching.specs.Build.{leaf_part, struct_part, is_null_type, ruled, attach_transforms}
use Rattle.matching.specs.Calls.{takes}
use Rattle.builder.specs.code.Answers.{LeafPartIs, StructPartIs, Inner, no_element, element_of, ElementIs}
use Rattle.builder.specs.code.Answers.{ElementPartIs, needs_rename, made_of, Wrote, Makes, by_rule}
use Rattle.builder.specs.declared.answer.Made.{Made}
use Rattle.builder.specs.declared.parts.LeafPart.{LeafPart}
use Rattle.builder.specs.declared.parts.StructPart.{StructPart}
use Rattle.builder.specs.declared.parts.ElementPart.{ElementPart}

-- ---- kinds

abbrev is_leaf_kind : Head → Bool
is_leaf_kind (a_leaf l) = true
is_leaf_kind (a_struct n) = false
is_leaf_kind a_list = false
is_leaf_kind (an_array w) = false

abbrev is_struct_kind : Head → Bool
is_struct_kind (a_leaf l) = false
is_struct_kind (a_struct n) = true
is_struct_kind a_list = false
is_struct_kind (an_array w) = false

abbrev pub has_element : Head → Bool
has_element (a_leaf l) = false
has_element (a_struct n) = false
has_element a_list = true
has_element (an_array w) = true

pub differ : {B : Type 0} {a b : Bool} → a ≡ true → b ≡ false → a ≡ b → B
differ p q r = let z : true ≡ false = sym p ∙ r ∙ q in clash (cc)

no_leaf : (t : ColumnType) {k : Head} → k ≡ head_of (dtype_of t) → is_leaf_kind k ≡ false → leaf_part t ≡ refuses 24
unfolding leaf_part dtype_of head_of
no_leaf (cleaf l) e f = differ refl f (ap is_leaf_kind (sym e))
no_leaf (cstruct cs) e f = refl
no_leaf (clist l t) e f = refl
no_leaf (carray w l t) e f = refl

no_struct : (t : ColumnType) {k : Head} → k ≡ head_of (dtype_of t) → is_struct_kind k ≡ false → struct_part t ≡ refuses 24
unfolding struct_part dtype_of head_of
no_struct (cleaf l) e f = refl
no_struct (cstruct cs) e f = differ refl f (ap is_struct_kind (sym e))
no_struct (clist l t) e f = refl
no_struct (carray w l t) e f = refl

named-ends : (at : ℕ) (l : Label) {i m : ℕ} {X : Type 0} → (i ≤ m) × ((at + length (text_bytes l.name) ≤ i) × ((length l.name ≤ 63) × X))
    → (at + length l.name ≤ i) × (length l.name ≤ 63)
unfolding text_bytes
named-ends at l (a, (b, (c, d))) = (omega arith, c)

-- an element's label
element_label-ends : (s : Bytes) (v : Edition) (at : ℕ) {l : Label} {i : ℕ} → element_label v s at ≡ ok l i → (at + length l.name ≤ i) ×
    (length l.name ≤ 63)
unfolding element_label text_bytes
element_label-ends s One at e = let (p, q) = ok_eq e in let h = ap (λ (x : Label). length x.name) p in (omega arith, omega arith)
element_label-ends s Two at {l} e = named-ends at l (label-ends s Two at e)
element_label-ends s Three at {l} e = named-ends at l (label-ends s Three at e)

-- where a column is labelled it has a byte at least
element_label-later : (s : Bytes) (v : Edition) (at : ℕ) {l : Label} {i : ℕ} → element_label v s at ≡ ok l i
    → (how : Matching) (x y : Label) → takes how v ≡ true → needs_rename how x y ≡ true → at < i
unfolding element_label text_bytes
element_label-later s One at e ByName x y t h = clash (cc)
element_label-later s One at e ByNumber x y t h = clash (cc)
element_label-later s Two at e how x y t h = let (a, (b, c)) = label-ends s Two at e in omega (arith, b)
element_label-later s Three at e how x y t h = let (a, (b, c)) = label-ends s Three at e in omega (arith, b)

module _ {v : Edition} {d : ℕ} {s : Bytes} {at : ℕ} (P : TypeAt v d s at) where
  -- the head, by the parser's answer
  pub head-is : (k : Head) {m : ℕ} → kind s at ≡ ok k m → (k ≡ head_of (dtype_of P.tree)) × (at + length (kind_form k) ≡ m) × (m ≤ length s)
  head-is k {m} h =
      let H = head_at P {c = record { at = at }} refl refl in
      let (a, b) = ok_eq (sym h ∙ H.reads) in
      (a, ap (λ (j : Head). at + length (kind_form j)) a ∙ H.long ∙ sym b, let t = H.to in omega arith)

  pub leaf-none : (k : Head) {m : ℕ} → kind s at ≡ ok k m → is_leaf_kind k ≡ false → leaf_part P.tree ≡ refuses 24
  leaf-none k h f = no_leaf P.tree (head-is k h).0 f

  pub leaf_mismatch : (k : Head) {m : ℕ} → kind s at ≡ ok k m → is_leaf_kind k ≡ false → LeafPartIs s (leaf_part P.tree) LeafPart.Mismatch
  leaf_mismatch k h f = subst (λ (x : Result LeafType). LeafPartIs s x LeafPart.Mismatch) (sym (leaf-none k h f)) (refl, refl)

  pub struct_mismatch : (k : Head) {m : ℕ} → kind s at ≡ ok k m → is_struct_kind k ≡ false → StructPartIs v d s at (struct_part P.tree) P.end
      StructPart.Mismatch
  struct_mismatch k h f = subst (λ (x : Result Columns). StructPartIs v d s at x P.end StructPart.Mismatch)
      (sym (no_struct P.tree (head-is k h).0 f)) (refl, refl)

-- where an element's label stands
label-bounds : {v : Edition} {s : Bytes} {at : ℕ} {h : Cursor → HeadSpan} {l : LabelSpan} {c : Cursor} (E : ElementRead v s at h l c)
    → (E.start.at ≤ c.at) × (l.name.len ≤ 63) × ((how : Matching) (x y : Label) → takes how v ≡ true → needs_rename how x y ≡ true → E.start.at < c.at)
label-bounds {v} {s} {l = l} E =
    let (x, y) = element_label-ends s v E.start.at (sym E.label) in
    let z = span-long s l.name E.inside in
    (omega arith, omega arith, element_label-later s v E.start.at (sym E.label))

-- an element behind a head that has a byte at least; f makes the answer
element-is : {R : Type 0} {v : Edition} {d : ℕ} {s : Bytes} {at e : ℕ} {h : Cursor → HeadSpan} {l : LabelSpan} {c : Cursor} (f : LabelSpan → Cursor → R)
    (E : ElementRead v s at h l c) → at < E.start.at → (I : TypeAt v (d - 1) s c.at) → I.end ≡ e → ElementIs v d s at (label_at s l) I.tree e f (f l c)
element-is {l = l} {c = c} f E a I e =
    let (x, y, n) = label-bounds E in
    record {
      span = l;
      start = c;
      is = refl;
      label = refl;
      inside = E.inside;
      short = y;
      inner = I;
      tree = refl;
      ends = e;
      after = omega arith;
      named = λ how x y t p. let q = n how x y t p in omega arith;
    }

module _ {v : Edition} {d : ℕ} {s : Bytes} {at : ℕ} (P : TypeAt v d s at) {r : TypeParts} (R : PartsIs v s at r) where
  element-mismatch : (t : ColumnType) → P.tree ≡ t → element_of t ≡ no_element → ElementPartIs v d s at (element_of P.tree) P.end ElementPart.Mismatch
  element-mismatch t e f = subst (λ (x : Inner). ElementPartIs v d s at x P.end ElementPart.Mismatch) (sym (ap element_of e ∙ f)) refl

  pub leaf-inside : {l : LeafSpan} {c : Cursor} → r ≡ TypeParts.Leaf l c → ElementPartIs v d s at (element_of P.tree) P.end ElementPart.Mismatch
  unfolding element_of
  leaf-inside f = element-mismatch _ (leaf-opened R P f).0 refl

  pub struct-inside : {n : ℕ} {c : Cursor} → r ≡ TypeParts.Struct n c → ElementPartIs v d s at (element_of P.tree) P.end ElementPart.Mismatch
  unfolding element_of
  struct-inside f = element-mismatch _ (struct-opened R P f).is refl

  pub list-taken : {l : LabelSpan} {c : Cursor} → r ≡ TypeParts.List l c → ElementPartIs v d s at (element_of P.tree) P.end (ElementPart.List l c)
  unfolding element_of kind_form
  list-taken {l} {c} f =
      let E = list-parts R f in
      let L = list-opened R P f in
      let z = (head-is P a_list (sym E.head)).1 in
      subst (λ (t : ColumnType). ElementPartIs v d s at (element_of t) P.end (ElementPart.List l c)) (sym L.is)
      (element-is (λ a b. ElementPart.List a b) E (omega arith) L.inner L.ends)

  pub array-taken : {w : ℕ} {l : LabelSpan} {c : Cursor} → r ≡ TypeParts.Array w l c → ElementPartIs v d s at (element_of P.tree) P.end
      (ElementPart.Array w l c)
  unfolding element_of kind_form u32_bytes u16_bytes
  array-taken {w} {l} {c} f =
      let E = array_parts R f in
      let L = array-opened R P f in
      let z = (head-is P (an_array w) (sym E.head)).1 in
      subst (λ (t : ColumnType). ElementPartIs v d s at (element_of t) P.end (ElementPart.Array w l c)) (sym L.is)
      (element-is (λ a b. ElementPart.Array w a b) E (omega arith) L.inner L.ends)

module _ {v : Edition} {d : ℕ} {s : Bytes} {at : ℕ} (P : TypeAt v d s at) {p : HeadSpan} (e : head_res s p ≡ kind s at) where
  pub leaf-taken : {l : LeafSpan} {c : Cursor} → HeadIn s p → p ≡ HeadSpan.Leaf l c → LeafPartIs s (leaf_part P.tree) (LeafPart.Is l)
  unfolding leaf_part
  leaf-taken {l} i f =
      subst (λ (t : ColumnType). LeafPartIs s (leaf_part t) (LeafPart.Is l)) (sym (leaf_at_lem P e f).0)
      (record { span = l; is = refl; leaf = refl; inside = head_in s i f })

  pub struct-taken : {n : ℕ} {c : Cursor} → p ≡ HeadSpan.Struct n c → StructPartIs v d s at (struct_part P.tree) P.end (StructPart.Is n c)
  unfolding struct_part kind_form u16_bytes
  struct-taken {n} {c} f =
      let S = struct_at P e f in
      let (_, h, w) = head-is P (a_struct n) (sym e ∙ ap (head_res s) f) in
      subst (λ (t : ColumnType). StructPartIs v d s at (struct_part t) P.end (StructPart.Is n c)) (sym S.is)
      (record { count = n; start = c; is = refl; inner = S.inner; columns = refl; ends = S.ends; after = omega arith; within = w })

-- ---- what a taken part says

module _ (s : Bytes) {r : LeafPart} where
  pub part-leaf : (X : Result LeafType) {l : LeafSpan} → LeafPartIs s X r → r ≡ LeafPart.Is l → (X ≡ gives (leaf_at s l)) × SpanIn s l.zone
  part-leaf (refuses n) {l} h e = let z : LeafPart.Mismatch ≡ LeafPart.Is l = sym h.1 ∙ e in clash (cc)
  part-leaf (gives x) {l} h e =
      let z : LeafPart.Is h.span ≡ LeafPart.Is l = sym h.is ∙ e in
      let y : h.span ≡ l = cc in
      (ap gives (sym h.leaf ∙ ap (leaf_at s) y), subst (λ (x : LeafSpan). SpanIn s x.zone) y h.inside)

  pub part-other : (X : Result LeafType) → LeafPartIs s X r → r ≡ LeafPart.Mismatch → X ≡ refuses 24
  part-other (refuses n) h e = ap refuses h.0
  part-other (gives x) h e = let z : LeafPart.Is h.span ≡ LeafPart.Mismatch = sym h.is ∙ e in clash (cc)

pub null-leaf : (s : Bytes) (t : ColumnType) (l : LeafSpan) {k : ℕ} → leaf_part t ≡ gives (leaf_at s l) → k ≡ kind_of l.leaf → eqb k 0 ≡ is_null_type t
unfolding leaf_part is_null_type
null-leaf s (cleaf m) l {k} h e =
    let z : m ≡ leaf_at s l = cc in
    let y : leaf_of m ≡ l.leaf = ap leaf_of z ∙ leaf_of-type l.leaf (span_at s l.zone) in
    rw (e, y)
null-leaf s (cstruct cs) l h e = clash (cc)
null-leaf s (clist m t) l h e = clash (cc)
null-leaf s (carray w m t) l h e = clash (cc)

pub null-other : (t : ColumnType) → leaf_part t ≡ refuses 24 → false ≡ is_null_type t
unfolding leaf_part is_null_type
null-other (cleaf m) h = clash (cc)
null-other (cstruct cs) h = refl
null-other (clist l t) h = refl
null-other (carray w l t) h = refl

-- whether the incoming type is null, by what was taken
pub null-part : (s : Bytes) (t : ColumnType) {r : LeafPart} {l : LeafSpan} {k : ℕ} → LeafPartIs s (leaf_part t) r → r ≡ LeafPart.Is l → k ≡ kind_of
    l.leaf → eqb k 0 ≡ is_null_type t
null-part s t {r} {l} h e = null-leaf s t l (part-leaf s (leaf_part t) h e).0

-- the zones, by the parts of the bytes that were lent
pub rule_spans : (p : Policy) (s t : Bytes) (l u : LeafSpan) {x : Verdict}
    → x ≡ pair_rule p (leaf_type l.leaf (take (l.zone.start + l.zone.len - l.zone.start) (drop l.zone.start s)))
    (leaf_type u.leaf (take (u.zone.start + u.zone.len - u.zone.start) (drop u.zone.start t)))
    → x ≡ pair_rule p (leaf_at s l) (leaf_at t u)
rule_spans p s t l u e =
    e ∙ ap (λ (n : ℕ). pair_rule p (leaf_type l.leaf (take n (drop l.zone.start s)))
    (leaf_type u.leaf (take (u.zone.start + u.zone.len - u.zone.start) (drop u.zone.start t))))
    (add-sub_cancel_left l.zone.start l.zone.len)
    ∙ ap (λ (n : ℕ). pair_rule p (leaf_at s l) (leaf_type u.leaf (take n (drop u.zone.start t)))) (add-sub_cancel_left u.zone.start u.zone.len)

-- ---- the leaf case

by_rule_lem : (x : Verdict) (k : Position) (u : LeafType) → ruled x k u ≡ by_rule x k (cleaf u)
unfolding ruled dtype_of
by_rule_lem untouched k u = refl
by_rule_lem (refused n) k u = refl
by_rule_lem (casts o) k u = refl

module _ (v : Matching) (p : Policy) (d : Defaults) (k : Position) (t : ColumnType) {u : ColumnType} {m : LeafType} (is : u ≡ cleaf m) where
  pub leaf-ruled : {l : LeafType} {x : Verdict} → leaf_part t ≡ gives l → x ≡ pair_rule p l m → attach_transforms v p d u k t ≡ by_rule x k u
  unfolding attach_transforms ◌>>=◌
  leaf-ruled {l} {x} h e =
      ap (λ (x : ColumnType). attach_transforms v p d x k t) is ∙ ap (λ (x : Result LeafType). x >>= λ a. ruled (pair_rule p a m) k m) h
      ∙ by_rule_lem (pair_rule p l m) k m ∙ ap (λ (x : ColumnType). by_rule (pair_rule p l m) k x) (sym is) ∙ ap (λ (y : Verdict). by_rule y k u) (sym e)

  pub leaf-refused : leaf_part t ≡ refuses 24 → attach_transforms v p d u k t ≡ refuses 24
  unfolding attach_transforms ◌>>=◌
  leaf-refused h = ap (λ (x : ColumnType). attach_transforms v p d x k t) is ∙ ap (λ (x : Result LeafType). x >>= λ a. ruled (pair_rule p a m) k m) h

-- a refusal, answered
pub makes-refused : {X : Result Selector} {n : ℕ} (b e : ℕ) (out : Bytes) (k : ℕ) (o : Bytes) → X ≡ refuses n → Makes b e out k X (Made.Refused n) o
unfolding made_of Wrote
makes-refused b e out k o h = rw h (record { answer = refl; wrote = tt })

-- the same answer under another name of the selector
pub makes_as : {X Y : Result Selector} (b e : ℕ) (r : Made) (out : Bytes) (k : ℕ) (o : Bytes) → X ≡ Y → Makes b e out k Y r o → Makes b e out k X r o
makes_as {X} {Y} b e r out k o h m = subst (λ (Z : Result Selector). Makes b e out k Z r o) (sym h) m
