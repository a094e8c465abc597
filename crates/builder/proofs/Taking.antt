-- What was taken of a type, by the answers for its parts. Assumes nothing.
use Prim.Native.Nat.{ℕ, ◌+◌, ◌-◌, ◌≤◌, ◌<◌}
use mathlib.Core.Path.{◌≡◌, refl, sym, ap, ◌∙◌, subst}
use mathlib.Core.Bool.{true}
use mathlib.Core.List.{[]}
use lib.ListN.{length}
use borrow.Author.Tests.{eq-eqb, ne_eqb}
use Rattle.layout.specs.Bytes.{Bytes}
use Rattle.layout.specs.Tree.{Label, ColumnType, cleaf, cstruct, clist, carray, Columns}
use Rattle.layout.specs.Layout.{columns, type}
use Rattle.layout.specs.code.Answers.{label_at, SpanIn}
use Rattle.layout.specs.code.Stands.{TypeAt, ColumnsAt}
use Rattle.layout.specs.Find.{Lookup, absent, present}
use Rattle.layout.specs.code.Finding.{Finds}
use Rattle.layout.specs.declared.columns.Position.{Position}
use Rattle.layout.specs.declared.columns.Label.{Label as LabelSpan}
use Rattle.layout.specs.declared.columns.Siblings.TheVariants.{Free}
use Rattle.layout.specs.declared.cursor.Cursor.{Cursor}
use Rattle.layout.specs.declared.find.Found.{Found}
use Rattle.layout.specs.declared.edition.Edition.{Edition}
use Rattle.layout.specs.declared.matching.Matching.{Matching}
use Rattle.layout.proofs.Ways.{clash}
use Rattle.plan.specs.Result.{Result, gives, refuses, demand}
use Rattle.matching.specs.Build.{Element, list_part, array_part}
use Rattle.matching.specs.Calls.{takes}
use Rattle.builder.specs.code.Answers.{StructPartIs, Inner, no_element, list_element, array_element, element_of, ElementIs, ElementPartIs, InnerPartIs}
use Rattle.builder.specs.code.Answers.{needs_rename}
use Rattle.builder.specs.declared.parts.StructPart.{StructPart}
use Rattle.builder.specs.declared.parts.ElementPart.{ElementPart}
use Rattle.builder.specs.declared.parts.InnerPart.{InnerPart}

-- ---- a struct's columns

pub record StructTaken (v : Edition) (d : ℕ) (s : Bytes) (at : ℕ) (X : Result Columns) (e n : ℕ) (c : Cursor) : Type 0 where
  pub inner : ColumnsAt v (d - 1) s n c.at
  pub is : X ≡ gives inner.columns
  pub ends : inner.end ≡ e
  pub after : at < c.at
  pub within : c.at ≤ length s

module _ (v : Edition) (d : ℕ) (s : Bytes) (at : ℕ) {r : StructPart} where
  pub part-struct : (X : Result Columns) (e : ℕ) {n : ℕ} {c : Cursor} → StructPartIs v d s at X e r → r ≡ StructPart.Is n c → StructTaken v d s at X e n c
  part-struct (refuses k) e {n} {c} h q = let z : StructPart.Mismatch ≡ StructPart.Is n c = sym h.1 ∙ q in clash (cc)
  part-struct (gives cs) e {n} {c} h q =
      let z : StructPart.Is h.count h.start ≡ StructPart.Is n c = sym h.is ∙ q in
      let y : h.count ≡ n = cc in
      let x : h.start ≡ c = cc in
      record {
        inner = record {
          columns = h.inner.columns;
          end = h.inner.end;
          reads = ap (λ (m : ℕ). columns v Free (type v Free (d - 1)) m [] s c.at) (sym y)
              ∙ ap (λ (b : Cursor). columns v Free (type v Free (d - 1)) h.count [] s b.at) (sym x) ∙ h.inner.reads;
        };
        is = ap gives (sym h.columns);
        ends = h.ends;
        after = subst (λ (b : Cursor). at < b.at) x h.after;
        within = subst (λ (b : Cursor). b.at ≤ length s) x h.within;
      }

  pub part_no_struct : (X : Result Columns) (e : ℕ) → StructPartIs v d s at X e r → r ≡ StructPart.Mismatch → X ≡ refuses 24
  part_no_struct (refuses n) e h q = ap refuses h.0
  part_no_struct (gives cs) e h q = let z : StructPart.Is h.count h.start ≡ StructPart.Mismatch = sym h.is ∙ q in clash (cc)

-- ---- an element: its label stands at l and its type at c

pub record ElementTaken (v : Edition) (d : ℕ) (s : Bytes) (at : ℕ) (a : Label) (t : ColumnType) (e : ℕ) (l : LabelSpan) (c : Cursor) : Type 0 where
  pub inside : SpanIn s l.name
  pub short : l.name.len ≤ 63
  pub label : a ≡ label_at s l
  pub inner : TypeAt v (d - 1) s c.at
  pub tree : t ≡ inner.tree
  pub ends : inner.end ≡ e
  pub after : at < c.at
  pub named : (how : Matching) (x y : Label) → takes how v ≡ true → needs_rename how x y ≡ true → at + 1 < c.at

taken : {R : Type 0} {v : Edition} {d : ℕ} {s : Bytes} {at : ℕ} {a : Label} {t : ColumnType} {e : ℕ} {f : LabelSpan → Cursor → R} {r : R}
    {l : LabelSpan} {c : Cursor}
    (E : ElementIs v d s at a t e f r) → E.span ≡ l → E.start ≡ c → ElementTaken v d s at a t e l c
taken {v = v} {d} {s} {at} {c = c} E y x = record {
  inside = subst (λ (b : LabelSpan). SpanIn s b.name) y E.inside;
  short = subst (λ (b : LabelSpan). b.name.len ≤ 63) y E.short;
  label = sym E.label ∙ ap (label_at s) y;
  inner = record { tree = E.inner.tree; end = E.inner.end; reads = ap (λ (b : Cursor). type v Free (d - 1) s b.at) (sym x) ∙ E.inner.reads };
  tree = sym E.tree;
  ends = E.ends;
  after = subst (λ (b : Cursor). at < b.at) x E.after;
  named = λ how p q t h. subst (λ (b : Cursor). at + 1 < b.at) x (E.named how p q t h);
}

-- the same under the names of the answer
renewed : {R S : Type 0} {v : Edition} {d : ℕ} {s : Bytes} {at : ℕ} {a : Label} {t : ColumnType} {e : ℕ} {f : LabelSpan → Cursor → R} {r : R}
    (g : LabelSpan → Cursor → S) {l : LabelSpan} {c : Cursor}
    (E : ElementIs v d s at a t e f r) → E.span ≡ l → E.start ≡ c → ElementIs v d s at a t e g (g l c)
renewed g {l} {c} E y x = record {
  span = E.span;
  start = E.start;
  is = ap (λ (b : LabelSpan). g b c) (sym y) ∙ ap (λ (b : Cursor). g E.span b) (sym x);
  label = E.label;
  inside = E.inside;
  short = E.short;
  inner = E.inner;
  tree = E.tree;
  ends = E.ends;
  after = E.after;
  named = E.named;
}

-- the target's
pub record InnerTaken (v : Edition) (d : ℕ) (s : Bytes) (at : ℕ) (X : Inner) (g : Label → ColumnType → Inner) (e : ℕ) (l : LabelSpan) (c : Cursor) :
    Type 0 where
  pub label : Label
  pub type : ColumnType
  pub is : X ≡ g label type
  pub element : ElementTaken v d s at label type e l c

module _ (v : Edition) (d : ℕ) (s : Bytes) (at : ℕ) {r : ElementPart} where
  pub part-list : (X : Inner) (e : ℕ) {l : LabelSpan} {c : Cursor} → ElementPartIs v d s at X e r → r ≡ ElementPart.List l c → InnerTaken v d s at X
      (λ a t. list_element a t) e l c
  part-list no_element e {l} {c} h q = let z : ElementPart.Mismatch ≡ ElementPart.List l c = sym h ∙ q in clash (cc)
  part-list (list_element a t) e {l} {c} h q =
      let z : ElementPart.List h.span h.start ≡ ElementPart.List l c = sym h.is ∙ q in
      let y : h.span ≡ l = cc in
      let x : h.start ≡ c = cc in
      record { label = a; type = t; is = refl; element = taken h y x }
  part-list (array_element w a t) e {l} {c} h q = let z : ElementPart.Array w h.span h.start ≡ ElementPart.List l c = sym h.is ∙ q in clash (cc)

  pub part-array : (X : Inner) (e : ℕ) {w : ℕ} {l : LabelSpan} {c : Cursor} → ElementPartIs v d s at X e r → r ≡ ElementPart.Array w l c → InnerTaken v
      d s at X (λ a t. array_element w a t) e l c
  part-array no_element e {w} {l} {c} h q = let z : ElementPart.Mismatch ≡ ElementPart.Array w l c = sym h ∙ q in clash (cc)
  part-array (list_element a t) e {w} {l} {c} h q = let z : ElementPart.List h.span h.start ≡ ElementPart.Array w l c = sym h.is ∙ q in clash (cc)
  part-array (array_element x a t) e {w} {l} {c} h q =
      let z : ElementPart.Array x h.span h.start ≡ ElementPart.Array w l c = sym h.is ∙ q in
      let u : x ≡ w = cc in
      let y : h.span ≡ l = cc in
      let x : h.start ≡ c = cc in
      record { label = a; type = t; is = ap (λ (n : ℕ). array_element n a t) u; element = taken h y x }

  pub part-no_element : (X : Inner) (e : ℕ) → ElementPartIs v d s at X e r → r ≡ ElementPart.Mismatch → X ≡ no_element
  part-no_element no_element e h q = refl
  part-no_element (list_element a t) e h q = let z : ElementPart.List h.span h.start ≡ ElementPart.Mismatch = sym h.is ∙ q in clash (cc)
  part-no_element (array_element w a t) e h q = let z : ElementPart.Array w h.span h.start ≡ ElementPart.Mismatch = sym h.is ∙ q in clash (cc)

  -- the incoming type's, by its kind
  pub list-is : (t : ColumnType) (e : ℕ) {l : LabelSpan} {c : Cursor} → ElementPartIs v d s at (element_of t) e r → r ≡ ElementPart.List l c →
      InnerPartIs v d s at (list_part t) e (InnerPart.Is l c)
  unfolding element_of list_part
  list-is (cleaf a) e {l} {c} h q = let z : ElementPart.Mismatch ≡ ElementPart.List l c = sym h ∙ q in clash (cc)
  list-is (cstruct cs) e {l} {c} h q = let z : ElementPart.Mismatch ≡ ElementPart.List l c = sym h ∙ q in clash (cc)
  list-is (clist a t) e {l} {c} h q =
      let z : ElementPart.List h.span h.start ≡ ElementPart.List l c = sym h.is ∙ q in
      let y : h.span ≡ l = cc in
      let x : h.start ≡ c = cc in
      renewed (λ a b. InnerPart.Is a b) h y x
  list-is (carray w a t) e {l} {c} h q = let z : ElementPart.Array w h.span h.start ≡ ElementPart.List l c = sym h.is ∙ q in clash (cc)

  pub list-array : (t : ColumnType) (e : ℕ) {w : ℕ} {l : LabelSpan} {c : Cursor} → ElementPartIs v d s at (element_of t) e r → r ≡ ElementPart.Array w l
      c → InnerPartIs v d s at (list_part t) e InnerPart.Mismatch
  unfolding element_of list_part
  list-array (cleaf a) e h q = (refl, refl)
  list-array (cstruct cs) e h q = (refl, refl)
  list-array (clist a t) e {w} {l} {c} h q = let z : ElementPart.List h.span h.start ≡ ElementPart.Array w l c = sym h.is ∙ q in clash (cc)
  list-array (carray w a t) e h q = (refl, refl)

  pub list-none : (t : ColumnType) (e : ℕ) → ElementPartIs v d s at (element_of t) e r → r ≡ ElementPart.Mismatch → InnerPartIs v d s at (list_part t) e
      InnerPart.Mismatch
  unfolding element_of list_part
  list-none (cleaf a) e h q = (refl, refl)
  list-none (cstruct cs) e h q = (refl, refl)
  list-none (clist a t) e h q = let z : ElementPart.List h.span h.start ≡ ElementPart.Mismatch = sym h.is ∙ q in clash (cc)
  list-none (carray w a t) e h q = (refl, refl)

  module _ (w : ℕ) where
    pub array-list : (t : ColumnType) (e : ℕ) {l : LabelSpan} {c : Cursor} → ElementPartIs v d s at (element_of t) e r → r ≡ ElementPart.List l c →
        InnerPartIs v d s at (array_part w t) e InnerPart.Mismatch
    unfolding element_of array_part
    array-list (cleaf a) e h q = (refl, refl)
    array-list (cstruct cs) e h q = (refl, refl)
    array-list (clist a t) e h q = (refl, refl)
    array-list (carray x a t) e {l} {c} h q = let z : ElementPart.Array x h.span h.start ≡ ElementPart.List l c = sym h.is ∙ q in clash (cc)

    pub array-none : (t : ColumnType) (e : ℕ) → ElementPartIs v d s at (element_of t) e r → r ≡ ElementPart.Mismatch → InnerPartIs v d s at
        (array_part w t) e InnerPart.Mismatch
    unfolding element_of array_part
    array-none (cleaf a) e h q = (refl, refl)
    array-none (cstruct cs) e h q = (refl, refl)
    array-none (clist a t) e h q = (refl, refl)
    array-none (carray x a t) e h q = let z : ElementPart.Array x h.span h.start ≡ ElementPart.Mismatch = sym h.is ∙ q in clash (cc)

    module _ {x : ℕ} {l : LabelSpan} {c : Cursor} where
      pub array-is : (t : ColumnType) (e : ℕ) → ElementPartIs v d s at (element_of t) e r → r ≡ ElementPart.Array x l c → x ≡ w → InnerPartIs v d s at
          (array_part w t) e (InnerPart.Is l c)
      unfolding element_of array_part demand
      array-is (cleaf a) e h q i = let z : ElementPart.Mismatch ≡ ElementPart.Array x l c = sym h ∙ q in clash (cc)
      array-is (cstruct cs) e h q i = let z : ElementPart.Mismatch ≡ ElementPart.Array x l c = sym h ∙ q in clash (cc)
      array-is (clist a t) e h q i = let z : ElementPart.List h.span h.start ≡ ElementPart.Array x l c = sym h.is ∙ q in clash (cc)
      array-is (carray y a t) e h q i =
          let z : ElementPart.Array y h.span h.start ≡ ElementPart.Array x l c = sym h.is ∙ q in
          let u : y ≡ x = cc in
          let b : h.span ≡ l = cc in
          let o : h.start ≡ c = cc in
          rw (eq-eqb y w (u ∙ i)) (renewed (λ a b. InnerPart.Is a b) h b o)

      pub array-width : (t : ColumnType) (e : ℕ) → ElementPartIs v d s at (element_of t) e r → r ≡ ElementPart.Array x l c → (x ≡ w → ⊥) → InnerPartIs v
          d s at (array_part w t) e InnerPart.Mismatch
      unfolding element_of array_part demand
      array-width (cleaf a) e h q i = (refl, refl)
      array-width (cstruct cs) e h q i = (refl, refl)
      array-width (clist a t) e h q i = (refl, refl)
      array-width (carray y a t) e h q i =
          let z : ElementPart.Array y h.span h.start ≡ ElementPart.Array x l c = sym h.is ∙ q in
          let u : y ≡ x = cc in
          rw (ne_eqb y w (λ j. i (sym u ∙ j))) (refl, refl)

pub record PartTaken (v : Edition) (d : ℕ) (s : Bytes) (at : ℕ) (X : Result Element) (e : ℕ) (l : LabelSpan) (c : Cursor) : Type 0 where
  pub part : Element
  pub is : X ≡ gives part
  pub element : ElementTaken v d s at part.label part.type e l c

module _ (v : Edition) (d : ℕ) (s : Bytes) (at : ℕ) {r : InnerPart} where
  pub part-inner : (X : Result Element) (e : ℕ) {l : LabelSpan} {c : Cursor} → InnerPartIs v d s at X e r → r ≡ InnerPart.Is l c → PartTaken v d s at X e l c
  part-inner (refuses n) e {l} {c} h q = let z : InnerPart.Mismatch ≡ InnerPart.Is l c = sym h.1 ∙ q in clash (cc)
  part-inner (gives x) e {l} {c} h q =
      let z : InnerPart.Is h.span h.start ≡ InnerPart.Is l c = sym h.is ∙ q in
      let y : h.span ≡ l = cc in
      let o : h.start ≡ c = cc in
      record { part = x; is = refl; element = taken h y o }

  pub part_no_inner : (X : Result Element) (e : ℕ) → InnerPartIs v d s at X e r → r ≡ InnerPart.Mismatch → X ≡ refuses 24
  part_no_inner (refuses n) e h q = ap refuses h.0
  part_no_inner (gives x) e h q = let z : InnerPart.Is h.span h.start ≡ InnerPart.Mismatch = sym h.is ∙ q in clash (cc)

-- ---- a counterpart

pub record FoundHere (v : Edition) (d : ℕ) (s : Bytes) (X : Lookup) (k : Position) (m : LabelSpan) (c : Cursor) : Type 0 where
  pub inner : TypeAt v d s c.at
  pub is : X ≡ present k (label_at s m) inner.tree
  pub inside : SpanIn s m.name

module _ (v : Edition) (d : ℕ) (s : Bytes) {r : Found} where
  pub found_here : (X : Lookup) {k : Position} {m : LabelSpan} {c : Cursor} → Finds v d s X r → r ≡ Found.At k m c → FoundHere v d s X k m c
  found_here absent {k} {m} {c} h q = let z : Found.Absent ≡ Found.At k m c = sym h ∙ q in clash (cc)
  found_here (present i l t) {k} {m} {c} h q =
      let z : Found.At i h.span h.start ≡ Found.At k m c = sym h.is ∙ q in
      let u : i ≡ k = cc in
      let y : h.span ≡ m = cc in
      let o : h.start ≡ c = cc in
      record {
        inner = record { tree = t; end = h.end; reads = ap (λ (b : Cursor). type v Free d s b.at) (sym o) ∙ h.reads };
        is = ap (λ (j : Position). present j l t) u ∙ ap (λ (a : Label). present k a t) (sym h.label ∙ ap (label_at s) y);
        inside = subst (λ (b : LabelSpan). SpanIn s b.name) y h.inside;
      }

  pub found-absent : (X : Lookup) → Finds v d s X r → r ≡ Found.Absent → X ≡ absent
  found-absent absent h q = refl
  found-absent (present i l t) h q = let z : Found.At i h.span h.start ≡ Found.Absent = sym h.is ∙ q in clash (cc)
