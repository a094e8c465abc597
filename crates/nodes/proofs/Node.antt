-- What is answered on each way to a part of a value, by what stands there. Assumes nothing.
use Prim.Native.Nat.{ℕ, ◌≤◌, ◌<◌}
use mathlib.Core.Path.{◌≡◌, refl, sym, ap, ◌∙◌, subst}
use native.Mathlib.Omega.{arith}
use Rattle.layout.specs.Bytes.{Bytes}
use Rattle.layout.specs.Parser.{refuse, ok, next, chunk, u16}
use Rattle.layout.specs.Tree.{LeafType, Label, DataType, cleaf, clist, carray, dtype_of, fields_of}
use Rattle.layout.specs.Layout.{Head, kind, label as label_of, element_label, type, body, list_type, array_type, deepest}
use Rattle.layout.specs.code.Answers.{short_res, head_res, label_res, label_at}
use Rattle.layout.specs.code.Stands.{TypeAt, ColumnsAt}
use Rattle.layout.specs.declared.cursor.Cursor.{Cursor}
use Rattle.layout.specs.declared.cursor.Short.{Short}
use Rattle.layout.specs.declared.leaf.Leaf.{Leaf}
use Rattle.layout.specs.declared.types.Head.{Head as HeadSpan}
use Rattle.layout.specs.declared.columns.Label.{Label as LabelSpan}
use Rattle.layout.specs.declared.columns.Labelled.{Labelled}
use Rattle.layout.specs.declared.columns.Siblings.TheVariants.{Free}
use Rattle.layout.specs.declared.edition.Edition.{Edition}
use Rattle.layout.proofs.Ways.{clash}
use Rattle.layout.proofs.View.{next-ok, label_got, label-none, StructAt, ListAt, ArrayAt, list_at}
use Rattle.values.specs.Value.{Value, vnull, vnumber, vtext, Values}
use Rattle.values.specs.Reading.{presence, flag, little, long_text, content_by, leaf_content, content as contentOfType, value, values as values_of, times, decimal}
use Rattle.values.specs.code.Answers.{presence_res, value_moved}
use Rattle.values.specs.code.Stands.{ContentAt}
use Rattle.values.specs.declared.content.Content.{Content}
use Rattle.values.specs.declared.content.Content.TheVariants.{Nothing, Flag, Number, Decimal, Text}
use Rattle.values.specs.declared.leaf.Presence.{Presence}
use Rattle.values.specs.declared.read.ValueRead.{ValueRead}
use Rattle.values.proofs.Walk.{moved_value, moved_none}
use Rattle.values.proofs.Inside.{null-at, present-at, never_absent, struct_in, list_in, never_uncounted, array_in}
use Rattle.plan.specs.Run.{value_at}
use Rattle.walk.specs.code.Values.{opened}
use Rattle.nodes.specs.code.Raw.{RawAt, RowAt, ElementsAt, ListOf, PresentAt, NodeIs, NodeOf, part_at, parts_of}
use Rattle.nodes.specs.declared.raw.NodeAt.{NodeAt}
use Rattle.nodes.specs.declared.raw.Parts.{Parts}
use Rattle.nodes.proofs.Deeper.{deeper-type, deeper-columns}
use Rattle.nodes.proofs.Rows.{first_of_lem, split_of, count-row, past-values, element_of_lem, count-each}

-- the same place under another name
pub raw_moved : {v : Edition} {lay : Bytes} {t u : ℕ} {rec : Bytes} {c d : ℕ} → t ≡ u → c ≡ d → {x : Value} → NodeIs v lay t rec c x → NodeIs v lay u rec d x
raw_moved {v} {lay} {t} {u} {rec} {c} {d} e f N = record {
  raw = record {
    type = record { tree = N.raw.type.tree; end = N.raw.type.end; reads = ap (λ (o : ℕ). type v Free deepest lay o) (sym e) ∙ N.raw.type.reads };
    value = record {
      tree = N.raw.value.tree;
      end = N.raw.value.end;
      reads = ap (λ (o : ℕ). value (dtype_of N.raw.type.tree) rec o) (sym f) ∙
          N.raw.value.reads;
    };
  };
  is = N.is;
}

-- ---- the two answers

pub nowhere : {v : Edition} {lay rec : Bytes} {x : Value} → x ≡ vnull → NodeOf v lay rec x NodeAt.Null
nowhere e = record { none = λ q. e; here = λ t c q. clash (cc) }

pub standing : {v : Edition} {lay rec : Bytes} {x : Value} {t c : Cursor} → NodeIs v lay t.at rec c.at x → NodeOf v lay rec x (NodeAt.At t c)
standing {t = t} {c = c} N = record {
  none = λ q. clash (cc);
  here = λ u d q. let e : t.at ≡ u.at = cc in let f : c.at ≡ d.at = cc in raw_moved e f N;
}

-- the same node, by an equation of its value
pub node_as : {v : Edition} {lay rec : Bytes} {r : NodeAt} {x y : Value} → x ≡ y → NodeOf v lay rec x r → NodeOf v lay rec y r
node_as {v} {lay} {rec} {r} e h = subst (λ (z : Value). NodeOf v lay rec z r) e h

pub part_as : {v : Edition} {lay rec : Bytes} (k : ℕ) {r : NodeAt} {x y : Value} → x ≡ y → NodeOf v lay rec (part_at x k) r → NodeOf v lay rec (part_at y k) r
part_as {v} {lay} {rec} k {r} e h = subst (λ (z : Value). NodeOf v lay rec (part_at z k) r) e h

-- ---- a column's value

module _ {v : Edition} {lay : Bytes} {n t : ℕ} {rec : Bytes} {c : ℕ} (X : RowAt v lay n t rec c) {k : ℕ} where
  pub field_past : n ≤ k → NodeOf v lay rec (value_at X.values.values k) NodeAt.Null
  field_past h = nowhere (past-values X.values.values k (let e = count-row X in omega arith))

  pub field_front : k < n → ColumnsAt v deepest lay k t
  field_front h = (split_of k X (omega arith)).front.columns

  module _ (h : k < n) {r : ValueRead} (g : (Q : ColumnsAt v deepest lay k t) → r ≡ value_moved Q.end (values_of (fields_of Q.columns) rec c)) where
    pub field_unread : {B : Type 0} {i : ℕ} → r ≡ ValueRead.Refused i → B
    field_unread {i = i} e =
        let S = split_of k X (omega arith) in
        let z : refuse i ≡ ok S.front.values.values S.front.values.end = sym
        (moved_none (values_of (fields_of S.front.columns.columns) rec c) _ (g S.front.columns) e) ∙ S.front.values.reads in
        clash (cc)

    module _ {b d : Cursor} (e : r ≡ ValueRead.To b d) where
      -- where the columns before it end, its label stands, and where their values end, its value
      record Place : Type 0 where
        pub label : Label
        pub start : ℕ
        pub labelled : label_of v lay b.at ≡ ok label start
        pub node : NodeIs v lay start rec d.at (value_at X.values.values k)

      place : Place
      unfolding value_at
      place =
          let S = split_of k X (omega arith) in
          let F = first_of_lem S.back (λ z. omega arith) in
          let (vs, z, w) = moved_value (values_of (fields_of S.front.columns.columns) rec c) _ (g S.front.columns) e in
          let y : ok vs d.at ≡ ok S.front.values.values S.front.values.end = sym z ∙ S.front.values.reads in
          let i : S.front.values.end ≡ d.at = cc in
          record {
            label = F.label;
            start = F.start;
            labelled = ap (λ (o : ℕ). label_of v lay o) w ∙ F.labelled;
            node = raw_moved refl i (record { raw = F.head; is = sym (S.is ∙ ap (λ (vs : Values). value_at vs 0) F.is) });
          }

      module _ {q : Labelled} (f : label_res lay q ≡ label_of v lay b.at) where
        pub field_found : {l : LabelSpan} {a : Cursor} → q ≡ Labelled.Is l a → NodeOf v lay rec (value_at X.values.values k) (NodeAt.At a d)
        field_found {l} {a} j =
            let P = place in
            let y : ok (label_at lay l) a.at ≡ ok P.label P.start = sym (label_got lay f j) ∙ P.labelled in
            let i : P.start ≡ a.at = cc in
            standing (raw_moved i refl P.node)

        pub field-unlabelled : {B : Type 0} {i : ℕ} → q ≡ Labelled.Refused i → B
        field-unlabelled {i = i} j =
            let P = place in
            let y : refuse i ≡ ok P.label P.start = sym (label-none lay f j) ∙ P.labelled in
            clash (cc)

-- ---- an element

module _ {v : Edition} {lay : Bytes} {n t : ℕ} {rec : Bytes} {c : ℕ} (X : ElementsAt v lay n t rec c) {k : ℕ} where
  pub element-past : n ≤ k → NodeOf v lay rec (value_at X.values.values k) NodeAt.Null
  element-past h = nowhere (past-values X.values.values k (let e = count-each X.values in omega arith))

  module _ (h : k < n) {r : ValueRead} (g : (Q : TypeAt v deepest lay t) → r ≡ value_moved Q.end (times k (value (dtype_of Q.tree)) rec c)) where
    pub element_unread : {B : Type 0} {i : ℕ} → r ≡ ValueRead.Refused i → B
    element_unread {i = i} e =
        let E = element_of_lem k X.values h in
        let z : refuse i ≡ ok E.front.values E.front.end = sym (moved_none (times k (value (dtype_of X.type.tree)) rec c) _ (g X.type) e)
        ∙ E.front.reads in
        clash (cc)

    pub element-found : {b d a : Cursor} → t ≡ a.at → r ≡ ValueRead.To b d → NodeOf v lay rec (value_at X.values.values k) (NodeAt.At a d)
    element-found {b} {d} j e =
        let E = element_of_lem k X.values h in
        let (vs, z, w) = moved_value (times k (value (dtype_of X.type.tree)) rec c) _ (g X.type) e in
        let y : ok vs d.at ≡ ok E.front.values E.front.end = sym z ∙ E.front.reads in
        let i : E.front.end ≡ d.at = cc in
        standing (raw_moved j i (record { raw = record { type = X.type; value = E.element }; is = sym E.is }))

-- ---- the parts of a value that is present

-- a list's elements, after its count
pub record ElementsIn (v : Edition) (lay : Bytes) (n t : ℕ) (rec : Bytes) (c : ℕ) (x : Value) : Type 0 where
  pub elements : ElementsAt v lay n t rec c
  pub part : (k : ℕ) → part_at x k ≡ value_at elements.values.values k
  pub parts : parts_of x ≡ Parts.Some n

module _ {v : Edition} {lay : Bytes} {t : ℕ} {rec : Bytes} {c : ℕ} (X : ListOf v lay t rec c) {q : Short} (e : short_res q ≡ u16 rec c) where
  pub list_counted : {n : ℕ} {d : Cursor} → q ≡ Short.Is n d → ElementsIn v lay n t rec d.at X.content.tree
  unfolding opened parts_of
  list_counted f =
      let L = list_in X.content e f in
      record {
        elements = record { type = X.type; values = L.inner };
        part = λ k. ap (λ (x : Value). part_at x k) L.is;
        parts = ap parts_of L.is ∙ ap Parts.Some (count-each L.inner);
      }

  pub list_uncounted : {B : Type 0} {k : ℕ} → q ≡ Short.Refused k → B
  list_uncounted f = never_uncounted X.content e f

content_as : {t u : DataType} {s : Bytes} {at : ℕ} → t ≡ u → ContentAt t s at → ContentAt u s at
content_as {s = s} {at = at} e P = record { tree = P.tree; end = P.end; reads = ap (λ (t : DataType). contentOfType t s at) (sym e) ∙ P.reads }

-- a leaf has no parts
pub record NoParts (x : Value) : Type 0 where
  pub part : (k : ℕ) → part_at x k ≡ vnull
  pub parts : parts_of x ≡ Parts.None

no_number : (x : Value) {k : Leaf} {n : ℕ} → vnumber k n ≡ x → NoParts x
unfolding opened parts_of
no_number x e = record { part = λ k. ap (λ (x : Value). part_at x k) (sym e); parts = ap parts_of (sym e) }

no_text : (x : Value) {b : Bytes} → vtext b ≡ x → NoParts x
unfolding opened parts_of
no_text x e = record { part = λ k. ap (λ (x : Value). part_at x k) (sym e); parts = ap parts_of (sym e) }

pub no_null : {x : Value} → x ≡ vnull → NoParts x
unfolding opened parts_of
no_null e = record { part = λ k. ap (λ (x : Value). part_at x k) e; parts = ap parts_of e }

content_no_parts : (c : Content) (k : Leaf) (s : Bytes) (at : ℕ) (x : Value) {m : ℕ} → content_by c k s at ≡ ok x m → NoParts x
unfolding content_by
content_no_parts Nothing k s at x e = clash (cc)
content_no_parts Flag k s at x e = let (b, i, h, g) = next-ok (flag s at) _ e in no_number x {k = k} {n = b} (cc)
content_no_parts (Decimal p) k s at x e = let (n, i, h, g) = next-ok (decimal p s at) _ e in no_number x {k = k} {n = n} (cc)
content_no_parts (Number w) k s at x e = let (b, i, h, g) = next-ok (chunk w s at) _ e in no_number x {k = k} {n = little b} (cc)
content_no_parts Text k s at x e = let (b, i, h, g) = next-ok (long_text s at) _ e in no_text x {b = b} (cc)

-- a struct's columns and their values
pub record RowIn (v : Edition) (lay : Bytes) (n t : ℕ) (rec : Bytes) (c : ℕ) (x : Value) : Type 0 where
  pub row : RowAt v lay n t rec c
  pub part : (k : ℕ) → part_at x k ≡ value_at row.values.values k
  pub parts : parts_of x ≡ Parts.Some n

-- a type, after what it begins with
behind : {v : Edition} {lay : Bytes} {t : ℕ} {rec : Bytes} {c : ℕ} (X : PresentAt v lay t rec c) {k : Head} {m : ℕ} → kind lay t ≡ ok k m → body v Free
    (type v Free 15) k lay m ≡ ok X.type.tree X.type.end
unfolding type next
behind X q = rw q at X.type.reads

-- a list, whose element's type is known
pub record ListIs (v : Edition) (lay : Bytes) (t : ℕ) (rec : Bytes) (c : ℕ) (x : Value) : Type 0 where
  pub inner : ListOf v lay t rec c
  pub is : inner.content.tree ≡ x

module _ {v : Edition} {lay : Bytes} {t : ℕ} {rec : Bytes} {c : ℕ} (X : PresentAt v lay t rec c) where
  pub leaf-none : {l : LeafType} → X.type.tree ≡ cleaf l → NoParts X.content.tree
  unfolding dtype_of contentOfType leaf_content content_as
  leaf-none e = content_no_parts _ _ rec c X.content.tree (content_as (ap dtype_of e) X.content).reads

  pub struct_row : {n m : ℕ} → StructAt v deepest lay t X.type n m → RowIn v lay n m rec c X.content.tree
  unfolding dtype_of content_as opened parts_of deeper-columns
  struct_row S =
      let I = struct_in (content_as (ap dtype_of S.is) X.content) in
      let row : RowAt v lay _ _ rec c = record { columns = deeper-columns (omega arith) S.inner; values = I.inner } in
      record {
        row = row;
        part = λ k. ap (λ (x : Value). part_at x k) I.is;
        parts = ap parts_of I.is ∙ ap Parts.Some (count-row row);
      }

  pub list-within : {l : Label} {m : ℕ} → ListAt v deepest lay t X.type l m → ListIs v lay m rec c X.content.tree
  unfolding dtype_of content_as deeper-type
  list-within L =
      record { inner = record { type = deeper-type (omega arith) L.inner; content = content_as (ap dtype_of L.is) X.content }; is = refl }

  pub array-elements : {w : ℕ} {l : Label} {m : ℕ} → ArrayAt v deepest lay t X.type w l m → ElementsIn v lay w m rec c X.content.tree
  unfolding dtype_of content_as opened parts_of deeper-type
  array-elements L =
      let I = array_in (content_as (ap dtype_of L.is) X.content) in
      record {
        elements = record { type = deeper-type (omega arith) L.inner; values = I.inner };
        part = λ k. ap (λ (x : Value). part_at x k) I.is;
        parts = ap parts_of I.is ∙ ap Parts.Some (count-each I.inner);
      }

module _ {v : Edition} {lay : Bytes} {t : ℕ} {rec : Bytes} {c : ℕ} (X : PresentAt v lay t rec c) {p : HeadSpan} (e : head_res lay p ≡ kind lay t) where
  pub list-is : {b : Cursor} {q : Labelled} → label_res lay q ≡ element_label v lay b.at → {l : LabelSpan} {a : Cursor} → q ≡ Labelled.Is l a
      → p ≡ HeadSpan.List b → ListIs v lay a.at rec c X.content.tree
  list-is g h f = list-within X (list_at X.type e g f h)

  -- the number of parts, with no look at the element's type
  pub list-parts : {b : Cursor} {q : Short} {n : ℕ} {d : Cursor} → p ≡ HeadSpan.List b → short_res q ≡ u16 rec c → q ≡ Short.Is n d → Parts.Some n ≡
      parts_of X.content.tree
  unfolding body list_type dtype_of content_as parts_of
  list-parts f g h =
      let (l, i, h₁, g₁) = next-ok _ _ (behind X (sym e ∙ ap (head_res lay) f)) in
      let (t, j, h₂, g₂) = next-ok _ _ g₁ in
      let z : X.type.tree ≡ clist l t = cc in
      let L = list_in (content_as (ap dtype_of z) X.content) g h in
      sym (ap parts_of L.is ∙ ap Parts.Some (count-each L.inner))

  pub list_unparted : {B : Type 0} {b : Cursor} {q : Short} {n : ℕ} → p ≡ HeadSpan.List b → short_res q ≡ u16 rec c → q ≡ Short.Refused n → B
  unfolding body list_type dtype_of content_as
  list_unparted f g h =
      let (l, i, h₁, g₁) = next-ok _ _ (behind X (sym e ∙ ap (head_res lay) f)) in
      let (t, j, h₂, g₂) = next-ok _ _ g₁ in
      let z : X.type.tree ≡ clist l t = cc in
      never_uncounted (content_as (ap dtype_of z) X.content) g h

  pub array_parts : {b : Cursor} {w : ℕ} → p ≡ HeadSpan.Array w b → Parts.Some w ≡ parts_of X.content.tree
  unfolding body array_type dtype_of content_as parts_of
  array_parts {w = w} f =
      let (l, i, h₁, g₁) = next-ok _ _ (behind X (sym e ∙ ap (head_res lay) f)) in
      let (t, j, h₂, g₂) = next-ok _ _ g₁ in
      let z : X.type.tree ≡ carray w l t = cc in
      let A = array_in (content_as (ap dtype_of z) X.content) in
      sym (ap parts_of A.is ∙ ap Parts.Some (count-each A.inner))

-- ---- by the presence byte

pub record PresentIs (v : Edition) (lay : Bytes) (t : ℕ) (rec : Bytes) (c : ℕ) (x : Value) : Type 0 where
  pub inner : PresentAt v lay t rec c
  pub is : inner.content.tree ≡ x

module _ {v : Edition} {lay : Bytes} {t : ℕ} {rec : Bytes} {c : ℕ} (X : RawAt v lay t rec c) {p : Presence} (e : presence_res p ≡ presence rec c) where
  pub raw-null : {d : Cursor} → p ≡ Presence.Null d → NoParts X.value.tree
  raw-null f = no_null (null-at X.value e f).0

  pub raw-present : {d : Cursor} → p ≡ Presence.Present d → PresentIs v lay t rec d.at X.value.tree
  raw-present f = let I = present-at X.value e f in record { inner = record { type = X.type; content = I.inner }; is = sym I.is }

  pub raw_unread : {B : Type 0} {k : ℕ} → p ≡ Presence.Refused k → B
  raw_unread f = never_absent X.value e f
