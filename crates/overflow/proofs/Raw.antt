-- What a value that is present is, by what its type begins with, and what is wanted of it. Assumes nothing.
use Prim.Native.Nat.{ℕ, ◌+◌, ◌≤◌}
use mathlib.Core.Path.{◌≡◌, refl, sym, ap, ◌∙◌}
use mathlib.Core.Bool.{Bool, true, false}
use native.Mathlib.Omega.{arith}
use lib.Dec.{ltb}
use lib.ListN.{length, take, drop}
use borrow.Author.Tests.{lt-ltb}
use Rattle.layout.specs.Bytes.{Bytes}
use Rattle.layout.specs.Parser.{ok, next, chunk, u16}
use Rattle.layout.specs.Tree.{leaf_of, DataType, leaf, struct, list, array, clist, carray, dtype_of}
use Rattle.layout.specs.Layout.{Head, kind, element_label, type, body, list_type, array_type}
use Rattle.layout.specs.code.Answers.{head_res, leaf_at, short_res, label_res}
use Rattle.layout.specs.declared.cursor.Cursor.{Cursor}
use Rattle.layout.specs.declared.cursor.Short.{Short}
use Rattle.layout.specs.declared.leaf.Leaf.{Leaf}
use Rattle.layout.specs.declared.leaf.TimeUnit.{TimeUnit}
use Rattle.layout.specs.declared.types.Head.{Head as HeadSpan}
use Rattle.layout.specs.declared.types.LeafType.{LeafType as LeafSpan}
use Rattle.layout.specs.declared.columns.Label.{Label as LabelSpan}
use Rattle.layout.specs.declared.columns.Labelled.{Labelled}
use Rattle.layout.specs.declared.columns.Siblings.TheVariants.{Free}
use Rattle.layout.specs.declared.edition.Edition.{Edition}
use Rattle.layout.proofs.Ways.{clash}
use Rattle.layout.proofs.View.{next-ok, leaf_at_lem, struct_at, array_at}
use Rattle.layout.proofs.Leaves.{leaf_of-type}
use Rattle.values.specs.Value.{Value, vnumber, vtext, vstruct, vlist, varray, Values, vnil, vcons, count_values, is_null_value}
use Rattle.values.specs.Content.{content_of}
use Rattle.values.specs.Reading.{flag, little, long_text, content_by, leaf_content, list_content, struct_content, array_content, content as contentOfType, decimal}
use Rattle.values.specs.code.Stands.{ContentAt}
use Rattle.values.specs.declared.content.Content.{Content}
use Rattle.values.specs.declared.content.Content.TheVariants.{Nothing, Flag, Number, Decimal, Text}
use Rattle.values.proofs.Inside.{struct_in, list_in, array_in, number_in_lem, never_uncounted}
use Rattle.nodes.specs.code.Raw.{RowAt, ElementsAt, PresentAt}
use Rattle.nodes.proofs.Deeper.{deeper-type, deeper-columns}
use Rattle.nodes.proofs.Rows.{count-each}
use Rattle.overflow.specs.code.Want.{time_of, count_beyond, filled, is_beyond, is_struct, is_filled}
use Rattle.overflow.specs.code.Some.{some_part}
use Rattle.overflow.specs.declared.want.Bounds.{Bounds}
use Rattle.overflow.specs.declared.want.Timed.{Timed}
use Rattle.overflow.specs.declared.want.Timed.TheVariants.{In, Never}

content_as : {t u : DataType} {s : Bytes} {at : ℕ} → t ≡ u → ContentAt t s at → ContentAt u s at
content_as {s = s} {at = at} e P = record { tree = P.tree; end = P.end; reads = ap (λ (t : DataType). contentOfType t s at) (sym e) ∙ P.reads }

filled-counted : (vs : Values) {n : ℕ} → count_values vs ≡ n → ltb 0 n ≡ filled vs
unfolding count_values filled
filled-counted vnil e = ap (ltb 0) (sym e)
filled-counted (vcons v vs) {n} e = lt-ltb 0 n (omega arith)

-- ---- leaves

-- a leaf's value has no parts
pub record LeafValue (x : Value) : Type 0 where
  pub parts : is_struct x ≡ false
  pub elements : is_filled x ≡ false
  pub present : is_null_value x ≡ false
  pub part : (k : ℕ) (f : Value → Bool) → some_part k f x ≡ false

of_number : (x : Value) {k : Leaf} {n : ℕ} → vnumber k n ≡ x → LeafValue x
unfolding is_struct is_filled some_part
of_number x e = record {
  parts = ap is_struct (sym e);
  elements = ap is_filled (sym e);
  present = ap is_null_value (sym e);
  part = λ k f. ap (some_part k f)
      (sym e);
}

of_text : (x : Value) {b : Bytes} → vtext b ≡ x → LeafValue x
unfolding is_struct is_filled some_part
of_text x e = record { parts = ap is_struct (sym e); elements = ap is_filled (sym e); present = ap is_null_value (sym e); part = λ k f. ap (some_part k f) (sym e) }

content-leaf : (c : Content) (k : Leaf) (s : Bytes) (at : ℕ) (x : Value) {m : ℕ} → content_by c k s at ≡ ok x m → LeafValue x
unfolding content_by
content-leaf Nothing k s at x e = clash (cc)
content-leaf Flag k s at x e = let (b, i, h, g) = next-ok (flag s at) _ e in of_number x {k = k} {n = b} (cc)
content-leaf (Decimal p) k s at x e = let (n, i, h, g) = next-ok (decimal p s at) _ e in of_number x {k = k} {n = n} (cc)
content-leaf (Number w) k s at x e = let (b, i, h, g) = next-ok (chunk w s at) _ e in of_number x {k = k} {n = little b} (cc)
content-leaf Text k s at x e = let (b, i, h, g) = next-ok (long_text s at) _ e in of_text x {b = b} (cc)

-- nothing that is present is null
pub content-present : (t : DataType) (s : Bytes) (at : ℕ) (x : Value) {m : ℕ} → contentOfType t s at ≡ ok x m → false ≡ is_null_value x
unfolding contentOfType leaf_content struct_content list_content array_content
content-present (leaf l) s at x e = sym (content-leaf _ _ s at x e).present
content-present (struct fs) s at x e =
    let (vs, i, h, g) = next-ok _ _ e in
    let z : vstruct vs ≡ x = cc in
    ap is_null_value z
content-present (list t) s at x e =
    let (n, i, h, g) = next-ok _ _ e in
    let (vs, j, k, f) = next-ok _ _ g in
    let z : vlist vs ≡ x = cc in
    ap is_null_value z
content-present (array w t) s at x e =
    let (vs, i, h, g) = next-ok _ _ e in
    let z : varray vs ≡ x = cc in
    ap is_null_value z

-- one that is no date-time is never beyond
timeless_number : (d : Bounds) (u : TimeUnit) (x : Value) (k : Leaf) (n : ℕ) → time_of k ≡ Never → vnumber k n ≡ x → is_beyond d u x ≡ false
unfolding is_beyond count_beyond
timeless_number d u x k n q e = ap (is_beyond d u) (sym e) ∙ ap (λ (t : Timed). count_beyond d u t n) q

timeless_text : (d : Bounds) (u : TimeUnit) (x : Value) (b : Bytes) → vtext b ≡ x → is_beyond d u x ≡ false
unfolding is_beyond
timeless_text d u x b e = ap (is_beyond d u) (sym e)

content_timeless : (d : Bounds) (u : TimeUnit) (c : Content) (k : Leaf) (s : Bytes) (at : ℕ) (x : Value) {m : ℕ} → time_of k ≡ Never → content_by c k s at
    ≡ ok x m → is_beyond d u x ≡ false
unfolding content_by
content_timeless d u Nothing k s at x q e = clash (cc)
content_timeless d u Flag k s at x q e = let (b, i, h, g) = next-ok (flag s at) _ e in timeless_number d u x k b q (cc)
content_timeless d u (Number w) k s at x q e = let (b, i, h, g) = next-ok (chunk w s at) _ e in timeless_number d u x k (little b) q (cc)
content_timeless d u (Decimal p) k s at x q e = let (n, i, h, g) = next-ok (decimal p s at) _ e in timeless_number d u x k n q (cc)
content_timeless d u Text k s at x q e = let (b, i, h, g) = next-ok (long_text s at) _ e in timeless_text d u x b (cc)

-- a date-time has eight bytes
time_content : (k : Leaf) {r : TimeUnit} → time_of k ≡ In r → content_of k ≡ Number 8
time_content Leaf.Null e = clash (cc)
time_content Leaf.Boolean e = clash (cc)
time_content (Leaf.Integer i) e = clash (cc)
time_content (Leaf.Float f) e = clash (cc)
time_content Leaf.Date e = clash (cc)
time_content (Leaf.Datetime u) e = refl
time_content Leaf.String e = clash (cc)
time_content Leaf.Binary e = clash (cc)
time_content Leaf.Categorical e = clash (cc)
time_content (Leaf.Decimal d) e = clash (cc)

-- ---- by what the type begins with

-- a type, after what it begins with
behind : {v : Edition} {lay : Bytes} {t : ℕ} {rec : Bytes} {c : ℕ} (X : PresentAt v lay t rec c) {k : Head} {m : ℕ} → kind lay t ≡ ok k m → body v Free
    (type v Free 15) k lay m ≡ ok X.type.tree X.type.end
unfolding type next
behind X q = rw q at X.type.reads

-- a value that is a struct, a list or an array, of which n elements
pub record StructValue (v : Edition) (lay : Bytes) (n t : ℕ) (rec : Bytes) (c : ℕ) (x : Value) : Type 0 where
  pub row : RowAt v lay n t rec c
  pub is : x ≡ vstruct row.values.values

pub record ListValue (x : Value) : Type 0 where
  pub values : Values
  pub is : x ≡ vlist values

pub record ArrayValue (w : ℕ) (x : Value) : Type 0 where
  pub values : Values
  pub is : x ≡ varray values
  pub counts : count_values values ≡ w

pub record ArrayElements (v : Edition) (lay : Bytes) (n t : ℕ) (rec : Bytes) (c : ℕ) (x : Value) : Type 0 where
  pub elements : ElementsAt v lay n t rec c
  pub is : x ≡ varray elements.values.values

list-value : {t : DataType} {s : Bytes} {at : ℕ} (P : ContentAt (list t) s at) → ListValue P.tree
unfolding contentOfType list_content
list-value P =
    let (n, i, h, g) = next-ok _ _ P.reads in
    let (vs, j, k, f) = next-ok _ _ g in
    record { values = vs; is = cc }

module _ {v : Edition} {lay : Bytes} {t : ℕ} {rec : Bytes} {c : ℕ} (X : PresentAt v lay t rec c) {p : HeadSpan} (e : head_res lay p ≡ kind lay t) where
  leaf_type : {l : LeafSpan} {b : Cursor} → p ≡ HeadSpan.Leaf l b → dtype_of X.type.tree ≡ leaf (leaf_at lay l)
  unfolding dtype_of
  leaf_type f = ap dtype_of (leaf_at_lem X.type e f).0

  pub leaf-value : {l : LeafSpan} {b : Cursor} → p ≡ HeadSpan.Leaf l b → LeafValue X.content.tree
  unfolding contentOfType leaf_content content_as
  leaf-value f = content-leaf _ _ rec c X.content.tree (content_as (leaf_type f) X.content).reads

  module _ {l : LeafSpan} {b : Cursor} (f : p ≡ HeadSpan.Leaf l b) {q : Timed} (g : q ≡ time_of l.leaf) where
    kind-time : q ≡ time_of (leaf_of (leaf_at lay l))
    kind-time = g ∙ sym (ap time_of (leaf_of-type l.leaf _))

    pub leaf_timeless : (d : Bounds) (u : TimeUnit) → q ≡ Never → is_beyond d u X.content.tree ≡ false
    unfolding contentOfType leaf_content content_as
    leaf_timeless d u h = content_timeless d u _ _ rec c X.content.tree (sym kind-time ∙ h) (content_as (leaf_type f) X.content).reads

    module _ {r : TimeUnit} (h : q ≡ In r) where
      pub time-within : c + 8 ≤ length rec
      unfolding content_as
      time-within = (number_in_lem (content_as (leaf_type f) X.content) (time_content (leaf_of (leaf_at lay l)) (sym kind-time ∙ h))).within

      pub leaf-time : (d : Bounds) (u : TimeUnit) {n : ℕ} {x : Bool} → n ≡ little (take 8 (drop c rec)) → x ≡ count_beyond d u (In r) n → x ≡ is_beyond d
          u X.content.tree
      unfolding content_as is_beyond
      leaf-time d u {n} i j =
          let N = number_in_lem (content_as (leaf_type f) X.content) (time_content (leaf_of (leaf_at lay l)) (sym kind-time ∙ h)) in
          j ∙ ap (λ (t : Timed). count_beyond d u t n) (sym h ∙ kind-time) ∙ ap (count_beyond d u (time_of (leaf_of (leaf_at lay l)))) i ∙ sym
          (ap (is_beyond d u) N.is)

  pub struct-value : {n : ℕ} {b : Cursor} → p ≡ HeadSpan.Struct n b → StructValue v lay n b.at rec c X.content.tree
  unfolding dtype_of content_as deeper-columns
  struct-value f =
      let S = struct_at X.type e f in
      let I = struct_in (content_as (ap dtype_of S.is) X.content) in
      record { row = record { columns = deeper-columns (omega arith) S.inner; values = I.inner }; is = I.is }

  pub a_list_lem : {b : Cursor} → p ≡ HeadSpan.List b → ListValue X.content.tree
  unfolding body list_type dtype_of content_as
  a_list_lem f =
      let (l, i, h₁, g₁) = next-ok _ _ (behind X (sym e ∙ ap (head_res lay) f)) in
      let (t, j, h₂, g₂) = next-ok _ _ g₁ in
      let z : X.type.tree ≡ clist l t = cc in
      list-value (content_as (ap dtype_of z) X.content)

  pub list-filled : {b : Cursor} {q : Short} {n : ℕ} {d : Cursor} → p ≡ HeadSpan.List b → short_res q ≡ u16 rec c → q ≡ Short.Is n d → ltb 0 n ≡ is_filled
      X.content.tree
  unfolding body list_type dtype_of content_as is_filled
  list-filled f g h =
      let (l, i, h₁, g₁) = next-ok _ _ (behind X (sym e ∙ ap (head_res lay) f)) in
      let (t, j, h₂, g₂) = next-ok _ _ g₁ in
      let z : X.type.tree ≡ clist l t = cc in
      let L = list_in (content_as (ap dtype_of z) X.content) g h in
      filled-counted L.inner.values (count-each L.inner) ∙ sym (ap is_filled L.is)

  pub list_uncounted : {B : Type 0} {b : Cursor} {q : Short} {n : ℕ} → p ≡ HeadSpan.List b → short_res q ≡ u16 rec c → q ≡ Short.Refused n → B
  unfolding body list_type dtype_of content_as
  list_uncounted f g h =
      let (l, i, h₁, g₁) = next-ok _ _ (behind X (sym e ∙ ap (head_res lay) f)) in
      let (t, j, h₂, g₂) = next-ok _ _ g₁ in
      let z : X.type.tree ≡ clist l t = cc in
      never_uncounted (content_as (ap dtype_of z) X.content) g h

  pub an_array_lem : {b : Cursor} {w : ℕ} → p ≡ HeadSpan.Array w b → ArrayValue w X.content.tree
  unfolding body array_type dtype_of content_as
  an_array_lem {w = w} f =
      let (l, i, h₁, g₁) = next-ok _ _ (behind X (sym e ∙ ap (head_res lay) f)) in
      let (t, j, h₂, g₂) = next-ok _ _ g₁ in
      let z : X.type.tree ≡ carray w l t = cc in
      let A = array_in (content_as (ap dtype_of z) X.content) in
      record { values = A.inner.values; is = A.is; counts = count-each A.inner }

  -- an array's elements, where its element's type is known
  module _ {b : Cursor} {q : Labelled} (g : label_res lay q ≡ element_label v lay b.at) {l : LabelSpan} {a : Cursor} (h : q ≡ Labelled.Is l a) where
    pub array-value : {w : ℕ} → p ≡ HeadSpan.Array w b → ArrayElements v lay w a.at rec c X.content.tree
    unfolding dtype_of content_as deeper-type
    array-value f =
        let L = array_at X.type e g f h in
        let I = array_in (content_as (ap dtype_of L.is) X.content) in
        record { elements = record { type = deeper-type (omega arith) L.inner; values = I.inner }; is = I.is }

-- ---- what is wanted of a struct, a list, an array

module _ {x : Value} {vs : Values} where
  pub struct_is : x ≡ vstruct vs → true ≡ is_struct x
  unfolding is_struct
  struct_is e = sym (ap is_struct e)

  pub struct_unfilled : x ≡ vstruct vs → false ≡ is_filled x
  unfolding is_filled
  struct_unfilled e = sym (ap is_filled e)

  pub struct_timeless : (d : Bounds) (u : TimeUnit) → x ≡ vstruct vs → false ≡ is_beyond d u x
  unfolding is_beyond
  struct_timeless d u e = sym (ap (is_beyond d u) e)

  pub list-not : x ≡ vlist vs → false ≡ is_struct x
  unfolding is_struct
  list-not e = sym (ap is_struct e)

  pub list_timeless : (d : Bounds) (u : TimeUnit) → x ≡ vlist vs → false ≡ is_beyond d u x
  unfolding is_beyond
  list_timeless d u e = sym (ap (is_beyond d u) e)

  pub array-not : x ≡ varray vs → false ≡ is_struct x
  unfolding is_struct
  array-not e = sym (ap is_struct e)

  pub array_timeless : (d : Bounds) (u : TimeUnit) → x ≡ varray vs → false ≡ is_beyond d u x
  unfolding is_beyond
  array_timeless d u e = sym (ap (is_beyond d u) e)

  pub array-filled : {w : ℕ} → x ≡ varray vs → count_values vs ≡ w → ltb 0 w ≡ is_filled x
  unfolding is_filled
  array-filled e h = filled-counted vs h ∙ sym (ap is_filled e)
