-- A leaf that stands in bytes: the number that it is, and its bytes. Assumes nothing.
use Prim.Native.Nat.{ℕ, ◌+◌, ◌-◌, ◌<◌, ◌≤◌}
use mathlib.Core.Path.{◌≡◌, refl, ap, sym, subst, ◌∙◌}
use mathlib.Core.Bool.{Bool, true, false}
use native.Mathlib.Omega.{arith}
use lib.Dec.{leb, ltb}
use lib.ListN.{length, get_or, take, drop, length-drop}
use lib.Seq.{length-take-le}
use borrow.Author.Tests.{leb-true, ltb-true}
use Rattle.numeric.specs.Integers.{signed}
use Rattle.numeric.specs.Decimals.{within_precision}
use Rattle.layout.specs.Bytes.{Bytes, AllBytes}
use Rattle.layout.specs.Parser.{refuse, ok, next, choose, byte, chunk}
use Rattle.layout.specs.Tree.{DataType, leaf, struct, list, array, ColumnType, cstruct, clist, carray, dtype_of}
use Rattle.layout.specs.code.Answers.{head_res}
use Rattle.layout.specs.code.Stands.{TypeAt}
use Rattle.layout.specs.Layout.{Head, kind, type, body, struct_type, list_type, array_type}
use Rattle.layout.specs.declared.columns.Siblings.TheVariants.{Free}
use Rattle.layout.specs.declared.cursor.Cursor.{Cursor}
use Rattle.layout.specs.declared.leaf.Leaf.{Leaf}
use Rattle.layout.specs.declared.types.Head.{Head as HeadSpan}
use Rattle.layout.specs.declared.types.LeafType.{LeafType as LeafSpan}
use Rattle.layout.specs.declared.edition.Edition.{Edition}
use Rattle.layout.proofs.Leaves.{leaf_of-type}
use Rattle.layout.proofs.Ways.{clash}
use Rattle.layout.proofs.View.{next-ok, leaf_at_lem}
use Rattle.values.specs.Value.{Value, vnull, vnumber, vtext, vstruct, vlist, varray}
use Rattle.values.specs.Content.{content_of}
use Rattle.values.specs.Reading.{flag, little, long_text, content_by, leaf_content, struct_content, list_content, array_content, content, value, decimal}
use Rattle.values.specs.Encode.{encode_value}
use Rattle.values.specs.code.Answers.{value_moved, copied}
use Rattle.values.specs.declared.content.Content.{Content}
use Rattle.values.specs.declared.content.Content.TheVariants.{Nothing, Flag, Number, Decimal, Text}
use Rattle.values.specs.declared.read.ValueRead.{ValueRead}
use Rattle.values.proofs.Walk.{moved_value, moved_none}
use Rattle.values.proofs.Round.{value-bytes, value-ends}
use Rattle.nodes.specs.code.Raw.{RawAt, PresentAt}
use Rattle.raw.specs.code.Stored.{Stores}
use Rattle.raw.specs.code.Number.{LeafAt, is_number, LeafIs}
use Rattle.raw.specs.declared.leaf.LeafValue.{LeafValue}

abbrev pub is_nested : DataType → Bool
is_nested (leaf l) = false
is_nested (struct fs) = true
is_nested (list t) = true
is_nested (array w t) = true

pub is-other : {v : Value} → is_number v ≡ false → LeafIs v LeafValue.Other
is-other e = record { answer = e }

pub is_number_lem : {v : Value} {k : Leaf} {n : ℕ} → v ≡ vnumber k n → LeafIs v (LeafValue.Number k n)
is_number_lem e = record { answer = e }

pub null-other : {v : Value} → v ≡ vnull → LeafIs v LeafValue.Other
unfolding is_number
null-other e = record { answer = ap is_number e }

-- ---- by what a leaf's kind holds

chunk_in : (w : ℕ) (s : Bytes) (at : ℕ) {b : Bytes} {m : ℕ} → chunk w s at ≡ ok b m → (at + w ≤ length s) × (take w (drop at s) ≡ b)
unfolding chunk choose
chunk_in w s at {b} {m} e = go (leb (at + w) (length s)) refl e
  where
    go : (c : Bool) → leb (at + w) (length s) ≡ c → choose c (ok (take w (drop at s)) (at + w)) (refuse 2) ≡ ok b m → (at + w ≤ length s) ×
        (take w (drop at s) ≡ b)
    go true h e = (leb-true _ _ h, cc)
    go false h e = clash (cc)

byte_in : (s : Bytes) (at : ℕ) {b m : ℕ} → byte s at ≡ ok b m → (at < length s) × (get_or s at 0 ≡ b)
unfolding byte choose
byte_in s at {b} {m} e = go (ltb at (length s)) refl e
  where
    go : (c : Bool) → ltb at (length s) ≡ c → choose c (ok (get_or s at 0) (at + 1)) (refuse 2) ≡ ok b m → (at < length s) × (get_or s at 0 ≡ b)
    go true h e = (ltb-true _ _ h, cc)
    go false h e = clash (cc)

flag_in : (s : Bytes) (at : ℕ) {b m : ℕ} → flag s at ≡ ok b m → (at < length s) × (get_or s at 0 ≡ b)
unfolding flag choose
flag_in s at {b} {m} e =
    let (x, i, h, g) = next-ok (byte s at) _ e in
    let (l, q) = byte_in s at h in
    (l, q ∙ go (leb x 1) x i g)
  where
    go : (c : Bool) (x i : ℕ) → choose c (ok x i) (refuse 3) ≡ ok b m → x ≡ b
    go true x i e = cc
    go false x i e = clash (cc)

module _ {k : Leaf} {s : Bytes} {at : ℕ} (X : LeafAt k s at) where
  by-content : {c : Content} → content_of k ≡ c → content_by c k s at ≡ ok X.tree X.end
  unfolding leaf_content
  by-content e = ap (λ (c : Content). content_by c k s at) (sym e) ∙ X.reads

  pub leaf-nothing : content_of k ≡ Nothing → LeafIs X.tree LeafValue.Other
  unfolding content_by
  leaf-nothing e = let h = by-content e in clash (cc)

  pub leaf-text : content_of k ≡ Text → LeafIs X.tree LeafValue.Other
  unfolding content_by is_number
  leaf-text e =
      let (b, i, h, g) = next-ok (long_text s at) _ (by-content e) in
      let z : vtext b ≡ X.tree = cc in
      record { answer = ap is_number (sym z) }

  pub flag-inside : content_of k ≡ Flag → at < length s
  unfolding content_by
  flag-inside e = let (b, i, h, g) = next-ok (flag s at) _ (by-content e) in (flag_in s at h).0

  pub leaf-flag : content_of k ≡ Flag → LeafIs X.tree (LeafValue.Number k (get_or s at 0))
  unfolding content_by
  leaf-flag e =
      let (b, i, h, g) = next-ok (flag s at) _ (by-content e) in
      let z : vnumber k b ≡ X.tree = cc in
      is_number_lem (sym z ∙ ap (vnumber k) (sym (flag_in s at h).1))

  pub decimal-inside : {p : ℕ} → content_of k ≡ Decimal p → at + 8 ≤ length s
  unfolding content_by decimal
  decimal-inside {p} e =
      let (n, i, h, g) = next-ok (decimal p s at) _ (by-content e) in
      let (b, j, c, f) = next-ok (chunk 8 s at) _ h in
      (chunk_in 8 s at c).0

  pub leaf-decimal : {p n : ℕ} → content_of k ≡ Decimal p → n ≡ little (take 8 (drop at s)) → LeafIs X.tree (LeafValue.Number k n)
  unfolding content_by decimal choose
  leaf-decimal {p} {n} e f =
      let (m, i, h, g) = next-ok (decimal p s at) _ (by-content e) in
      let (b, j, c, r) = next-ok (chunk 8 s at) _ h in
      let z : vnumber k m ≡ X.tree = cc in
      is_number_lem (sym z ∙ ap (vnumber k) (sym (go j (little b) (within_precision p (signed 64 (little b))) r) ∙ ap little (sym (chunk_in 8 s at c).1) ∙ sym f))
    where
      go : {m i : ℕ} (j n : ℕ) (t : Bool) → choose t (ok n j) (refuse 52) ≡ ok m i → n ≡ m
      go j n true q = cc
      go j n false q = clash (cc)

  pub number-inside : {w : ℕ} → content_of k ≡ Number w → at + w ≤ length s
  unfolding content_by
  number-inside {w} e = let (b, i, h, g) = next-ok (chunk w s at) _ (by-content e) in (chunk_in w s at h).0

  pub leaf-number : {w n : ℕ} → content_of k ≡ Number w → n ≡ little (take w (drop at s)) → LeafIs X.tree (LeafValue.Number k n)
  unfolding content_by
  leaf-number {w} {n} e f =
      let (b, i, h, g) = next-ok (chunk w s at) _ (by-content e) in
      let z : vnumber k (little b) ≡ X.tree = cc in
      is_number_lem (sym z ∙ ap (vnumber k) (ap little (sym (chunk_in w s at h).1) ∙ sym f))

-- ---- a value that is present

-- a list or an array is no number
content-other : (t : DataType) (s : Bytes) (at : ℕ) {v : Value} {m : ℕ} → is_nested t ≡ true → content t s at ≡ ok v m → is_number v ≡ false
unfolding content struct_content list_content array_content is_number
content-other (leaf l) s at n e = clash (cc)
content-other (struct fs) s at {v} n e = let (vs, i, h, g) = next-ok _ _ e in let z : vstruct vs ≡ v = cc in ap is_number (sym z)
content-other (list t) s at {v} n e =
    let (k, i, h, g) = next-ok _ _ e in
    let (vs, j, h, g) = next-ok _ _ g in
    let z : vlist vs ≡ v = cc in
    ap is_number (sym z)
content-other (array w t) s at {v} n e = let (vs, i, h, g) = next-ok _ _ e in let z : varray vs ≡ v = cc in ap is_number (sym z)

-- a type, by what it begins with
module _ {v : Edition} {s : Bytes} {at : ℕ} (T : TypeAt v 16 s at) where
  behind : {k : Head} {m : ℕ} → kind s at ≡ ok k m → body v Free (type v Free 15) k s m ≡ ok T.tree T.end
  unfolding type next
  behind q = rw q at T.reads

  nested-by : {c : ColumnType} → c ≡ T.tree → is_nested (dtype_of c) ≡ is_nested (dtype_of T.tree)
  nested-by e = ap (λ (c : ColumnType). is_nested (dtype_of c)) e

  pub struct_nested : {p : HeadSpan} {n : ℕ} {b : Cursor} → head_res s p ≡ kind s at → p ≡ HeadSpan.Struct n b → is_nested (dtype_of T.tree) ≡ true
  unfolding body struct_type dtype_of
  struct_nested h f =
      let (cs, i, h₁, g₁) = next-ok _ _ (behind (sym h ∙ ap (head_res s) f)) in
      let z : cstruct cs ≡ T.tree = cc in
      sym (nested-by z)

  pub list_nested : {p : HeadSpan} {b : Cursor} → head_res s p ≡ kind s at → p ≡ HeadSpan.List b → is_nested (dtype_of T.tree) ≡ true
  unfolding body list_type dtype_of
  list_nested h f =
      let (l, i, h₁, g₁) = next-ok _ _ (behind (sym h ∙ ap (head_res s) f)) in
      let (u, j, h₂, g₂) = next-ok _ _ g₁ in
      let z : clist l u ≡ T.tree = cc in
      sym (nested-by z)

  pub array_nested : {p : HeadSpan} {w : ℕ} {b : Cursor} → head_res s p ≡ kind s at → p ≡ HeadSpan.Array w b → is_nested (dtype_of T.tree) ≡ true
  unfolding body array_type dtype_of
  array_nested {w = w} h f =
      let (l, i, h₁, g₁) = next-ok _ _ (behind (sym h ∙ ap (head_res s) f)) in
      let (u, j, h₂, g₂) = next-ok _ _ g₁ in
      let z : carray w l u ≡ T.tree = cc in
      sym (nested-by z)

module _ {v : Edition} {lay : Bytes} {t : ℕ} {rec : Bytes} {c : ℕ} (X : PresentAt v lay t rec c) where
  nested_other : is_nested (dtype_of X.type.tree) ≡ true → LeafIs X.content.tree LeafValue.Other
  nested_other n = is-other (content-other (dtype_of X.type.tree) rec c n X.content.reads)

  pub struct-other : {p : HeadSpan} {n : ℕ} {b : Cursor} → head_res lay p ≡ kind lay t → p ≡ HeadSpan.Struct n b → LeafIs X.content.tree LeafValue.Other
  struct-other h f = nested_other (struct_nested X.type h f)

  pub list-other : {p : HeadSpan} {b : Cursor} → head_res lay p ≡ kind lay t → p ≡ HeadSpan.List b → LeafIs X.content.tree LeafValue.Other
  list-other h f = nested_other (list_nested X.type h f)

  pub array-other : {p : HeadSpan} {w : ℕ} {b : Cursor} → head_res lay p ≡ kind lay t → p ≡ HeadSpan.Array w b → LeafIs X.content.tree LeafValue.Other
  array-other h f = nested_other (array_nested X.type h f)

pub record LeafIn (k : Leaf) (s : Bytes) (at : ℕ) (v : Value) : Type 0 where
  pub inner : LeafAt k s at
  pub is : inner.tree ≡ v

pub leaf_in : {v : Edition} {lay : Bytes} {t : ℕ} {rec : Bytes} {c : ℕ} (X : PresentAt v lay t rec c) {p : HeadSpan} {l : LeafSpan} {e : Cursor}
    → head_res lay p ≡ kind lay t → p ≡ HeadSpan.Leaf l e → LeafIn l.leaf rec c X.content.tree
unfolding content dtype_of
leaf_in {lay = lay} {rec = rec} {c = c} X {l = l} h q =
    let (f, g) = leaf_at_lem X.type h q in
    let z : content (dtype_of X.type.tree) rec c ≡ leaf_content l.leaf rec c = ap (λ (t : ColumnType). content (dtype_of t) rec c) f ∙ ap
    (λ (k : Leaf). leaf_content k rec c) (leaf_of-type l.leaf _) in
    record { inner = record { tree = X.content.tree; end = X.content.end; reads = sym z ∙ X.content.reads }; is = refl }

pub leaf_as : {v w : Value} {r : LeafValue} → v ≡ w → LeafIs v r → LeafIs w r
leaf_as {r = r} e h = subst (λ (x : Value). LeafIs x r) e h

-- ---- a value's bytes

length_part : (s : Bytes) (a m : ℕ) → a < m → m ≤ length s → length (take (m - a) (drop a s)) ≡ m - a
length_part s a m h l = length-take-le (m - a) (drop a s) (let z : length (drop a s) ≡ length s - a = length-drop a s in omega arith)

module _ {v : Edition} {lay : Bytes} {t : ℕ} {rec : Bytes} {c : ℕ} (X : RawAt v lay t rec c) {r : ValueRead}
    (h : r ≡ value_moved X.type.end (value (dtype_of X.type.tree) rec c)) where
  pub raw-refused : {B : Type 0} {n : ℕ} → r ≡ ValueRead.Refused n → B
  raw-refused {n = n} q =
      let z : refuse n ≡ ok X.value.tree X.value.end = sym (moved_none (value (dtype_of X.type.tree) rec c) X.type.end h q) ∙ X.value.reads in
      clash (cc)

  module _ (o : AllBytes rec) {f e : Cursor} (q : r ≡ ValueRead.To f e) where
    ended : e.at ≡ X.value.end
    ended =
        let (a, z, w) = moved_value (value (dtype_of X.type.tree) rec c) X.type.end h q in
        let y : ok a e.at ≡ ok X.value.tree X.value.end = sym z ∙ X.value.reads in
        cc

    pub raw-ends : (c < e.at) × (e.at ≤ length rec)
    raw-ends = let (a, b) = value-ends (dtype_of X.type.tree) rec o c X.value.tree X.value.end X.value.reads in
        (omega (arith, ended, a), omega (arith, ended, b))

    pub raw-length : length (encode_value X.value.tree) ≡ e.at - c
    raw-length =
        let (a, b) = raw-ends in
        ap length (sym (value-bytes (dtype_of X.type.tree) rec o c X.value.tree X.value.end X.value.reads))
        ∙ length_part rec c X.value.end (omega (arith, ended, a)) (omega (arith, ended, b)) ∙ ap (λ (i : ℕ). i - c) (sym ended)

    pub raw-stored : (out : Bytes) (k : ℕ) {new : Bytes} → new ≡ copied out k (value (dtype_of X.type.tree) rec c)
        → Stores out k (encode_value X.value.tree) (k + (e.at - c)) new
    unfolding copied
    raw-stored out k g = record { ends = ap (λ (i : ℕ). k + i) (sym raw-length); stored = g ∙ ap (copied out k) X.value.reads }
