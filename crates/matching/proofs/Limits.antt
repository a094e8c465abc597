-- Columns within the limits of a layout, and that the columns of every layout that was read are. Assumes nothing.
use Prim.Native.Nat.{ℕ, ◌+◌, ◌≤◌, ◌<◌}
use mathlib.Core.Path.{◌≡◌, refl, sym, ap, ◌∙◌}
use mathlib.Core.Bool.{Bool, true, false}
use mathlib.Core.List.{[], ◌++◌}
use native.Mathlib.Omega.{arith}
use lib.ListN.{length, take, length-append}
use lib.Dec.{leb}
use borrow.Author.Tests.{leb-true, le-leb}
use Rattle.layout.specs.Bytes.{Bytes, same_bytes, AllBytes}
use Rattle.layout.specs.Parser.{Res, refuse, ok, choose}
use Rattle.layout.specs.Tree.{Label, ColumnType, cleaf, cstruct, clist, carray, Layout, Columns, cnil, ccons, count_columns, DataType, struct, list, array}
use Rattle.layout.specs.Tree.{Fields, fnil, fcons, count_fields, fields_of}
use Rattle.layout.specs.Layout.{element_label, mark, edition, counted, layout_from, layout, deepest, a_struct, a_list, an_array}
use Rattle.layout.specs.code.Answers.{layout_of}
use Rattle.layout.specs.declared.read.LayoutRead.{LayoutRead}
use Rattle.layout.specs.declared.edition.Edition.{Edition}
use Rattle.layout.specs.declared.edition.Edition.TheVariants.{One, Two, Three}
use Rattle.layout.specs.declared.columns.Siblings.TheVariants.{Free}
use Rattle.layout.proofs.Ways.{clash}
use Rattle.layout.proofs.View.{next-ok}
use Rattle.layout.proofs.Whole.{layout-at, layout-small}
use Rattle.forms.specs.Form.{text_bytes, kind_form, form, form_fields}
use Rattle.forms.specs.code.Readable.{ShortText, ReadableFields}
use Rattle.forms.specs.Depth.{depth_of, depth_of_fields}
use Rattle.forms.proofs.Read.{u16-ends, label-ends, TypeRead, tr_leaf, tr_struct, tr_list, tr_array, ColumnsRead, cr_none, cr_column, type→, columns→}
use Rattle.forms.proofs.ReadBack.{columns_extent, columns-readable}
use Rattle.plan.specs.Check.{within_limits, longest_type}
use Rattle.plan.proofs.Results.{both, and-true}

-- as 32 has them: depth and, in version 1 form, bytes
pub record WithinLimits (fs : Fields) : Type 0 where
  pub deep : depth_of_fields fs ≤ deepest
  pub long : length (form_fields fs) ≤ longest_type

-- ---- the parts of what is within the limits

limits : (t : DataType) → within_limits t ≡ true → (depth_of t ≤ deepest) × (length (form t) ≤ longest_type)
unfolding within_limits
limits t e =
    let (p, q) = both (leb (depth_of t) deepest) e in
    (leb-true (depth_of t) deepest p, leb-true (length (form t)) longest_type q)

within : (t : DataType) → depth_of t ≤ deepest → length (form t) ≤ longest_type → within_limits t ≡ true
unfolding within_limits
within t p q = and-true (le-leb (depth_of t) deepest p) (le-leb (length (form t)) longest_type q)

module _ {n : Bytes} {t : DataType} {fs : Fields} (w : WithinLimits (fcons n t fs)) where
  longer : length (form t) + length (form_fields fs) ≤ longest_type
  unfolding form_fields
  longer =
      let l = w.long in
      let a = length-append (text_bytes n) (form t ++ form_fields fs) in
      let b = length-append (form t) (form_fields fs) in
      omega arith

  pub first-within : within_limits t ≡ true
  unfolding depth_of_fields
  first-within = within t (let d = w.deep in omega arith) (omega (arith, longer))

  pub rest-within : WithinLimits fs
  unfolding depth_of_fields
  rest-within = record { deep = let d = w.deep in omega arith; long = omega (arith, longer) }

pub struct-within : (fs : Fields) → within_limits (struct fs) ≡ true → WithinLimits fs
unfolding depth_of form
struct-within fs e =
    let (p, q) = limits (struct fs) e in
    let l = length-append (kind_form (a_struct (count_fields fs))) (form_fields fs) in
    record { deep = omega arith; long = omega arith }

pub list-within : (t : DataType) → within_limits (list t) ≡ true → within_limits t ≡ true
unfolding depth_of form
list-within t e =
    let (p, q) = limits (list t) e in
    let l = length-append (kind_form a_list) (form t) in
    within t (omega arith) (omega arith)

pub array-within : (w : ℕ) (t : DataType) → within_limits (array w t) ≡ true → within_limits t ≡ true
unfolding depth_of form
array-within w t e =
    let (p, q) = limits (array w t) e in
    let l = length-append (kind_form (an_array w)) (form t) in
    within t (omega arith) (omega arith)

-- ---- what was read

-- names of at most 63 bytes, those of elements too
abbrev mutual
  pub ShortNames : ColumnType → Type 0
  ShortNames (cleaf l) = Unit {0}
  ShortNames (cstruct cs) = ShortNamesAll cs
  ShortNames (clist l t) = ShortText l.name × ShortNames t
  ShortNames (carray w l t) = ShortText l.name × ShortNames t

  pub ShortNamesAll : Columns → Type 0
  ShortNamesAll cnil = Unit {0}
  ShortNamesAll (ccons l t cs) = ShortText l.name × (ShortNames t × ShortNamesAll cs)

abbrev LabelIn : Label → Res Label → Label
LabelIn d (refuse n) = d
LabelIn d (ok l m) = l

element-short : (s : Bytes) (v : Edition) (at : ℕ) {l : Label} {i : ℕ} → AllBytes s → element_label v s at ≡ ok l i → ShortText l.name
unfolding element_label
element-short s One at {l} o e =
    let p : record { name = []; id = record { 0 = 0 }; required = false } ≡ l = ap (LabelIn l) e in rw (← p) (omega arith, λ i. omega arith)
element-short s Two at o e = let (a, (b, (c, d))) = label-ends s Two at e in (c, d o)
element-short s Three at o e = let (a, (b, (c, d))) = label-ends s Three at e in (c, d o)

module _ {v : Edition} {s : Bytes} (o : AllBytes s) where
  mutual
    type-short : {d at e : ℕ} {c : ColumnType} → TypeRead v s d at c e → ShortNames c
    type-short (tr_leaf h) = tt
    type-short (tr_struct h g) = columns-short g
    type-short (tr_list {m = m} h l g) = (element-short s v m o l, type-short g)
    type-short (tr_array {m = m} h l g) = (element-short s v m o l, type-short g)

    columns-short : {d n at e : ℕ} {cs : Columns} → ColumnsRead v s d n at cs e → ShortNamesAll cs
    columns-short cr_none = tt
    columns-short {at = at} (cr_column f g k) = let (a, (b, (c, d))) = label-ends s v at f in ((c, d o), (type-short g, columns-short k))

pub record LayoutLimits (cs : Columns) : Type 0 where
  pub within : WithinLimits (fields_of cs)
  pub count : count_fields (fields_of cs) < 65536
  pub readable : ReadableFields (fields_of cs)
  pub names : ShortNamesAll cs

layout-read : (r : Res Layout) {l : Layout} {m : ℕ} → r ≡ ok l m → layout_of r ≡ LayoutRead.Read l.edition (count_columns l.columns) (record { at = 7 })
unfolding layout_of
layout-read r e = rw e

columns_eq : {a b : Layout} {m n : ℕ} → ok a m ≡ ok b n → a.columns ≡ b.columns
columns_eq {a} {b} e = let p : a ≡ b = cc in ap (λ (l : Layout). l.columns) p

edition-ends : (s : Bytes) (i : ℕ) {v : Edition} {j : ℕ} → edition s i ≡ ok v j → j ≡ 5
unfolding edition choose
edition-ends s i {v} {j} e = go (same_bytes (take 5 s) (mark 1)) (same_bytes (take 5 s) (mark 2)) (same_bytes (take 5 s) (mark 3)) e
  where
    go : (x y z : Bool) → choose x (ok One 5) (choose y (ok Two 5) (choose z (ok Three 5) (refuse 1))) ≡ ok v j → j ≡ 5
    go true y z e = cc
    go false true z e = cc
    go false false true e = cc
    go false false false e = clash (cc)

-- the mark, the version and the count are there
pub header : (s : Bytes) {l : Layout} {m : ℕ} → layout s ≡ ok l m → 7 ≤ length s
unfolding layout layout_from counted
header s e =
    let (u, i, a, e) = next-ok _ _ e in
    let (v, j, b, e) = next-ok _ _ e in
    let (k, o, c, e) = next-ok _ _ e in
    let p = edition-ends s i b in
    let (q, r) = u16-ends s j c in
    omega arith

-- a column has at least the byte of its name's length
count-below : (fs : Fields) → count_fields fs ≤ length (form_fields fs)
unfolding count_fields form_fields text_bytes
count-below fnil = omega arith
count-below (fcons n t fs) =
    let h = count-below fs in
    let a = length-append (text_bytes n) (form t ++ form_fields fs) in
    let b = length-append (form t) (form_fields fs) in
    omega arith

limits_of : {v : Edition} {n e : ℕ} {cs : Columns} (s : Bytes) → AllBytes s → 7 ≤ length s → length s ≤ 16384 → ColumnsRead v s deepest n 7 cs e →
    LayoutLimits cs
limits_of {cs = cs} s o h k R =
    let (E, c) = columns_extent R h in
    let p = E.long in
    let q = E.to in
    let n = count-below (fields_of cs) in
    record { within = record { deep = E.deep; long = omega arith }; count = omega arith; readable = (columns-readable o R).1; names = columns-short o R }

pub layout_limits : (s : Bytes) {l : Layout} {m : ℕ} → AllBytes s → layout s ≡ ok l m → LayoutLimits l.columns
layout_limits s {l} {m} o e =
    let (L, z) = layout-at s refl (layout-read (layout s) e) in
    let C = L.columns in
    let q : l.columns ≡ C.columns = columns_eq (sym e ∙ L.reads) in
    let R = columns→ l.edition Free s deepest (λ at t e h. type→ l.edition Free s deepest at h) (count_columns l.columns) [] 7 C.reads in
    rw q (limits_of s o (header s e) (layout-small L) R)
