-- Writing forms: what each function has stored, and what is still to be stored. Assumes nothing.
use Prim.Native.Nat.{ℕ, ◌+◌, ◌-◌, ◌*◌, ◌^◌, ◌≤◌, ◌<◌}
use mathlib.Core.Path.{◌≡◌, refl, sym, ap, ◌∙◌}
use mathlib.Core.List.{[], ◌++◌}
use native.Mathlib.Omega.{arith}
use lib.ListN.{length, drop, set, length-drop, length-append}
use lib.Seq.{slice, length-take-le}
use Rattle.store.specs.code.Overlay.{overlay}
use Rattle.store.proofs.Overlay.{overlay-append}
use Rattle.layout.specs.Bytes.{Bytes, AllBytes}
use Rattle.layout.specs.Parser.{Res, ok}
use Rattle.layout.specs.Tree.{ColumnType, Columns, cnil, dtype_of, fields_of}
use Rattle.layout.specs.Layout.{Head, kind, label, element_label, type, columns}
use Rattle.layout.specs.code.Answers.{span_at, SpanIn, head_res, label_res, label_at, LabelIn}
use Rattle.layout.specs.code.Stands.{TypeAt, ColumnsAt}
use Rattle.layout.specs.declared.bytes.Span.{Span}
use Rattle.layout.specs.declared.cursor.Cursor.{Cursor}
use Rattle.layout.specs.declared.types.Head.{Head as HeadSpan}
use Rattle.layout.specs.declared.types.LeafType.{LeafType as LeafSpan}
use Rattle.layout.specs.declared.columns.Label.{Label as LabelSpan}
use Rattle.layout.specs.declared.columns.Labelled.{Labelled}
use Rattle.layout.specs.declared.edition.Edition.{Edition}
use Rattle.layout.specs.declared.columns.Siblings.TheVariants.{Free}
use Rattle.layout.proofs.Ways.{label_in}
use Rattle.layout.proofs.View.{label_got, leaf_at_lem, StructAt, ListAt, ArrayAt, same-columns, no_column, FirstAt}
use Rattle.layout.proofs.View.{first-at, first-labelled}
use Rattle.forms.specs.Form.{text_bytes, kind_form, form, form_fields}
use Rattle.forms.specs.code.Heads.{head_of, rest_form}
use Rattle.forms.specs.code.Answers.{end_of}
use Rattle.forms.proofs.Equal.{form-kind}
use Rattle.store.proofs.Overlay.{slice-take}
use Rattle.forms.proofs.Read.{kind→, kind-stands, label-ends, element-ends, type→}
use Rattle.forms.proofs.ReadBack.{type_extent}
use Rattle.forms.proofs.Heads.{HeadAt, head_at}

-- a name or a zone
module _ (s : Bytes) (p : Span) (h : SpanIn s p) where
  pub span-long : length (span_at s p) ≡ p.len
  span-long = length-take-le p.len (drop p.start s) (let g = length-drop p.start s in omega arith)

  pub text-long : p.len + 1 ≡ length (text_bytes (span_at s p))
  unfolding text_bytes
  text-long = let g = span-long in omega arith

  pub text-written : (out : Bytes) (k : ℕ) {o o' : Bytes} → o ≡ set out k p.len → o' ≡ overlay o (k + 1) (slice p.start (p.start + p.len) s)
      → o' ≡ overlay out k (text_bytes (span_at s p))
  unfolding text_bytes overlay
  text-written out k e f = rw (f, e, span-long, slice-take s p.start p.len h)

-- ---- a type: what it begins with, and the rest

abbrev pub bytes_of : ColumnType → Bytes
bytes_of c = form (dtype_of c)

abbrev pub rest_of : ColumnType → Bytes
rest_of c = rest_form (dtype_of c)

abbrev pub field_bytes : Columns → Bytes
field_bytes cs = form_fields (fields_of cs)

-- how far a type reaches
pub extent : {v : Edition} {d : ℕ} {s : Bytes} {at : ℕ} (P : TypeAt v d s at) → (at + length (bytes_of P.tree) ≤ P.end) × (P.end ≤ length s)
extent {v} {d} {s} {at} P = let E = type_extent (type→ v Free s d at P.reads) in (E.long, E.to)

pub form-written : {v : Edition} {d : ℕ} {s : Bytes} {at m : ℕ} (P : TypeAt v d s at) → HeadAt v d s at P m → AllBytes s → (out : Bytes) (k : ℕ) {o o' : Bytes}
    → o ≡ overlay out k (slice at m s) → o' ≡ overlay o (k + (m - at)) (rest_of P.tree) → o' ≡ overlay out k (bytes_of P.tree)
form-written {s = s} {at} {m} P H b out k e f =
    let S = (kind-stands s b at (kind→ s at H.reads)).0 in
    let l = H.long in
    let n : m - at ≡ length (kind_form (head_of (dtype_of P.tree))) = omega arith in
    rw (f, e, S.is, n, form-kind (dtype_of P.tree)) (overlay-append out k (kind_form (head_of (dtype_of P.tree))) (rest_of P.tree))

-- ---- what follows the head

module _ {v : Edition} {d : ℕ} {s : Bytes} {at : ℕ} (P : TypeAt v d s at) where
  pub rest-leaf : {p : HeadSpan} {l : LeafSpan} {c : Cursor} → head_res s p ≡ kind s at → p ≡ HeadSpan.Leaf l c → (rest_of P.tree ≡ []) × (c.at ≡ P.end)
  unfolding dtype_of rest_form
  rest-leaf e f = let (p, q) = leaf_at_lem P e f in (rw p, q)

  pub rest-struct : {n m : ℕ} (S : StructAt v d s at P n m) → rest_of P.tree ≡ field_bytes S.inner.columns
  unfolding dtype_of rest_form
  rest-struct S = rw S.is

  pub rest-list : {l : _} {m : ℕ} (L : ListAt v d s at P l m) → rest_of P.tree ≡ bytes_of L.inner.tree
  unfolding dtype_of rest_form
  rest-list L = rw L.is

  pub rest-array : {w : ℕ} {l : _} {m : ℕ} (L : ArrayAt v d s at P w l m) → rest_of P.tree ≡ bytes_of L.inner.tree
  unfolding dtype_of rest_form
  rest-array L = rw L.is

-- nothing follows a leaf
pub none-stored : {xs : Bytes} (out : Bytes) (k : ℕ) → xs ≡ [] → out ≡ overlay out k xs
unfolding overlay
none-stored out k e = rw e

-- there is room for what follows the head
pub rest-room : (n : ℕ) (c : Cursor) {x : Cursor} (z : Res Head) → x ≡ end_of z c → n < 2 ^ 64 + (end_of z c).at → n < 2 ^ 64 + x.at
rest-room n c z e h = rw (← e) at h

pub element-room : (n : ℕ) (c : Cursor) {v : Edition} {d : ℕ} {s : Bytes} {x b : Cursor} {q : Labelled} {l : LabelSpan} → TypeAt v d s c.at → x ≡
    end_of (kind s c.at) c
    → label_res s q ≡ element_label v s x.at → q ≡ Labelled.Is l b → n < 2 ^ 64 + (end_of (kind s c.at) c).at → n < 2 ^ 64 + b.at
element-room n c {v} {s = s} {x} P e g f h =
    let H = head_at P refl e in
    let (p, q) = element-ends s v x.at (label_got s g f) H.to in
    let r = rest-room n c (kind s c.at) e h in
    omega arith

-- what was written is what is asked for, under another name of it
pub wrote : {xs ys : Bytes} {len e e' : ℕ} {x : ℕ} → xs ≡ ys → e ≡ e' → (len ≡ length ys) × (x ≡ e) → (len ≡ length xs) × (x ≡ e')
wrote p q (a, b) = rw p (a, b ∙ q)

pub stored : {xs ys : Bytes} (out : Bytes) (k : ℕ) {o : Bytes} → xs ≡ ys → o ≡ overlay out k ys → o ≡ overlay out k xs
stored out k p e = rw p e

-- ---- the loop over columns

-- after i of n columns: the rest is still to be written
pub record Writing (v : Edition) (d : ℕ) (s : Bytes) (n from : ℕ) (out₀ : Bytes) (k : ℕ) (out : Bytes) (at to i : ℕ) : Type 0 where
  pub within : i ≤ n
  pub room : to + 2 * length s < 2 ^ 64 + at
  pub over : k ≤ to
  pub kept : length out ≡ length out₀
  pub rest : ColumnsAt v d s (n - i) at
  pub ends : (P : ColumnsAt v d s n from) → rest.end ≡ P.end
  pub long : (P : ColumnsAt v d s n from) → k + length (field_bytes P.columns) ≡ to + length (field_bytes rest.columns)
  pub stores : (P : ColumnsAt v d s n from) → overlay out to (field_bytes rest.columns) ≡ overlay out₀ k (field_bytes P.columns)

module _ {v : Edition} {d : ℕ} {s : Bytes} {n from : ℕ} {out₀ : Bytes} {k : ℕ} where
  pub writing_none : ColumnsAt v d s n from → k + 2 * length s < 2 ^ 64 + from → Writing v d s n from out₀ k out₀ from k 0
  writing_none Q h =
      let e : n ≡ n - 0 = omega arith in
      record {
        within = omega arith;
        room = h;
        over = omega arith;
        kept = refl;
        rest = record { columns = Q.columns; end = Q.end; reads = ap (λ (m : ℕ). columns v Free (type v Free d) m [] s from) (sym e) ∙ Q.reads };
        ends = λ P. (same-columns Q P).1;
        long = λ P. ap (λ (cs : Columns). k + length (field_bytes cs)) (same-columns P Q).0;
        stores = λ P. ap (λ (cs : Columns). overlay out₀ k (field_bytes cs)) (same-columns Q P).0;
      }

  module _ {out : Bytes} {at to i : ℕ} (W : Writing v d s n from out₀ k out at to i) where
    pub writing_all : n ≤ i → (P : ColumnsAt v d s n from) → (to - k ≡ length (field_bytes P.columns)) × (at ≡ P.end) ×
        (out ≡ overlay out₀ k (field_bytes P.columns))
    unfolding overlay form_fields fields_of
    writing_all h P =
        let z : n - i ≡ 0 = let w = W.within in omega arith in
        let (p, q) = no_column W.rest z in
        let l : k + length (field_bytes P.columns) ≡ to + length (field_bytes cnil) = W.long P ∙ ap (λ (cs : Columns). to + length (field_bytes cs)) p in
        let r : out ≡ overlay out₀ k (field_bytes P.columns) = ap (λ (cs : Columns). overlay out to (field_bytes cs)) (sym p) ∙ W.stores P in
        (omega arith, sym q ∙ W.ends P, r)

    -- a column that stands there has a label
    pub unlabelled : {B : Type 0} → i < n → {q : Labelled} {x : ℕ} → label_res s q ≡ label v s at → q ≡ Labelled.Refused x → B
    unlabelled lt e f = first-labelled W.rest (λ z. omega arith) e f

    module _ (lt : i < n) {q : Labelled} {l : LabelSpan} {c : Cursor} (e : label_res s q ≡ label v s at) (f : q ≡ Labelled.Is l c) (g : LabelIn s q) where
      more : n - i ≡ 0 → ⊥
      more z = omega arith

      -- the next column's type
      pub column : FirstAt v d s (n - i) at W.rest (label_at s l) c.at
      column = first-at W.rest more e f

      -- its name and its type lie one behind the other
      pub column_name : (SpanIn s l.name × (l.name.len ≤ 63)) × (at < c.at) × (at + length (text_bytes (span_at s l.name)) ≤ c.at) × (c.at ≤ length s)
      column_name =
          let h = label_in s g f in
          let (a, (b, (x, y))) = label-ends s v at (label_got s e f) in
          let z = span-long s l.name h in
          let w = text-long s l.name h in
          ((h, omega arith), omega arith, b, a)

      columns-first : field_bytes W.rest.columns ≡ text_bytes (span_at s l.name) ++ (bytes_of column.head.tree ++ field_bytes column.tail.columns)
      unfolding form_fields fields_of
      columns-first = ap (λ (cs : Columns). field_bytes cs) column.is

      pub writing_more : {m x y : ℕ} {o o' : Bytes} → m ≡ length (text_bytes (span_at s l.name)) → o ≡ overlay out to (text_bytes (span_at s l.name))
          → (x ≡ length (bytes_of column.head.tree)) × (y ≡ column.head.end) → o' ≡ overlay o (to + m) (bytes_of column.head.tree) → length o' ≡
          length out
          → Writing v d s n from out₀ k o' y (to + m + x) (i + 1)
      writing_more {m} {x} {y} {o} {o'} a b (p, q) t u =
          let N = column_name.2 in
          let (E, E₁) = extent column.head in
          let w = W.room in
          let ov = W.over in
          let z : n - i - 1 ≡ n - (i + 1) = omega arith in
          let F = columns-first in
          let lf = ap length F ∙ length-append (text_bytes (span_at s l.name)) (bytes_of column.head.tree ++ field_bytes column.tail.columns) in
          let lg = length-append (bytes_of column.head.tree) (field_bytes column.tail.columns) in
          let r : overlay o' (to + m + x) (field_bytes column.tail.columns) ≡ overlay out to (field_bytes W.rest.columns) =
          rw (t, b, F, a, p)
          (overlay-append (overlay out to (text_bytes (span_at s l.name))) (to + length (text_bytes (span_at s l.name)))
          (bytes_of column.head.tree) (field_bytes column.tail.columns)
          ∙ overlay-append out to (text_bytes (span_at s l.name)) (bytes_of column.head.tree ++ field_bytes column.tail.columns)) in
          record {
            within = omega arith;
            room = omega arith;
            over = omega arith;
            kept = u ∙ W.kept;
            rest = record { columns = column.tail.columns; end = column.tail.end; reads = tail-reads z q };
            ends = λ P. column.ends ∙ W.ends P;
            long = λ P. let h = W.long P in omega arith;
            stores = λ P. r ∙ W.stores P;
          }
        where
          tail-reads : {y : ℕ} → n - i - 1 ≡ n - (i + 1) → y ≡ column.head.end → columns v Free (type v Free d) (n - (i + 1)) [] s y ≡ ok
              column.tail.columns column.tail.end
          tail-reads z q = rw (← z, q) column.tail.reads
