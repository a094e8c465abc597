-- Comparing types and columns that stand in two lists of bytes: what each answer says of the two trees. Assumes
-- nothing.
use Prim.Native.Nat.{ℕ, suc, ◌+◌, ◌-◌, ◌≤◌, ◌<◌}
use mathlib.Core.Path.{◌≡◌, refl, sym, ap, ◌∙◌}
use mathlib.Core.List.{[], ◌∷◌, ◌++◌}
use mathlib.Core.Bool.{Bool, true, false, not, ◌&&◌, and_assoc}
use native.Mathlib.Omega.{arith}
use native.Mathlib.Nat.{add-sub_cancel_left}
use lib.ListN.{take, drop}
use lib.Seq.{slice}
use borrow.Author.Tests.{eq-eqb}
use Rattle.layout.specs.Bytes.{Bytes, same_bytes, AllBytes}
use Rattle.layout.specs.Parser.{refuse, ok, next, Parser, test}
use Rattle.layout.specs.Tree.{LeafType, Label, cleaf, cstruct, clist, carray, Columns, ccons, DataType, Fields, fnil, dtype_of}
use Rattle.layout.specs.Tree.{fields_of}
use Rattle.layout.specs.Layout.{Head, a_leaf, a_struct, a_list, an_array, kind, body, struct_type, list_type, array_type, label, columns, type}
use Rattle.layout.specs.Layout.{repeats_any}
use Rattle.layout.specs.code.Answers.{span_at, SpanIn, head_res, leaf_at, label_res}
use Rattle.layout.specs.code.Stands.{TypeAt, ColumnsAt}
use Rattle.layout.specs.declared.bytes.Span.{Span}
use Rattle.layout.specs.declared.cursor.Cursor.{Cursor}
use Rattle.layout.specs.declared.types.Head.{Head as HeadSpan}
use Rattle.layout.specs.declared.types.LeafType.{LeafType as LeafSpan}
use Rattle.layout.specs.declared.columns.Label.{Label as LabelSpan}
use Rattle.layout.specs.declared.columns.Labelled.{Labelled}
use Rattle.layout.specs.declared.columns.Siblings.TheVariants.{Free}
use Rattle.layout.specs.declared.edition.Edition.{Edition}
use Rattle.layout.proofs.Ways.{clash}
use Rattle.layout.proofs.View.{next-ok, deep, label_got, label-none, same-columns, columns-any, no_column}
use Rattle.forms.specs.Form.{kind_form}
use Rattle.forms.specs.code.Heads.{head_of}
use Rattle.forms.specs.code.Compare.{same_dtype, same_fields_of}
use Rattle.forms.specs.code.Answers.{same_of}
use Rattle.forms.specs.code.Labelled.{LabelledAt, ElementAt, ColumnAt}
use Rattle.forms.specs.declared.compare.Same.{Same}
use Rattle.forms.proofs.Equal.{kind_eq, same_dtype-refl, same_dtype_eq}
use Rattle.layout.proofs.OfBytes.{same_bytes-refl, same_bytes_eq}
use Rattle.store.proofs.Overlay.{slice-take}
use Rattle.forms.proofs.Read.{ok_eq, kind→, kind-stands, passed}
use Rattle.forms.proofs.Heads.{HeadAt}

-- ---- names

pub same_texts : (a b : Bytes) (p q : Span) {r : Bool}
    → r ≡ same_bytes (take (p.start + p.len - p.start) (drop p.start a)) (take (q.start + q.len - q.start) (drop q.start b))
    → r ≡ same_bytes (span_at a p) (span_at b q)
same_texts a b p q e = rw (add-sub_cancel_left p.start p.len, add-sub_cancel_left q.start q.len) at e

-- ---- what the types begin with

-- types that begin otherwise differ
differ : (t u : DataType) → same_bytes (kind_form (head_of t)) (kind_form (head_of u)) ≡ false → same_dtype t u ≡ false
differ t u e = go (same_dtype t u) refl
  where
    go : (b : Bool) → same_dtype t u ≡ b → b ≡ false
    go true h =
        let z : same_bytes (kind_form (head_of t)) (kind_form (head_of u)) ≡ true = ap (λ (x : DataType). same_bytes (kind_form (head_of t)) (kind_form (head_of x)))
        (sym (same_dtype_eq t u h)) ∙ same_bytes-refl (kind_form (head_of t)) in
        sym z ∙ e
    go false h = refl

alike : (k j : Head) → same_bytes (kind_form k) (kind_form j) ≡ true → k ≡ j
alike k j e = (kind_eq k j (ap (λ (x : Bytes). x ++ []) (same_bytes_eq (kind_form k) (kind_form j) e))).0

-- the bytes of a head
abbrev head_span : ℕ → ℕ → Span
head_span at m = record { start = at; len = m - at }

module _ {v : Edition} {d : ℕ} {s : Bytes} {at m : ℕ} {P : TypeAt v d s at} (H : HeadAt v d s at P m) where
  pub head_in : SpanIn s (head_span at m)
  head_in = let a = H.from in let b = H.to in omega arith

  head_bytes : AllBytes s → span_at s (head_span at m) ≡ kind_form (head_of (dtype_of P.tree))
  head_bytes o =
      let a = H.from in
      let b = H.to in
      let n : at + (m - at) ≡ m = omega arith in
      sym (slice-take s at (m - at) (omega arith)) ∙ ap (λ (e : ℕ). slice at e s) n ∙ (kind-stands s o at (kind→ s at H.reads)).0.is

module _ {va : Edition} {da : ℕ} {a : Bytes} {at x : ℕ} {vb : Edition} {db : ℕ} {b : Bytes} {bt y : ℕ} {P : TypeAt va da a at} {Q : TypeAt vb db b bt}
    (H : HeadAt va da a at P x) (G : HeadAt vb db b bt Q y) (oa : AllBytes a) (ob : AllBytes b) {r : Bool}
    (e : r ≡ same_bytes (span_at a (head_span at x)) (span_at b (head_span bt y))) where
  by-kinds : r ≡ same_bytes (kind_form (head_of (dtype_of P.tree))) (kind_form (head_of (dtype_of Q.tree)))
  by-kinds = e ∙ ap (λ (z : Bytes). same_bytes z (span_at b (head_span bt y))) (head_bytes H oa)
      ∙ ap (λ (z : Bytes). same_bytes (kind_form (head_of (dtype_of P.tree))) z) (head_bytes G ob)

  pub heads_differ : r ≡ false → Same.No ≡ same_of (same_dtype (dtype_of P.tree) (dtype_of Q.tree)) P.end Q.end
  unfolding same_of
  heads_differ h = rw (differ (dtype_of P.tree) (dtype_of Q.tree) (sym by-kinds ∙ h))

  -- both heads are the one that was read of the first
  pub heads_alike : r ≡ true → {k : Head} {m : ℕ} → kind a at ≡ ok k m → (kind a at ≡ ok k x) × (kind b bt ≡ ok k y)
  heads_alike h {k} {m} f =
      let z : k ≡ head_of (dtype_of P.tree) = (ok_eq (sym f ∙ H.reads)).0 in
      let w : head_of (dtype_of P.tree) ≡ head_of (dtype_of Q.tree) = alike (head_of (dtype_of P.tree)) (head_of (dtype_of Q.tree)) (sym by-kinds ∙ h) in
      (H.reads ∙ ap (λ (j : Head). ok j x) (sym z), G.reads ∙ ap (λ (j : Head). ok j y) (sym w ∙ sym z))

-- ---- the parts of a type whose head is known

module _ {v : Edition} {d : ℕ} {s : Bytes} {at : ℕ} (P : TypeAt v d s at) {m : ℕ} where
  behind : (k : Head) → kind s at ≡ ok k m → body v Free (type v Free (d - 1)) k s m ≡ ok P.tree P.end
  unfolding type next
  behind k q =
      let e : suc (d - 1) ≡ d = let z = deep P in omega arith in
      let h : type v Free (suc (d - 1)) s at ≡ ok P.tree P.end = ap (λ (n : ℕ). type v Free n s at) e ∙ P.reads in
      rw q at h

  pub leaf-known : {l : LeafType} → kind s at ≡ ok (a_leaf l) m → (P.tree ≡ cleaf l) × (P.end ≡ m)
  unfolding body
  leaf-known {l} q = let (a, b) = ok_eq (behind (a_leaf l) q) in (sym a, sym b)

pub record StructIs (v : Edition) (d : ℕ) (s : Bytes) (at : ℕ) (P : TypeAt v d s at) (n m : ℕ) : Type 0 where
  pub inner : ColumnsAt v (d - 1) s n m
  pub is : P.tree ≡ cstruct inner.columns
  pub ends : P.end ≡ inner.end

pub record ListIs (v : Edition) (d : ℕ) (s : Bytes) (at : ℕ) (P : TypeAt v d s at) (m : ℕ) : Type 0 where
  pub element : ElementAt v (d - 1) s m
  pub is : P.tree ≡ clist element.label element.inner.tree
  pub ends : P.end ≡ element.inner.end

pub record ArrayIs (v : Edition) (d : ℕ) (s : Bytes) (at : ℕ) (P : TypeAt v d s at) (w m : ℕ) : Type 0 where
  pub element : ElementAt v (d - 1) s m
  pub is : P.tree ≡ carray w element.label element.inner.tree
  pub ends : P.end ≡ element.inner.end

module _ {v : Edition} {d : ℕ} {s : Bytes} {at : ℕ} (P : TypeAt v d s at) {m : ℕ} where
  pub struct_known : {n : ℕ} → kind s at ≡ ok (a_struct n) m → StructIs v d s at P n m
  unfolding body struct_type
  struct_known {n} q =
      let (cs, e, h, g) = next-ok _ _ (behind P (a_struct n) q) in
      let (a, b) = ok_eq g in
      record { inner = record { columns = cs; end = e; reads = h }; is = sym a; ends = sym b }

  pub list-known : kind s at ≡ ok a_list m → ListIs v d s at P m
  unfolding body list_type
  list-known q =
      let (l, i, h, f) = next-ok _ _ (behind P a_list q) in
      let (t, e, g, f₁) = next-ok _ _ f in
      let (a, b) = ok_eq f₁ in
      record { element = record { label = l; start = i; labelled = h; inner = record { tree = t; end = e; reads = g } }; is = sym a; ends = sym b }

  pub array_known : {w : ℕ} → kind s at ≡ ok (an_array w) m → ArrayIs v d s at P w m
  unfolding body array_type
  array_known {w} q =
      let (l, i, h, f) = next-ok _ _ (behind P (an_array w) q) in
      let (t, e, g, f₁) = next-ok _ _ f in
      let (a, b) = ok_eq f₁ in
      record { element = record { label = l; start = i; labelled = h; inner = record { tree = t; end = e; reads = g } }; is = sym a; ends = sym b }

-- both types, by the answer for the first one's head
module _ {va : Edition} {da : ℕ} {a : Bytes} {at x : ℕ} {vb : Edition} {db : ℕ} {b : Bytes} {bt y : ℕ} {P : TypeAt va da a at} {Q : TypeAt vb db b bt}
    (H : HeadAt va da a at P x) (G : HeadAt vb db b bt Q y) (oa : AllBytes a) (ob : AllBytes b) {r : Bool}
    (e : r ≡ same_bytes (span_at a (head_span at x)) (span_at b (head_span bt y)))
    (t : r ≡ true) {h : HeadSpan} (f : head_res a h ≡ kind a at) where
  pub leaf-both : {l : LeafSpan} {d : Cursor} → h ≡ HeadSpan.Leaf l d → (kind a at ≡ ok (a_leaf (leaf_at a l)) x) × (kind b bt ≡ ok (a_leaf (leaf_at a l)) y)
  leaf-both g = heads_alike H G oa ob e t (sym f ∙ ap (head_res a) g)

  pub struct_both : {n : ℕ} {d : Cursor} → h ≡ HeadSpan.Struct n d → StructIs va da a at P n x × StructIs vb db b bt Q n y
  struct_both g = let (p, q) = heads_alike H G oa ob e t (sym f ∙ ap (head_res a) g) in (struct_known P p, struct_known Q q)

  pub list-both : {d : Cursor} → h ≡ HeadSpan.List d → ListIs va da a at P x × ListIs vb db b bt Q y
  list-both g = let (p, q) = heads_alike H G oa ob e t (sym f ∙ ap (head_res a) g) in (list-known P p, list-known Q q)

  pub array_both : {w : ℕ} {d : Cursor} → h ≡ HeadSpan.Array w d → ArrayIs va da a at P w x × ArrayIs vb db b bt Q w y
  array_both g = let (p, q) = heads_alike H G oa ob e t (sym f ∙ ap (head_res a) g) in (array_known P p, array_known Q q)

-- ---- the answers for two types

-- the same answer, where the ends and the trees have other names
answer : (c : Bool) {b : Bool} {e f e' f' : ℕ} {r : Same} → b ≡ c → e ≡ e' → f ≡ f' → r ≡ same_of c e' f' → r ≡ same_of b e f
answer c p q w h = rw (p, q, w) h

module _ {va : Edition} {da : ℕ} {a : Bytes} {at : ℕ} {vb : Edition} {db : ℕ} {b : Bytes} {bt : ℕ} (P : TypeAt va da a at) (Q : TypeAt vb db b bt) where
  abbrev Answers : Same → Type 0
  Answers r = r ≡ same_of (same_dtype (dtype_of P.tree) (dtype_of Q.tree)) P.end Q.end

  pub leaves-same : {x y : ℕ} {l : LeafType} → kind a at ≡ ok (a_leaf l) x → kind b bt ≡ ok (a_leaf l) y
      → Answers (Same.To (record { at = x }) (record { at = y }))
  unfolding same_of
  leaves-same f g =
      let (p, q) = leaf-known P f in
      let (p', q') = leaf-known Q g in
      let z : same_dtype (dtype_of P.tree) (dtype_of Q.tree) ≡ true = rw (p, p') (same_dtype-refl _) in
      answer true z q q' refl

  pub structs_same : {x y n : ℕ} (S : StructIs va da a at P n x) (T : StructIs vb db b bt Q n y) {r : Same}
      → r ≡ same_of (same_fields_of (fields_of S.inner.columns) (fields_of T.inner.columns)) S.inner.end T.inner.end → Answers r
  unfolding dtype_of same_dtype
  structs_same S T h = answer _ (rw (S.is, T.is)) S.ends T.ends h

  pub lists_same : {x y : ℕ} (S : ListIs va da a at P x) (T : ListIs vb db b bt Q y) {r : Same}
      → r ≡ same_of (same_dtype (dtype_of S.element.inner.tree) (dtype_of T.element.inner.tree)) S.element.inner.end T.element.inner.end
      → Answers r
  unfolding dtype_of same_dtype
  lists_same S T h = answer _ (rw (S.is, T.is)) S.ends T.ends h

  pub arrays_same : {x y w : ℕ} (S : ArrayIs va da a at P w x) (T : ArrayIs vb db b bt Q w y) {r : Same}
      → r ≡ same_of (same_dtype (dtype_of S.element.inner.tree) (dtype_of T.element.inner.tree)) S.element.inner.end T.element.inner.end
      → Answers r
  unfolding dtype_of same_dtype
  arrays_same {w = w} S T h = answer _ (rw (S.is, T.is, eq-eqb w w refl)) S.ends T.ends h

-- ---- labels with types behind them

-- the type, where the label's reader says that it starts
abbrev pub behind-label : {p : Parser Label} {v : Edition} {d : ℕ} {s : Bytes} {at : ℕ} {l : Label} {m : ℕ} (E : LabelledAt p v d s at) → p s at ≡ ok l m
    → TypeAt v d s m
behind-label {v = v} {d} {s} E h =
    record { tree = E.inner.tree; end = E.inner.end; reads = ap (λ (o : ℕ). type v Free d s o) (ok_eq (sym h ∙ E.labelled)).1 ∙ E.inner.reads }

pub never_unlabelled : {B : Type 0} {p : Parser Label} {v : Edition} {d : ℕ} {s : Bytes} {at : ℕ} (E : LabelledAt p v d s at) {q : Labelled} {n : ℕ}
    → label_res s q ≡ p s at → q ≡ Labelled.Refused n → B
never_unlabelled {s = s} E {n = n} e f = let z : refuse n ≡ ok E.label E.start = sym (label-none s e f) ∙ E.labelled in clash (cc)

name-is : {p : Parser Label} {v : Edition} {d : ℕ} {s : Bytes} {at : ℕ} (E : LabelledAt p v d s at) {q : Labelled} {l : LabelSpan} {c : Cursor}
    → label_res s q ≡ p s at → q ≡ Labelled.Is l c → E.label.name ≡ span_at s l.name
name-is {s = s} E e f = ap (λ (x : Label). x.name) (ok_eq (sym E.labelled ∙ label_got s e f)).0

module _ {va : Edition} {da : ℕ} {a : Bytes} {at : ℕ} {vb : Edition} {db : ℕ} {b : Bytes} {bt : ℕ} (E : ColumnAt va da a at) (F : ColumnAt vb db b bt)
    {q : Labelled} {l : LabelSpan} {x : Cursor} (e : label_res a q ≡ label va a at) (f : q ≡ Labelled.Is l x)
    {u : Labelled} {m : LabelSpan} {y : Cursor} (g : label_res b u ≡ label vb b bt) (h : u ≡ Labelled.Is m y) {t : Bool}
    (i : t ≡ same_bytes (span_at a l.name) (span_at b m.name)) where
  names : same_bytes E.label.name F.label.name ≡ t
  names = ap (λ (z : Bytes). same_bytes z F.label.name) (name-is E e f) ∙ ap (λ (z : Bytes). same_bytes (span_at a l.name) z) (name-is F g h) ∙ sym i

  pub names_differ : t ≡ false
      → Same.No ≡ same_of (same_bytes E.label.name F.label.name && same_dtype (dtype_of E.inner.tree) (dtype_of F.inner.tree)) E.inner.end
      F.inner.end
  unfolding same_of
  names_differ z = rw (names, z)

  pub names_alike : t ≡ true → {r : Same} → r ≡ same_of (same_dtype (dtype_of E.inner.tree) (dtype_of F.inner.tree)) E.inner.end F.inner.end
      → r ≡ same_of (same_bytes E.label.name F.label.name && same_dtype (dtype_of E.inner.tree) (dtype_of F.inner.tree)) E.inner.end
      F.inner.end
  names_alike z k = rw (names, z) k

-- ---- the loop over columns

-- a list of columns from its first
pub record Split (v : Edition) (d : ℕ) (s : Bytes) (n at : ℕ) (P : ColumnsAt v d s n at) : Type 0 where
  pub first : ColumnAt v d s at
  pub tail : ColumnsAt v d s (n - 1) first.inner.end
  pub is : P.columns ≡ ccons first.label first.inner.tree tail.columns
  pub ends : tail.end ≡ P.end

pub split : {v : Edition} {d : ℕ} {s : Bytes} {n at : ℕ} (P : ColumnsAt v d s n at) → (n ≡ 0 → ⊥) → Split v d s n at P
unfolding columns
split {v} {d} {s} {n} {at} P h =
    let z : suc (n - 1) ≡ n = omega arith in
    let w : columns v Free (type v Free d) (suc (n - 1)) [] s at ≡ ok P.columns P.end = ap (λ (k : ℕ). columns v Free (type v Free d) k [] s at) z
    ∙ P.reads in
    let (l, i, h₁, f) = next-ok _ _ w in
    let (t, j, h₂, f) = next-ok _ _ f in
    let (u, o, h₃, f) = next-ok (test (not (repeats_any Free l [])) 5 s j) _ f in
    let (cs, e, h₄, f) = next-ok _ _ f in
    let (p, q) = ok_eq f in
    let y : j ≡ o = passed (not (repeats_any Free l [])) s h₃ in
    record {
      first = record { label = l; start = i; labelled = h₁; inner = record { tree = t; end = j; reads = h₂ } };
      tail = record {
        columns = cs;
        end = e;
        reads = columns-any v (type v Free d) (n - 1) [] ([] ++ (l ∷ [])) s j
            ∙ ap (λ (k : ℕ). columns v Free (type v Free d) (n - 1) ([] ++ (l ∷ [])) s k) y ∙ h₄;
      };
      is = sym p;
      ends = q;
    }

abbrev pub fields_at : {v : Edition} {d : ℕ} {s : Bytes} {n at : ℕ} → ColumnsAt v d s n at → Fields
fields_at P = fields_of P.columns

-- after i of n columns, all the same: the rest decides
pub record Comparing (va : Edition) (da : ℕ) (a : Bytes) (n from : ℕ) (vb : Edition) (db : ℕ) (b : Bytes) (from' i at bt : ℕ) : Type 0 where
  pub within : i ≤ n
  pub left : ColumnsAt va da a (n - i) at
  pub right : ColumnsAt vb db b (n - i) bt
  pub same : (P : ColumnsAt va da a n from) (Q : ColumnsAt vb db b n from') {r : Same}
      → r ≡ same_of (same_fields_of (fields_at left) (fields_at right)) left.end right.end → r ≡ same_of (same_fields_of (fields_at P) (fields_at Q)) P.end Q.end

-- what an answer says
pub same-to : (c : Bool) {r : Same} {x y : Cursor} {e f : ℕ} → r ≡ same_of c e f → r ≡ Same.To x y → (c ≡ true) × (x.at ≡ e) × (y.at ≡ f)
unfolding same_of
same-to true {x = x} {y = y} {e = e} {f = f} h k =
    let z : Same.To (record { at = e }) (record { at = f }) ≡ Same.To x y = sym h ∙ k in
    (refl, cc, cc)
same-to false h k = clash (cc)

pub same_no : (c : Bool) (e f : ℕ) {r : Same} → r ≡ same_of c e f → r ≡ Same.No → c ≡ false
unfolding same_of
same_no true e f h k = clash (cc)
same_no false e f h k = refl

module _ {va : Edition} {da : ℕ} {a : Bytes} {n from : ℕ} {vb : Edition} {db : ℕ} {b : Bytes} {from' : ℕ} where
  pub comparing_none : ColumnsAt va da a n from → ColumnsAt vb db b n from' → Comparing va da a n from vb db b from' 0 from from'
  comparing_none L R =
      let e : n - 0 ≡ n = omega arith in
      record {
        within = omega arith;
        left = record { columns = L.columns; end = L.end; reads = ap (λ (m : ℕ). columns va Free (type va Free da) m [] a from) e ∙ L.reads };
        right = record { columns = R.columns; end = R.end; reads = ap (λ (m : ℕ). columns vb Free (type vb Free db) m [] b from') e ∙ R.reads };
        same = λ P Q h.
            let (p, q) = same-columns P L in
            let (p', q') = same-columns Q R in
            answer _ (rw (p, p')) q q' h;
      }

  module _ {i at bt : ℕ} (C : Comparing va da a n from vb db b from' i at bt) where
    pub comparing_all : n ≤ i → (P : ColumnsAt va da a n from) (Q : ColumnsAt vb db b n from')
        → Same.To (record { at = at }) (record { at = bt }) ≡ same_of (same_fields_of (fields_at P) (fields_at Q)) P.end Q.end
    unfolding same_of same_fields_of fields_of
    comparing_all h P Q =
        let z : n - i ≡ 0 = let w = C.within in omega arith in
        let (p, q) = no_column C.left z in
        let (p', q') = no_column C.right z in
        C.same P Q (answer true (ap (λ (cs : Columns). same_fields_of (fields_of cs) (fields_at C.right)) p
        ∙ ap (λ (cs : Columns). same_fields_of fnil (fields_of cs)) p') q q' refl)

    module _ (lt : i < n) where
      more : n - i ≡ 0 → ⊥
      more z = omega arith

      pub left_split : Split va da a (n - i) at C.left
      left_split = split C.left more

      pub right-split : Split vb db b (n - i) bt C.right
      right-split = split C.right more

      first-same : Bool
      first-same = same_bytes left_split.first.label.name right-split.first.label.name && same_dtype (dtype_of left_split.first.inner.tree)
          (dtype_of right-split.first.inner.tree)

      by_first : same_fields_of (fields_at C.left) (fields_at C.right) ≡ (first-same && same_fields_of (fields_at left_split.tail) (fields_at right-split.tail))
      unfolding same_fields_of fields_of first-same
      by_first =
          ap (λ (cs : Columns). same_fields_of (fields_of cs) (fields_at C.right)) left_split.is
          ∙ ap (λ (cs : Columns). same_fields_of (fields_of (ccons left_split.first.label left_split.first.inner.tree left_split.tail.columns))
          (fields_of cs)) right-split.is
          ∙ sym (and_assoc (same_bytes left_split.first.label.name right-split.first.label.name)
          (same_dtype (dtype_of left_split.first.inner.tree) (dtype_of right-split.first.inner.tree))
          (same_fields_of (fields_at left_split.tail) (fields_at right-split.tail)))

      module _ {r : Same} (e : r ≡ same_of (same_bytes left_split.first.label.name right-split.first.label.name && same_dtype
          (dtype_of left_split.first.inner.tree) (dtype_of right-split.first.inner.tree)) left_split.first.inner.end
          right-split.first.inner.end) where
        pub comparing-no : r ≡ Same.No → (P : ColumnsAt va da a n from) (Q : ColumnsAt vb db b n from')
            → Same.No ≡ same_of (same_fields_of (fields_at P) (fields_at Q)) P.end Q.end
        unfolding first-same same_of
        comparing-no f P Q =
            let z : first-same ≡ false = same_no first-same _ _ e f in
            C.same P Q (answer false (by_first ∙ ap (λ (c : Bool). c && same_fields_of (fields_at left_split.tail) (fields_at right-split.tail)) z) refl refl
            refl)

        pub comparing-more : {x y : Cursor} → r ≡ Same.To x y → Comparing va da a n from vb db b from' (i + 1) x.at y.at
        unfolding first-same
        comparing-more {x} {y} f =
            let (z, p, q) = same-to first-same e f in
            let k : n - (i + 1) ≡ n - i - 1 = omega arith in
            record {
              within = omega arith;
              left = record { columns = left_split.tail.columns; end = left_split.tail.end; reads = rw (k, p) left_split.tail.reads };
              right = record { columns = right-split.tail.columns; end = right-split.tail.end; reads = rw (k, q) right-split.tail.reads };
              same = λ P Q h. C.same P Q (answer _ (by_first ∙ ap (λ (c : Bool). c && same_fields_of (fields_at left_split.tail) (fields_at right-split.tail))
                  z) (sym left_split.ends) (sym right-split.ends) h);
            }

-- the same columns under another name of their count
abbrev pub counted : {v : Edition} {d : ℕ} {s : Bytes} {n m at : ℕ} → m ≡ n → ColumnsAt v d s m at → ColumnsAt v d s n at
counted {v} {d} {s} {at = at} e P = record {
  columns = P.columns;
  end = P.end;
  reads = ap (λ (k : ℕ). columns v Free (type v Free d) k [] s at) (sym e)
      ∙ P.reads;
}
