-- What a type or columns that stand at an offset say of each answer of the readers: one law for each answer. Assumes
-- nothing.
use Prim.Native.Nat.{ℕ, zero, suc, ◌-◌}
use mathlib.Core.Path.{◌≡◌, refl, sym, ap, ◌∙◌, subst}
use mathlib.Core.List.{List, [], ◌∷◌, ◌++◌}
use mathlib.Core.Bool.{Bool, true, false, not}
use native.Mathlib.Omega.{arith}
use Rattle.layout.specs.Bytes.{Bytes}
use Rattle.layout.specs.Parser.{Res, refuse, ok, next, choose, Parser, test, byte}
use Rattle.layout.specs.Tree.{leaf_type, Label, ColumnType, cleaf, cstruct, clist, carray, cnil, ccons}
use Rattle.layout.specs.Layout.{Head, a_leaf, plain_leaf, kind, body, struct_type, list_type, array_type, label, label as label_of, element_label, columns, type}
use Rattle.layout.specs.Layout.{repeats_any}
use Rattle.layout.specs.code.Answers.{step_res, head_res, HeadIn, leaf_at, label_res, label_at, LabelIn, moved_of}
use Rattle.layout.specs.code.Stands.{TypeAt, ColumnsAt}
use Rattle.layout.specs.code.Parts.{LeafRead, ElementRead, PartsRead, PartsIs}
use Rattle.layout.specs.declared.cursor.Cursor.{Cursor}
use Rattle.layout.specs.declared.cursor.Moved.{Moved}
use Rattle.layout.specs.declared.cursor.Step.{Step}
use Rattle.layout.specs.declared.leaf.Leaf.{Leaf}
use Rattle.layout.specs.declared.parts.TypeParts.{TypeParts}
use Rattle.layout.specs.declared.types.PlainLeaf.{PlainLeaf}
use Rattle.layout.specs.declared.types.Head.{Head as HeadSpan}
use Rattle.layout.specs.declared.types.LeafType.{LeafType as LeafSpan}
use Rattle.layout.specs.declared.columns.Label.{Label as LabelSpan}
use Rattle.layout.specs.declared.columns.Labelled.{Labelled}
use Rattle.layout.specs.declared.columns.Siblings.TheVariants.{Free}
use Rattle.layout.specs.declared.edition.Edition.{Edition}
use Rattle.layout.proofs.Ways.{clash, head_in, label_in, moved_to, moved_refused}
use Rattle.layout.proofs.Leaves.{plain-kind}
use Rattle.layout.proofs.FreeRule.{repeats_free}

-- what a chain of parsers that reads went through
pub next-ok : {A B : Type 0} (x : Res A) (k : A → ℕ → Res B) {b : B} {e : ℕ} → next x k ≡ ok b e → (a : A) × (m : ℕ) × (x ≡ ok a m) × (k a m ≡ ok b e)
unfolding next
next-ok (refuse n) k h = clash (cc)
next-ok (ok a m) k h = (a, m, refl, h)

-- ---- a type's parts, where the readers say that they start

-- a struct's columns, from m on
pub record StructAt (v : Edition) (d : ℕ) (s : Bytes) (at : ℕ) (P : TypeAt v d s at) (n m : ℕ) : Type 0 where
  pub inner : ColumnsAt v (d - 1) s n m
  pub is : P.tree ≡ cstruct inner.columns
  pub ends : inner.end ≡ P.end

-- a list's element, whose label is l and whose type begins at m
pub record ListAt (v : Edition) (d : ℕ) (s : Bytes) (at : ℕ) (P : TypeAt v d s at) (l : Label) (m : ℕ) : Type 0 where
  pub inner : TypeAt v (d - 1) s m
  pub is : P.tree ≡ clist l inner.tree
  pub ends : inner.end ≡ P.end

-- an array's element
pub record ArrayAt (v : Edition) (d : ℕ) (s : Bytes) (at : ℕ) (P : TypeAt v d s at) (w : ℕ) (l : Label) (m : ℕ) : Type 0 where
  pub inner : TypeAt v (d - 1) s m
  pub is : P.tree ≡ carray w l inner.tree
  pub ends : inner.end ≡ P.end

-- what an answer for a label says of the parser
pub label_got : (s : Bytes) {x : Res Label} {q : Labelled} {l : LabelSpan} {c : Cursor} → label_res s q ≡ x → q ≡ Labelled.Is l c → x ≡ ok (label_at s l) c.at
label_got s e f = sym e ∙ ap (label_res s) f

pub label-none : (s : Bytes) {x : Res Label} {q : Labelled} {n : ℕ} → label_res s q ≡ x → q ≡ Labelled.Refused n → x ≡ refuse n
label-none s e f = sym e ∙ ap (label_res s) f

module _ {v : Edition} {d : ℕ} {s : Bytes} {at : ℕ} (P : TypeAt v d s at) where
  pub deep : d ≡ 0 → ⊥
  unfolding type
  deep z = let h : type v Free 0 s at ≡ ok P.tree P.end = rw z at P.reads in clash (cc)

  level : next (kind s at) (λ k m. body v Free (type v Free (d - 1)) k s m) ≡ ok P.tree P.end
  unfolding type
  level = ap (λ (e : ℕ). type v Free e s at) (let e : suc (d - 1) ≡ d = let z = deep in omega arith in e) ∙ P.reads

  -- by what the head was
  behind : {k : Head} {m : ℕ} → kind s at ≡ ok k m → body v Free (type v Free (d - 1)) k s m ≡ ok P.tree P.end
  unfolding next
  behind q = rw q at level

  -- a type that stands there is not refused
  pub never_headless : {B : Type 0} {p : HeadSpan} {n : ℕ} → head_res s p ≡ kind s at → p ≡ HeadSpan.Refused n → B
  unfolding next
  never_headless {n = n} e f =
      let q : kind s at ≡ refuse n = sym e ∙ ap (head_res s) f in
      let h : refuse n ≡ ok P.tree P.end = rw q at level in
      clash (cc)

  pub leaf_at_lem : {p : HeadSpan} {l : LeafSpan} {c : Cursor} → head_res s p ≡ kind s at → p ≡ HeadSpan.Leaf l c → (P.tree ≡ cleaf (leaf_at s l)) × (c.at ≡ P.end)
  unfolding body
  leaf_at_lem e f = let h = behind (sym e ∙ ap (head_res s) f) in (cc, cc)

  -- by a code that is a whole type
  pub plain_at : {p : Step} {code : ℕ} {c : Cursor} {k : Leaf} → step_res p ≡ byte s at → p ≡ Step.Byte code c → plain_leaf code ≡ PlainLeaf.Known k
      → (P.tree ≡ cleaf (leaf_type k [])) × (c.at ≡ P.end)
  unfolding kind next body
  plain_at {code = code} {c = c} {k = k} e f g =
      let q : kind s at ≡ ok (a_leaf (leaf_type k [])) c.at = rw (← e, f) (plain-kind code s c.at g) in
      let h = behind q in
      (cc, cc)

  pub struct_at : {p : HeadSpan} {n : ℕ} {c : Cursor} → head_res s p ≡ kind s at → p ≡ HeadSpan.Struct n c → StructAt v d s at P n c.at
  unfolding body struct_type
  struct_at e f =
      let (cs, m, h, g) = next-ok _ _ (behind (sym e ∙ ap (head_res s) f)) in
      record { inner = record { columns = cs; end = m; reads = h }; is = cc; ends = cc }

  module _ {p : HeadSpan} {c : Cursor} (e : head_res s p ≡ kind s at) {q : Labelled} (g : label_res s q ≡ element_label v s c.at) where
    pub list_at : {l : LabelSpan} {b : Cursor} → p ≡ HeadSpan.List c → q ≡ Labelled.Is l b → ListAt v d s at P (label_at s l) b.at
    unfolding body list_type
    list_at {l} {b} f k =
        let (m, i, h₁, g₁) = next-ok _ _ (behind (sym e ∙ ap (head_res s) f)) in
        let (t, j, h₂, g₂) = next-ok _ _ g₁ in
        let z : ok m i ≡ ok (label_at s l) b.at = sym h₁ ∙ label_got s g k in
        let y : i ≡ b.at = cc in
        let x : m ≡ label_at s l = cc in
        record { inner = record { tree = t; end = j; reads = ap (λ (o : ℕ). type v Free (d - 1) s o) (sym y) ∙ h₂ }; is = cc; ends = cc }

    pub array_at : {w : ℕ} {l : LabelSpan} {b : Cursor} → p ≡ HeadSpan.Array w c → q ≡ Labelled.Is l b → ArrayAt v d s at P w (label_at s l) b.at
    unfolding body array_type
    array_at {w} {l} {b} f k =
        let (m, i, h₁, g₁) = next-ok _ _ (behind (sym e ∙ ap (head_res s) f)) in
        let (t, j, h₂, g₂) = next-ok _ _ g₁ in
        let z : ok m i ≡ ok (label_at s l) b.at = sym h₁ ∙ label_got s g k in
        let y : i ≡ b.at = cc in
        let x : m ≡ label_at s l = cc in
        record { inner = record { tree = t; end = j; reads = ap (λ (o : ℕ). type v Free (d - 1) s o) (sym y) ∙ h₂ }; is = cc; ends = cc }

    pub list-labelled : {B : Type 0} {n : ℕ} → p ≡ HeadSpan.List c → q ≡ Labelled.Refused n → B
    unfolding body list_type
    list-labelled {n = n} f k =
        let (m, i, h₁, g₁) = next-ok _ _ (behind (sym e ∙ ap (head_res s) f)) in
        let z : ok m i ≡ refuse n = sym h₁ ∙ label-none s g k in
        clash (cc)

    pub array-labelled : {B : Type 0} {w n : ℕ} → p ≡ HeadSpan.Array w c → q ≡ Labelled.Refused n → B
    unfolding body array_type
    array-labelled {n = n} f k =
        let (m, i, h₁, g₁) = next-ok _ _ (behind (sym e ∙ ap (head_res s) f)) in
        let z : ok m i ≡ refuse n = sym h₁ ∙ label-none s g k in
        clash (cc)

  -- where the type ends, by a reader that passes over it
  pub type-ends : {r : Moved} {c : Cursor} → r ≡ moved_of (type v Free d s at) → r ≡ Moved.To c → c.at ≡ P.end
  type-ends e f = let t = moved_to (type v Free d s at) e f in let z : ok t.0 _ ≡ ok P.tree P.end = sym t.1 ∙ P.reads in cc

  pub never_stuck : {B : Type 0} {r : Moved} {n : ℕ} → r ≡ moved_of (type v Free d s at) → r ≡ Moved.Refused n → B
  never_stuck {n = n} e f = let z : refuse n ≡ ok P.tree P.end = sym (moved_refused (type v Free d s at) e f) ∙ P.reads in clash (cc)

-- the answer that holds all parts, by those of the readers
module _ {v : Edition} {s : Bytes} {at : ℕ} {p : HeadSpan} (e : head_res s p ≡ kind s at) where
  pub read_leaf : {l : LeafSpan} {c : Cursor} → HeadIn s p → p ≡ HeadSpan.Leaf l c → PartsIs v s at (TypeParts.Leaf l c)
  read_leaf i f = record { read = record { head = sym (ap (head_res s) f) ∙ e; inside = head_in s i f } }

  pub read_struct : {n : ℕ} {c : Cursor} → p ≡ HeadSpan.Struct n c → PartsIs v s at (TypeParts.Struct n c)
  read_struct f = record { read = sym (ap (head_res s) f) ∙ e }

  pub read_element_lem : (h : Cursor → HeadSpan) {c : Cursor} {q : Labelled} {l : LabelSpan} {b : Cursor} → p ≡ h c → label_res s q ≡ element_label v s c.at
      → LabelIn s q → q ≡ Labelled.Is l b → ElementRead v s at h l b
  read_element_lem h {c} f g i k = record { start = c; head = sym (ap (head_res s) f) ∙ e; label = sym (ap (label_res s) k) ∙ g; inside = label_in s i k }

module _ {v : Edition} {s : Bytes} {at : ℕ} {r : TypeParts} (R : PartsIs v s at r) where
  read_as : {q : TypeParts} → r ≡ q → PartsRead v s at q
  read_as e = subst (λ (q : TypeParts). PartsRead v s at q) e R.read

  pub leaf_parts : {l : LeafSpan} {c : Cursor} → r ≡ TypeParts.Leaf l c → LeafRead s at l c
  leaf_parts e = read_as e

  pub list-parts : {l : LabelSpan} {c : Cursor} → r ≡ TypeParts.List l c → ElementRead v s at (λ b. HeadSpan.List b) l c
  list-parts e = read_as e

  pub array_parts : {w : ℕ} {l : LabelSpan} {c : Cursor} → r ≡ TypeParts.Array w l c → ElementRead v s at (λ b. HeadSpan.Array w b) l c
  array_parts e = read_as e

  module _ {d : ℕ} (P : TypeAt v d s at) where
    pub leaf-opened : {l : LeafSpan} {c : Cursor} → r ≡ TypeParts.Leaf l c → (P.tree ≡ cleaf (leaf_at s l)) × (c.at ≡ P.end)
    leaf-opened {l} {c} e = leaf_at_lem P {p = HeadSpan.Leaf l c} {l = l} {c = c} (leaf_parts e).head refl

    pub struct-opened : {n : ℕ} {c : Cursor} → r ≡ TypeParts.Struct n c → StructAt v d s at P n c.at
    struct-opened {n} {c} e = struct_at P {p = HeadSpan.Struct n c} {n = n} {c = c} (read_as e) refl

    pub list-opened : {l : LabelSpan} {c : Cursor} → r ≡ TypeParts.List l c → ListAt v d s at P (label_at s l) c.at
    list-opened {l} {c} e =
        let E = list-parts e in
        list_at P {p = HeadSpan.List E.start} {c = E.start} E.head {q = Labelled.Is l c} E.label {l = l} {b = c} refl refl

    pub array-opened : {w : ℕ} {l : LabelSpan} {c : Cursor} → r ≡ TypeParts.Array w l c → ArrayAt v d s at P w (label_at s l) c.at
    array-opened {w} {l} {c} e =
        let E = array_parts e in
        array_at P {p = HeadSpan.Array w E.start} {c = E.start} E.head {q = Labelled.Is l c} E.label {w = w} {l = l} {b = c} refl refl

    pub never_opened : {B : Type 0} {n : ℕ} → r ≡ TypeParts.Refused n → B
    never_opened {n = n} e = let h : PartsRead v s at (TypeParts.Refused n) = read_as e in absurd (h d P)

-- two readings of one place agree
pub same_type_lem : {v : Edition} {d : ℕ} {s : Bytes} {at : ℕ} (P Q : TypeAt v d s at) → (P.tree ≡ Q.tree) × (P.end ≡ Q.end)
same_type_lem P Q = let z : ok P.tree P.end ≡ ok Q.tree Q.end = sym P.reads ∙ Q.reads in (cc, cc)

pub same-columns : {v : Edition} {d : ℕ} {s : Bytes} {n at : ℕ} (P Q : ColumnsAt v d s n at) → (P.columns ≡ Q.columns) × (P.end ≡ Q.end)
same-columns P Q = let z : ok P.columns P.end ≡ ok Q.columns Q.end = sym P.reads ∙ Q.reads in (cc, cc)

-- the same place under another name
pub type_moved : {v : Edition} {d : ℕ} {s : Bytes} {at to : ℕ} → at ≡ to → TypeAt v d s at → TypeAt v d s to
type_moved {v} {d} {s} e P = record { tree = P.tree; end = P.end; reads = ap (λ (o : ℕ). type v Free d s o) (sym e) ∙ P.reads }

pub columns_moved : {v : Edition} {d : ℕ} {s : Bytes} {n at to : ℕ} → at ≡ to → ColumnsAt v d s n at → ColumnsAt v d s n to
columns_moved {v} {d} {s} {n} e P =
    record { columns = P.columns; end = P.end; reads = ap (λ (o : ℕ). columns v Free (type v Free d) n [] s o) (sym e) ∙ P.reads }

-- ---- columns, from the first

-- with no rule the earlier labels have no say
pub columns-any : (v : Edition) (p : Parser ColumnType) (n : ℕ) (ms ks : List Label) (s : Bytes) (at : ℕ) → columns v Free p n ms s at ≡ columns v Free
    p n ks s at
unfolding columns
columns-any v p zero ms ks s at = refl
columns-any v p (suc n) ms ks s at =
    λ i. next (label v s at) (λ l a. next (p s a) (λ t b. next (test (not (all l i)) 5 s b)
    (λ u c. next (columns-any v p n (ms ++ (l ∷ [])) (ks ++ (l ∷ [])) s c i) (λ cs o. ok (ccons l t cs) o))))
  where
    all : (l : Label) → repeats_any Free l ms ≡ repeats_any Free l ks
    all l = repeats_free l ms ∙ sym (repeats_free l ks)

-- a test that passed moves nothing
tested : (b : Bool) (s : Bytes) {j : ℕ} {u : Unit {0}} {o : ℕ} → test b 5 s j ≡ ok u o → j ≡ o
unfolding choose
tested true s e = cc
tested false s e = clash (cc)

pub record FirstAt (v : Edition) (d : ℕ) (s : Bytes) (n at : ℕ) (P : ColumnsAt v d s n at) (l : Label) (m : ℕ) : Type 0 where
  pub head : TypeAt v d s m
  pub tail : ColumnsAt v d s (n - 1) head.end
  pub is : P.columns ≡ ccons l head.tree tail.columns
  pub ends : tail.end ≡ P.end

-- the first column, with its label
pub record HeadAt (v : Edition) (d : ℕ) (s : Bytes) (n at : ℕ) (P : ColumnsAt v d s n at) : Type 0 where
  pub label : Label
  pub start : ℕ
  pub labelled : label_of v s at ≡ ok label start
  pub first : FirstAt v d s n at P label start

module _ {v : Edition} {d : ℕ} {s : Bytes} {n at : ℕ} (P : ColumnsAt v d s n at) where
  pub no_column : n ≡ 0 → (P.columns ≡ cnil) × (P.end ≡ at)
  unfolding columns
  no_column h = let q : columns v Free (type v Free d) 0 [] s at ≡ ok P.columns P.end = rw h at P.reads in (cc, cc)

  whole : (n ≡ 0 → ⊥) → columns v Free (type v Free d) (suc (n - 1)) [] s at ≡ ok P.columns P.end
  whole h = ap (λ (k : ℕ). columns v Free (type v Free d) k [] s at) (let e : suc (n - 1) ≡ n = omega arith in e) ∙ P.reads

  pub head_at : (n ≡ 0 → ⊥) → HeadAt v d s n at P
  unfolding columns
  head_at h =
      let (m, i, h₁, g₁) = next-ok _ _ (whole h) in
      let (t, j, h₂, g₂) = next-ok _ _ g₁ in
      let (u, o, h₃, g₃) = next-ok (test (not (repeats_any Free m [])) 5 s j) _ g₂ in
      let (cs, e, h₄, g₄) = next-ok _ _ g₃ in
      let w : j ≡ o = tested (not (repeats_any Free m [])) s h₃ in
      record {
        label = m;
        start = i;
        labelled = h₁;
        first = record {
          head = record { tree = t; end = j; reads = h₂ };
          tail = record {
            columns = cs;
            end = e;
            reads = columns-any v (type v Free d) (n - 1) [] ([] ++ (m ∷ [])) s j ∙ ap
                (λ (b : ℕ). columns v Free (type v Free d) (n - 1) ([] ++ (m ∷ [])) s b) w ∙ h₄;
          };
          is = cc;
          ends = cc;
        };
      }

  module _ (h : n ≡ 0 → ⊥) {q : Labelled} (g : label_res s q ≡ label v s at) where
    pub first-at : {l : LabelSpan} {c : Cursor} → q ≡ Labelled.Is l c → FirstAt v d s n at P (label_at s l) c.at
    first-at {l} {c} k =
        let H = head_at h in
        let z : ok H.label H.start ≡ ok (label_at s l) c.at = sym H.labelled ∙ label_got s g k in
        let y : H.start ≡ c.at = cc in
        let x : H.label ≡ label_at s l = cc in
        record {
          head = record { tree = H.first.head.tree; end = H.first.head.end; reads = ap (λ (o : ℕ). type v Free d s o) (sym y) ∙ H.first.head.reads };
          tail = H.first.tail;
          is = H.first.is ∙ ap (λ (b : Label). ccons b H.first.head.tree H.first.tail.columns) x;
          ends = H.first.ends;
        }

    pub first-labelled : {B : Type 0} {k : ℕ} → q ≡ Labelled.Refused k → B
    unfolding columns
    first-labelled {k = k} f =
        let (m, i, h₁, g₁) = next-ok _ _ (whole h) in
        let z : ok m i ≡ refuse k = sym h₁ ∙ label-none s g f in
        clash (cc)
