-- The mark of a place of an incoming column, where it stands. Assumes nothing.
use Prim.Native.Nat.{ℕ, zero, suc, ◌+◌, ◌≤◌, ◌<◌}
use mathlib.Core.Path.{◌≡◌, refl, sym, ap, ◌∙◌, subst}
use mathlib.Core.Bool.{Bool, true, false, not, ◌&&◌}
use mathlib.Core.List.{List, []}
use native.Mathlib.Omega.{arith}
use lib.Dec.{eqb, ltb}
use lib.ListN.{length, get_or}
use lib.Seq.{slice}
use borrow.Author.Tests.{eq-eqb, ne_eqb, lt-ltb}
use Rattle.layout.specs.Bytes.{Bytes}
use Rattle.layout.specs.Parser.{ok, next, choose}
use Rattle.layout.specs.Tree.{leaf_of, Label, ColumnType, cleaf, cstruct, clist, carray, Columns, cnil, ccons}
use Rattle.layout.specs.Layout.{Head, kind, body, list_type, array_type, element_label, type}
use Rattle.layout.specs.code.Answers.{head_res, leaf_at, label_res}
use Rattle.layout.specs.Find.{Lookup, absent, present, find_from, column_at}
use Rattle.layout.specs.code.Finding.{Finds}
use Rattle.layout.specs.code.Stands.{TypeAt, ColumnsAt}
use Rattle.layout.specs.declared.cursor.Cursor.{Cursor}
use Rattle.layout.specs.declared.columns.Position.{Position}
use Rattle.layout.specs.declared.columns.Label.{Label as LabelSpan}
use Rattle.layout.specs.declared.columns.Labelled.{Labelled}
use Rattle.layout.specs.declared.columns.Siblings.TheVariants.{Free}
use Rattle.layout.specs.declared.find.Found.{Found}
use Rattle.layout.specs.declared.types.Head.{Head as HeadSpan}
use Rattle.layout.specs.declared.types.LeafType.{LeafType as LeafSpan}
use Rattle.layout.specs.declared.edition.Edition.{Edition}
use Rattle.layout.proofs.Ways.{clash}
use Rattle.layout.proofs.View.{next-ok, leaf_at_lem, struct_at, list_at, array_at}
use Rattle.layout.proofs.Leaves.{leaf_of-type}
use Rattle.rules.specs.Kinds.{kind_of}
use Rattle.rules.specs.Classes.{is_null}
use Rattle.nodes.proofs.Deeper.{deeper-type}
use Rattle.plan.specs.Nullness.{Nullness, Nullnesses, nnil, ncons, nowhere, inside_of, top_of, nullness_at}
use Rattle.plan.specs.Marks.{place_of, allowed, given, givens}
use Rattle.plan.specs.code.Paths.{place_in}
use Rattle.index.specs.code.Indexed.{Indexed}
use Rattle.overflow.proofs.Scanning.{path-end, path_cons}
use Rattle.nullness.specs.code.Places.{fills_at}
use Rattle.nullness.proofs.Placing.{nowhere_fills}
use Rattle.nullness.specs.code.Marked.{parts_of, element_mark, MarkedAt, PartIs}
use Rattle.nullness.specs.declared.column.PartMark.{PartMark}

-- what is inside does not hang on a column's own mark
inside-same : (r : Bool) (t : ColumnType) → inside_of (given r t) ≡ parts_of t
unfolding given
inside-same r (cleaf l) = refl
inside-same r (cstruct cs) = refl
inside-same r (clist l t) = refl
inside-same r (carray w l t) = refl

-- ---- an element

pub first-element : (k : ℕ) (c : Cursor) (r : Bool) → k ≡ 0 → PartMark.At c r ≡ element_mark k c r
unfolding element_mark
first-element k c r e = rw e

pub later-element : (k : ℕ) (c : Cursor) (r : Bool) → (k ≡ 0 → ⊥) → PartMark.None ≡ element_mark k c r
unfolding element_mark
later-element zero c r h = absurd (h refl)
later-element (suc k) c r h = refl

-- ---- the column that is looked up

abbrev Looked : Lookup → Nullness → Type 0
Looked absent n = n ≡ nowhere
Looked (present o l t) n = n ≡ given l.required t

looked : (cs : Columns) (i m k : ℕ) → k ≡ i + m → Looked (find_from (λ j l. eqb j k) i cs) (nullness_at (givens cs) m)
unfolding find_from givens nullness_at choose
looked cnil i m k h = refl
looked (ccons l t cs) i zero k h = rw (eq-eqb i k (omega arith)) refl
looked (ccons l t cs) i (suc m) k h = rw (ne_eqb i k (λ q. omega arith)) (looked cs (i + 1) m k (omega arith))

module _ (v : Edition) (d : ℕ) (s : Bytes) {n : Nullness} (deep : d ≤ 16) {r : Found} where
  found-mark : (x : Lookup) → Looked x n → Finds v d s x r → {o : Position} {l : LabelSpan} {b : Cursor} → r ≡ Found.At o l b → MarkedAt v s b.at
      l.required n
  unfolding deeper-type
  found-mark absent g F q = clash (cc)
  found-mark (present k m t) g F {o} {l} {b} q =
      let z : Found.At k F.span F.start ≡ Found.At o l b = sym F.is ∙ q in
      let y : F.start.at ≡ b.at = cc in
      let x : F.span ≡ l = cc in
      let T : TypeAt v d s b.at = record { tree = t; end = F.end; reads = ap (λ (i : ℕ). type v Free d s i) (sym y) ∙ F.reads } in
      let w : m.required ≡ l.required = sym (ap (λ (a : Label). a.required) F.label) ∙ ap (λ (a : LabelSpan). a.required) x in
      record { type = deeper-type deep T; is = g ∙ ap (λ (a : Bool). given a t) w }

  absent-mark : (x : Lookup) → Looked x n → Finds v d s x r → r ≡ Found.Absent → n ≡ nowhere
  absent-mark absent g F q = g
  absent-mark (present k m t) g F q =
      let z : Found.At k F.span F.start ≡ Found.Absent = sym F.is ∙ q in
      clash (cc)

-- ---- a part

is_none : {v : Edition} {s : Bytes} {n : Nullness} → n ≡ nowhere → PartIs v s n PartMark.None
is_none e = record { none = λ q. e; read = λ q. clash (cc); here = λ c m q. clash (cc) }

is-here : {v : Edition} {s : Bytes} {n : Nullness} {c : Cursor} {m : Bool} → MarkedAt v s c.at m n → PartIs v s n (PartMark.At c m)
is-here {v} {s} {n} {c} {m} M = record {
  none = λ q. clash (cc);
  read = λ q. clash (cc);
  here = λ d o q.
      let x : c ≡ d = cc in
      let y : m ≡ o = cc in
      subst (λ (a : Cursor). MarkedAt v s a.at o n) x (subst (λ (a : Bool). MarkedAt v s c.at a n) y M);
}

element_part : {v : Edition} {s : Bytes} (m : Bool) {t : ColumnType} (k : ℕ) (b : Cursor) (T : TypeAt v 16 s b.at) → t ≡ T.tree → {r : PartMark} → r
    ≡ element_mark k b m
    → PartIs v s (nullness_at (ncons (given m t) nnil) k) r
unfolding element_mark nullness_at
element_part {v} {s} m {t} zero b T e i = subst (λ (r : PartMark). PartIs v s (given m t) r) (sym i) (is-here (record { type = T; is = ap (given m) e }))
element_part {v} {s} m {t} (suc k) b T e i = subst (λ (r : PartMark). PartIs v s nowhere r) (sym i) (is_none refl)

part_as : {v : Edition} {s : Bytes} (k : ℕ) {t u : ColumnType} {r : PartMark} → u ≡ t → PartIs v s (nullness_at (parts_of t) k) r → PartIs v s
    (nullness_at (parts_of u) k) r
part_as {v} {s} k {r = r} f = subst (λ (t : ColumnType). PartIs v s (nullness_at (parts_of t) k) r) (sym f)

module _ {v : Edition} {s : Bytes} {at : ℕ} (P : TypeAt v 16 s at) (k : ℕ) {p : HeadSpan} (e : head_res s p ≡ kind s at) where
  pub leaf_part_lem : {l : LeafSpan} {c : Cursor} → p ≡ HeadSpan.Leaf l c → PartIs v s (nullness_at (parts_of P.tree) k) PartMark.None
  unfolding given nullness_at
  leaf_part_lem f = part_as k (leaf_at_lem P e f).0 (is_none refl)

  module _ {n : ℕ} {c : Cursor} (f : p ≡ HeadSpan.Struct n c) {r : Found} (g : (D : ColumnsAt v 15 s n c.at) → Finds v 15 s
      (column_at (record { 0 = k }) D.columns) r) where
    pub field-part : {o : Position} {l : LabelSpan} {b : Cursor} → r ≡ Found.At o l b → PartIs v s (nullness_at (parts_of P.tree) k)
        (PartMark.At b l.required)
    unfolding given
    field-part q =
        let S = struct_at P e f in
        part_as k S.is (is-here (found-mark v 15 s (omega arith) (column_at (record { 0 = k }) S.inner.columns)
        (looked S.inner.columns 0 k k (omega arith)) (g S.inner) q))

    pub absent-part : r ≡ Found.Absent → PartIs v s (nullness_at (parts_of P.tree) k) PartMark.None
    unfolding given
    absent-part q =
        let S = struct_at P e f in
        part_as k S.is (is_none (absent-mark v 15 s (omega arith) (column_at (record { 0 = k }) S.inner.columns)
        (looked S.inner.columns 0 k k (omega arith)) (g S.inner) q))

  module _ {c : Cursor} {q : Labelled} (g : label_res s q ≡ element_label v s c.at) {l : LabelSpan} {b : Cursor} (j : q ≡ Labelled.Is l b) {r : PartMark}
      (i : r ≡ element_mark k b l.required) where
    pub list_part_lem : p ≡ HeadSpan.List c → PartIs v s (nullness_at (parts_of P.tree) k) r
    unfolding given deeper-type
    list_part_lem f =
        let L = list_at P e g f j in
        part_as k L.is (element_part l.required {t = L.inner.tree} k b (deeper-type (omega arith) L.inner) refl i)

    pub array_part_lem : {w : ℕ} → p ≡ HeadSpan.Array w c → PartIs v s (nullness_at (parts_of P.tree) k) r
    unfolding given deeper-type
    array_part_lem f =
        let L = array_at P e g f j in
        part_as k L.is (element_part l.required {t = L.inner.tree} k b (deeper-type (omega arith) L.inner) refl i)

-- ---- a column's own place

allowed-place : (b : Bool) → allowed (place_of b) true ≡ b
unfolding allowed
allowed-place true = refl
allowed-place false = refl

pub optional-top : (r : Bool) (t : ColumnType) → r ≡ false → false ≡ allowed (top_of (given r t)) true
unfolding given allowed
optional-top r (cleaf l) e = rw e
optional-top r (cstruct cs) e = rw e
optional-top r (clist l t) e = rw e
optional-top r (carray w l t) e = rw e

top_as : (r : Bool) {t u : ColumnType} {b : Bool} → u ≡ t → b ≡ allowed (top_of (given r t)) true → b ≡ allowed (top_of (given r u)) true
top_as r f h = h ∙ sym (ap (λ (t : ColumnType). allowed (top_of (given r t)) true) f)

-- a type, after what it begins with
behind : {v : Edition} {s : Bytes} {at : ℕ} (P : TypeAt v 16 s at) {k : Head} {m : ℕ} → kind s at ≡ ok k m → body v Free (type v Free 15) k s m ≡ ok
    P.tree P.end
unfolding type next
behind P h = rw h at P.reads

-- a kind's number is 0 for null alone
zero_test : (k : ℕ) → not (eqb k 0) ≡ ltb 0 k
zero_test zero = refl
zero_test (suc k) = ap not (ne_eqb (suc k) 0 (λ q. omega arith)) ∙ sym (lt-ltb 0 (suc k) (omega arith))

module _ {v : Edition} {s : Bytes} {at : ℕ} (P : TypeAt v 16 s at) {p : HeadSpan} (e : head_res s p ≡ kind s at) (r : Bool) (q : r ≡ true) where
  pub leaf-top : {l : LeafSpan} {c : Cursor} → p ≡ HeadSpan.Leaf l c → {k : ℕ} → k ≡ kind_of l.leaf → ltb 0 k ≡ allowed (top_of (given r P.tree)) true
  unfolding given
  leaf-top {l} f {k} h =
      let z : kind_of (leaf_of (leaf_at s l)) ≡ k = ap kind_of (leaf_of-type l.leaf _) ∙ sym h in
      top_as r (leaf_at_lem P e f).0 (sym (allowed-place (r && not (is_null (leaf_of (leaf_at s l)))) ∙ ap (λ (b : Bool). b && not (is_null (leaf_of (leaf_at s l)))) q
      ∙ ap (λ (n : ℕ). not (eqb n 0)) z ∙ zero_test k))

  pub struct-top : {n : ℕ} {c : Cursor} → p ≡ HeadSpan.Struct n c → true ≡ allowed (top_of (given r P.tree)) true
  unfolding given
  struct-top f = top_as r (struct_at P e f).is (sym (allowed-place r ∙ q))

  pub list-top : {c : Cursor} → p ≡ HeadSpan.List c → true ≡ allowed (top_of (given r P.tree)) true
  unfolding given body list_type
  list-top f =
      let (l, i, h₁, g₁) = next-ok _ _ (behind P (sym e ∙ ap (head_res s) f)) in
      let (t, j, h₂, g₂) = next-ok _ _ g₁ in
      let z : P.tree ≡ clist l t = cc in
      top_as r z (sym (allowed-place r ∙ q))

  pub array-top : {w : ℕ} {c : Cursor} → p ≡ HeadSpan.Array w c → true ≡ allowed (top_of (given r P.tree)) true
  unfolding given body array_type
  array-top {w} f =
      let (l, i, h₁, g₁) = next-ok _ _ (behind P (sym e ∙ ap (head_res s) f)) in
      let (t, j, h₂, g₂) = next-ok _ _ g₁ in
      let z : P.tree ≡ carray w l t = cc in
      top_as r z (sym (allowed-place r ∙ q))

-- ---- along a path: what is left of it, from the column at `at`

pub record Marking (v : Edition) (s : Bytes) (n : Nullness) (path : List ℕ) (len at : ℕ) (m : Bool) (i : ℕ) : Type 0 where
  pub within : i ≤ len
  pub type : TypeAt v 16 s at
  pub same : fills_at n (slice 0 len path) ≡ fills_at (given m type.tree) (slice i len path)

pub marking_start : {v : Edition} {s : Bytes} {at : ℕ} (P : TypeAt v 16 s at) (path : List ℕ) (len : ℕ) (m : Bool) → Marking v s (given m P.tree)
    path len at m 0
marking_start P path len m = record { within = omega arith; type = P; same = refl }

module _ {v : Edition} {s : Bytes} {n : Nullness} {path : List ℕ} {len at : ℕ} {m : Bool} {i : ℕ} (M : Marking v s n path len at m i) where
  pub marking_end : len ≤ i → {b : Bool} → ((P : TypeAt v 16 s at) → b ≡ allowed (top_of (given m P.tree)) true) → b ≡ fills_at n (slice 0 len path)
  unfolding place_in
  marking_end h g =
      let z : slice i len path ≡ [] = path-end i len path (omega (arith, M.within)) in
      g M.type ∙ sym (M.same ∙ ap (fills_at (given m M.type.tree)) z)

  module _ (lt : i < len) (room : len ≤ length path) {r : PartMark} (g : (P : TypeAt v 16 s at) → PartIs v s
      (nullness_at (parts_of P.tree) (get_or path i 0)) r) where
    part : Nullness
    part = nullness_at (parts_of M.type.tree) (get_or path i 0)

    step : fills_at n (slice 0 len path) ≡ fills_at part (slice (i + 1) len path)
    unfolding place_in part
    step =
        M.same ∙ ap (fills_at (given m M.type.tree)) (path_cons i len path lt room)
        ∙ ap (λ (ns : Nullnesses). fills_at (nullness_at ns (get_or path i 0)) (slice (i + 1) len path)) (inside-same m M.type.tree)

    pub marking_none : r ≡ PartMark.None → true ≡ fills_at n (slice 0 len path)
    unfolding part
    marking_none q =
        sym (step ∙ ap (λ (x : Nullness). fills_at x (slice (i + 1) len path)) ((g M.type).none q) ∙ nowhere_fills (slice (i + 1) len path))

    pub marking_refused : {B : Type 0} → r ≡ PartMark.Refused → B
    marking_refused q = absurd ((g M.type).read q)

    pub marking_more : {c : Cursor} {o : Bool} → r ≡ PartMark.At c o → Marking v s n path len c.at o (i + 1)
    unfolding part
    marking_more {c} {o} q =
        let H = (g M.type).here c o q in
        record { within = omega arith; type = H.type; same = step ∙ ap (λ (x : Nullness). fills_at x (slice (i + 1) len path)) H.is }

-- ---- a column of the incoming layout

pub stride_as : {v : Edition} {s : Bytes} {n at a b : ℕ} {index : List ℕ} → a ≡ b → Indexed v s n at a index → Indexed v s n at b index
stride_as {v} {s} {n} {at} {index = index} e = subst (λ (k : ℕ). Indexed v s n at k index) e

module _ {v : Edition} {s : Bytes} {n at : ℕ} (P : ColumnsAt v 16 s n at) (k : Position) {r : Found} (g : Finds v 16 s (column_at k P.columns) r) where
  pub column-mark : {o : Position} {l : LabelSpan} {b : Cursor} → r ≡ Found.At o l b → MarkedAt v s b.at l.required
      (nullness_at (givens P.columns) k.0)
  column-mark q = found-mark v 16 s (omega arith) (column_at k P.columns) (looked P.columns 0 k.0 k.0 (omega arith)) g q

  pub column-none : r ≡ Found.Absent → (p : List ℕ) → true ≡ fills_at (nullness_at (givens P.columns) k.0) p
  column-none q p =
      let z = absent-mark v 16 s (omega arith) (column_at k P.columns) (looked P.columns 0 k.0 k.0 (omega arith)) g q in
      sym (ap (λ (x : Nullness). fills_at x p) z ∙ nowhere_fills p)

pub marked_fills : {v : Edition} {s : Bytes} {at : ℕ} {m : Bool} {n : Nullness} (M : MarkedAt v s at m n) (p : List ℕ) {b : Bool}
    → ((P : TypeAt v 16 s at) → b ≡ fills_at (given m P.tree) p) → b ≡ fills_at n p
marked_fills M p g = g M.type ∙ sym (ap (λ (x : Nullness). fills_at x p) M.is)
