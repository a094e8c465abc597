-- Each required place of a target column, and what holds while the columns are asked one after the other. Assumes
-- nothing.
use Prim.Native.Nat.{ℕ, suc, ◌+◌, ◌-◌, ◌≤◌, ◌<◌}
use mathlib.Core.Path.{◌≡◌, refl, sym, ap, ◌∙◌, subst}
use mathlib.Core.Bool.{Bool, true, false, ◌&&◌}
use mathlib.Core.List.{List, [], ◌∷◌, ◌++◌}
use native.Mathlib.Omega.{arith}
use native.Mathlib.Numerals.{add-one}
use lib.ListN.{length}
use lib.Seq.{slice, take-suc-set}
use Rattle.layout.specs.Bytes.{Bytes, AllBytes}
use Rattle.layout.specs.Tree.{Label, ColumnType, cleaf, cstruct, clist, carray, cnil, ccons, DataType, struct, Fields, Columns}
use Rattle.layout.specs.Tree.{dtype_of, fields_of}
use Rattle.layout.specs.Layout.{kind, label, element_label, columns as columns_of_of, type}
use Rattle.layout.specs.code.Answers.{head_res, label_res, label_at}
use Rattle.layout.specs.code.Stands.{TypeAt, ColumnsAt}
use Rattle.layout.specs.declared.cursor.Cursor.{Cursor}
use Rattle.layout.specs.declared.types.Head.{Head}
use Rattle.layout.specs.declared.types.LeafType.{LeafType as LeafSpan}
use Rattle.layout.specs.declared.columns.Label.{Label as LabelSpan}
use Rattle.layout.specs.declared.columns.Labelled.{Labelled}
use Rattle.layout.specs.declared.columns.Siblings.TheVariants.{Free}
use Rattle.layout.specs.declared.edition.Edition.{Edition}
use Rattle.layout.proofs.View.{leaf_at_lem, struct_at, FirstAt, first-at, first-labelled, no_column}
use Rattle.plan.specs.Result.{gives}
use Rattle.plan.specs.Selector.{Selector, Selectors, snil, scons}
use Rattle.plan.specs.Check.{Column, column, column_at}
use Rattle.plan.specs.Nullness.{Place, Nullness, Nullnesses, top_of, inside_of, nullness_at, nullness_of, nullnesses_of}
use Rattle.plan.specs.Marks.{allowed, givens, meets, meets_all}
use Rattle.plan.proofs.Paths.{allowed-optional}
use Rattle.walk.specs.code.Stands.{SelectorAt}
use Rattle.walk.specs.code.State.{state}
use Rattle.walk.specs.code.Walks.{WalkAt}
use Rattle.walk.specs.declared.walk.Walk.{Walk}
use Rattle.layout.specs.declared.columns.ColumnRange.{ColumnRange}
use Rattle.nodes.specs.declared.places.TopPath.{TopPath}
use Rattle.overflow.specs.code.Ranges.{ColumnsIn}
use Rattle.overflow.specs.code.Overflows.{TopAt, PlanAt, ElementTypeAt, part_path, started}
use Rattle.overflow.proofs.Elements.{list_element_lem, array_element_lem, element_label_lem, element-type}
use Rattle.overflow.proofs.Paths.{standing}
use Rattle.overflow.proofs.Columns.{Pairing, no_pair, next, column-top, pair-more, pair-start}
use Rattle.nullness.specs.code.Places.{Leads, l_here, l_field, l_list, l_array, nullness_in, fills_at, drop_places}
use Rattle.nullness.specs.code.Stops.{Follows, PlaceAt, ElementAt}
use Rattle.nullness.proofs.Placing.{leads-more, in_place, in_further, next-meets, none_left}

-- ---- one place

pub place-optional : (p : Place) {r : Bool} → r ≡ false → true ≡ allowed p r
place-optional p e = sym (ap (allowed p) e ∙ allowed-optional p)

module _ {plan : Bytes} {top : ℕ} {Γ : Fields} (path : List ℕ) (len : ℕ) {u : DataType} (S : PlaceAt plan top Γ (slice 0 len path) u)
    (room : length path ≡ 64) (short : len ≤ 64)
    {w : Walk} (e : w ≡ started top (length plan) path len) where
  unfoldable pub place_follows : Follows plan w Γ
  place_follows = record {
    selector = S.top.here.tree;
    path = slice 0 len path;
    standing = subst (λ (z : Walk). WalkAt plan z (state S.top.here.tree [] (slice 0 len path))) (sym e) (standing S.top room short);
    column = S.top.column;
    passes = S.top.passes;
    end = u;
    leads = S.leads;
  }

  pub place_filled : (N : Nullnesses) {r b : Bool} → r ≡ true → ((F : Follows plan w Γ) → b ≡ fills_at (nullness_of N F.selector) F.path)
      → b ≡ allowed (top_of (nullness_in (nullness_of N S.top.here.tree) (slice 0 len path))) r
  unfolding place_follows
  place_filled N q g =
      g place_follows ∙ ap (λ (p : Place). allowed p true) (in_place (slice 0 len path) (nullness_of N S.top.here.tree))
      ∙ sym (ap (allowed (top_of (nullness_in (nullness_of N S.top.here.tree) (slice 0 len path)))) q)

-- ---- a step more of a path

module _ (path : TopPath) (k : ℕ) {below : TopPath} (room : length path.steps ≡ 64) (e : below ≡ part_path path k) where
  pub longer : path.len < 64 → slice 0 below.len below.steps ≡ slice 0 path.len path.steps ++ (k ∷ [])
  longer h = ap (λ (z : TopPath). slice 0 z.len z.steps) e ∙ rw add-one (take-suc-set path.steps path.len k (omega arith))

  same-top : below.top ≡ path.top
  same-top = ap (λ (z : TopPath). z.top) e

  unfoldable further : {plan : Bytes} {Γ : Fields} {u : DataType} → path.len < 64 → (T : TopAt plan path.top Γ)
      → Leads T.column.type (slice 0 path.len path.steps ++ (k ∷ [])) u → PlaceAt plan path.top Γ (slice 0 below.len below.steps) u
  further {u = u} h T L = record { top = T; leads = subst (λ (p : List ℕ). Leads T.column.type p u) (sym (longer h)) L }

  pub step_place : {plan : Bytes} {Γ : Fields} {u : DataType} → path.len < 64 → (T : TopAt plan path.top Γ)
      → Leads T.column.type (slice 0 path.len path.steps ++ (k ∷ [])) u → PlaceAt plan below.top Γ (slice 0 below.len below.steps) u
  step_place {plan} {Γ} {u} h T L = subst (λ (n : ℕ). PlaceAt plan n Γ (slice 0 below.len below.steps) u) (sym same-top) (further h T L)

  step-meets : (n : Nullness) (r : Bool) (t : ColumnType) {b : Bool} → path.len < 64 → b ≡ meets (nullness_in n (slice 0 below.len below.steps)) r t
      → b ≡ meets (nullness_at (inside_of (nullness_in n (slice 0 path.len path.steps))) k) r t
  step-meets n r t h g =
      g ∙ ap (λ (p : List ℕ). meets (nullness_in n p) r t) (longer h) ∙ ap (λ (m : Nullness). meets m r t) (in_further (slice 0 path.len path.steps) k n)

  -- the same, by the place one step further
  pub step_met : {plan : Bytes} {Γ : Fields} {u : DataType} → path.len < 64 → (T : TopAt plan path.top Γ)
      → Leads T.column.type (slice 0 path.len path.steps ++ (k ∷ [])) u → (N : Nullnesses) (r : Bool) (t : ColumnType) {b : Bool}
      → ((S : PlaceAt plan below.top Γ (slice 0 below.len below.steps) u) → b ≡ meets
      (nullness_in (nullness_of N S.top.here.tree) (slice 0 below.len below.steps)) r t)
      → b ≡ meets (nullness_at (inside_of (nullness_in (nullness_of N T.here.tree) (slice 0 path.len path.steps))) k) r t
  unfolding further
  step_met {plan} {Γ} {u} h T L N r t {b} g =
      let f : (S : PlaceAt plan path.top Γ (slice 0 below.len below.steps) u) → b ≡ meets
      (nullness_in (nullness_of N S.top.here.tree) (slice 0 below.len below.steps)) r t =
      subst (λ (n : ℕ). (S : PlaceAt plan n Γ (slice 0 below.len below.steps) u)
      → b ≡ meets (nullness_in (nullness_of N S.top.here.tree) (slice 0 below.len below.steps)) r t) same-top g in
      step-meets (nullness_of N T.here.tree) r t h (f (further h T L))

-- the same of a list's or array's element
module _ (path : TopPath) {below : TopPath} (room : length path.steps ≡ 64) (e : below ≡ part_path path 0) (short : path.len < 64) {y : Edition} {d : ℕ}
    {s : Bytes} {at : ℕ} (Q : ElementTypeAt y d s at) {q : Labelled} (g : label_res s q ≡ element_label y s at) {l : LabelSpan} {a : Cursor}
    (k : q ≡ Labelled.Is l a) {plan : Bytes} {Γ : Fields} (E : ElementAt plan path.top Γ (slice 0 path.len path.steps) (dtype_of Q.type.tree)) where
  pub element_place : PlaceAt plan below.top Γ (slice 0 below.len below.steps) (dtype_of (element-type Q g k).tree)
  unfolding element-type
  element_place = step_place path 0 room e short E.top E.leads

  pub element-met : (N : Nullnesses) {b : Bool}
      → ((T : TypeAt y d s a.at) (S : PlaceAt plan below.top Γ (slice 0 below.len below.steps) (dtype_of T.tree))
      → b ≡ meets (nullness_in (nullness_of N S.top.here.tree) (slice 0 below.len below.steps)) l.required T.tree)
      → b ≡ meets (nullness_at (inside_of (nullness_in (nullness_of N E.top.here.tree) (slice 0 path.len path.steps))) 0) Q.label.required
      Q.type.tree
  unfolding element-type
  element-met N x =
      let n = nullness_at (inside_of (nullness_in (nullness_of N E.top.here.tree) (slice 0 path.len path.steps))) 0 in
      step_met path 0 room e short E.top E.leads N l.required Q.type.tree (λ S. x (element-type Q g k) S)
      ∙ ap (λ (m : Label). meets n m.required Q.type.tree) (sym (element_label_lem Q g k))

-- ---- by what a type begins with

and_first : {a b c : Bool} → a ≡ true → c ≡ b → c ≡ (a && b)
and_first e h = h ∙ rw e

and_none : {a : Bool} (b : Bool) → a ≡ false → false ≡ (a && b)
and_none b e = rw e

-- the top place does not pass
pub top_fails : (n : Nullness) (r : Bool) (t : ColumnType) {a : Bool} → a ≡ allowed (top_of n) r → a ≡ false → false ≡ meets n r t
unfolding meets
top_fails n r (cleaf l) g e = sym e ∙ g
top_fails n r (cstruct cs) g e = and_none _ (sym g ∙ e)
top_fails n r (clist l t) g e = and_none _ (sym g ∙ e)
top_fails n r (carray w l t) g e = and_none _ (sym g ∙ e)

-- the type at the end of a path goes on
module _ {plan : Bytes} {top : ℕ} {Γ : Fields} {p : List ℕ} {t : ColumnType} (S : PlaceAt plan top Γ p (dtype_of t)) where
  pub ends_at : {u : ColumnType} → t ≡ u → Leads S.top.column.type p (dtype_of u)
  ends_at e = subst (λ (u : ColumnType). Leads S.top.column.type p (dtype_of u)) e S.leads

  unfoldable pub struct-place : {cs : Columns} → t ≡ cstruct cs → PlaceAt plan top Γ p (struct (fields_of cs))
  unfolding dtype_of
  struct-place e = record { top = S.top; leads = ends_at e }

  unfoldable pub list-place : {l : Label} {u : ColumnType} → t ≡ clist l u → ElementAt plan top Γ p (dtype_of u)
  unfolding dtype_of
  list-place e = record { top = S.top; leads = leads-more (ends_at e) (l_list l_here) }

  unfoldable pub array-place : {w : ℕ} {l : Label} {u : ColumnType} → t ≡ carray w l u → ElementAt plan top Γ p (dtype_of u)
  unfolding dtype_of
  array-place e = record { top = S.top; leads = leads-more (ends_at e) (l_array l_here) }

meets_as : (n : Nullness) (r : Bool) {t u : ColumnType} {b : Bool} → u ≡ t → b ≡ meets n r t → b ≡ meets n r u
meets_as n r f k = k ∙ sym (ap (meets n r) f)

module _ {y : Edition} {d : ℕ} {s : Bytes} {at : ℕ} (Q : TypeAt y d s at) {h : Head} (e : head_res s h ≡ kind s at) {plan : Bytes} {top : ℕ} {Γ : Fields}
    {p : List ℕ}
    (S : PlaceAt plan top Γ p (dtype_of Q.tree)) (N : Nullnesses) (r : Bool) {a : Bool}
    (g : a ≡ allowed (top_of (nullness_in (nullness_of N S.top.here.tree) p)) r) (q : a ≡ true) where
  pub leaf-meets : {l : LeafSpan} {c : Cursor} → h ≡ Head.Leaf l c → true ≡ meets (nullness_in (nullness_of N S.top.here.tree) p) r Q.tree
  unfolding meets
  leaf-meets f = meets_as _ r (leaf_at_lem Q e f).0 (sym q ∙ g)

  pub struct-meets : {m : ℕ} {c : Cursor} {b : Bool} → h ≡ Head.Struct m c
      → ((D : ColumnsAt y (d - 1) s m c.at) (F : PlaceAt plan top Γ p (struct (fields_of D.columns))) → b ≡ meets_all
      (inside_of (nullness_in (nullness_of N F.top.here.tree) p)) D.columns)
      → b ≡ meets (nullness_in (nullness_of N S.top.here.tree) p) r Q.tree
  unfolding meets struct-place
  struct-meets f k = let I = struct_at Q e f in meets_as _ r I.is (and_first (sym g ∙ q) (k I.inner (struct-place S I.is)))

  module _ {c : Cursor} {b : Bool}
      (k : (T : ElementTypeAt y (d - 1) s c.at) (E : ElementAt plan top Γ p (dtype_of T.type.tree))
      → b ≡ meets (nullness_at (inside_of (nullness_in (nullness_of N E.top.here.tree) p)) 0) T.label.required T.type.tree) where
    pub list-meets : h ≡ Head.List c → b ≡ meets (nullness_in (nullness_of N S.top.here.tree) p) r Q.tree
    unfolding meets list-place
    list-meets z = let (T, i) = list_element_lem Q e z in meets_as _ r i (and_first (sym g ∙ q) (k T (list-place S i)))

    pub array-meets : {w : ℕ} → h ≡ Head.Array w c → b ≡ meets (nullness_in (nullness_of N S.top.here.tree) p) r Q.tree
    unfolding meets array-place
    array-meets z = let (T, i) = array_element_lem Q e z in meets_as _ r i (and_first (sym g ∙ q) (k T (array-place S i)))

-- ---- the loop over a struct's columns: the first i of m pass

pub record Fielding (y : Edition) (d : ℕ) (s : Bytes) (m : ℕ) (ns : Nullnesses) (cs : Columns) (i at : ℕ) : Type 0 where
  pub within : i ≤ m
  pub left : ColumnsAt y d s (m - i) at
  pub same : meets_all ns cs ≡ meets_all (drop_places i ns) left.columns
  pub fields : (k : ℕ) (c : Column) → column_at (fields_of left.columns) k ≡ gives c → column_at (fields_of cs) (i + k) ≡ gives c

pub fielding_start : {y : Edition} {d : ℕ} {s : Bytes} {m c : ℕ} (D : ColumnsAt y d s m c) (ns : Nullnesses) → Fielding y d s m ns D.columns 0 c
unfolding drop_places
fielding_start {y} {d} {s} {m} {c} D ns = record {
  within = omega arith;
  left = record {
    columns = D.columns;
    end = D.end;
    reads = ap (λ (k : ℕ). columns_of_of y Free (type y Free d) k [] s c)
        (let e : m - 0 ≡ m = omega arith in e) ∙ D.reads;
  };
  same = refl;
  fields = λ k c e. ap (column_at (fields_of D.columns)) (let z : 0 + k ≡ k = omega arith in z) ∙ e;
}

module _ {y : Edition} {d : ℕ} {s : Bytes} {m : ℕ} {ns : Nullnesses} {cs : Columns} {i at : ℕ} (F : Fielding y d s m ns cs i at) where
  pub fielding_all : m ≤ i → true ≡ meets_all ns cs
  fielding_all h = sym (F.same ∙ none_left ns i (no_column F.left (omega arith)).0)

  module _ (lt : i < m) {q : Labelled} (g : label_res s q ≡ label y s at) where
    pub fielding_labelled : {B : Type 0} {k : ℕ} → q ≡ Labelled.Refused k → B
    fielding_labelled h = first-labelled F.left (λ z. absurd (omega arith)) g h

    module _ {l : LabelSpan} {e : Cursor} (h : q ≡ Labelled.Is l e) where
      unfoldable pub field : FirstAt y d s (m - i) at F.left (label_at s l) e.at
      field = first-at F.left (λ z. absurd (omega arith)) g h

      pub field_found : column_at (fields_of cs) i ≡ gives (column (label_at s l).name (dtype_of field.head.tree))
      unfolding column_at fields_of field
      field_found =
          ap (column_at (fields_of cs)) (let z : i ≡ i + 0 = omega arith in z)
          ∙ F.fields 0 _ (ap (λ (ds : Columns). column_at (fields_of ds) 0) (first-at F.left (λ z. absurd (omega arith)) g h).is)

      module _ {plan : Bytes} {Γ : Fields} (path : TopPath) (S : PlaceAt plan path.top Γ (slice 0 path.len path.steps) (struct (fields_of cs)))
          {below : TopPath}
          (room : length path.steps ≡ 64) (o : below ≡ part_path path i) (short : path.len < 64) where
        pub field-place : PlaceAt plan below.top Γ (slice 0 below.len below.steps) (dtype_of field.head.tree)
        field-place = step_place path i room o short S.top (leads-more S.leads (l_field field_found l_here))

        module _ (N : Nullnesses) (w : ns ≡ inside_of (nullness_in (nullness_of N S.top.here.tree) (slice 0 path.len path.steps))) {b : Bool}
            (x : (T : TypeAt y d s e.at) (E : PlaceAt plan below.top Γ (slice 0 below.len below.steps) (dtype_of T.tree))
            → b ≡ meets (nullness_in (nullness_of N E.top.here.tree) (slice 0 below.len below.steps)) l.required T.tree) where
          met : b ≡ meets (nullness_at ns i) l.required field.head.tree
          met =
              step_met path i room o short S.top (leads-more S.leads (l_field field_found l_here)) N l.required field.head.tree
              (λ E. x field.head E)
              ∙ ap (λ (z : Nullnesses). meets (nullness_at z i) l.required field.head.tree) (sym w)

          whole : meets_all ns cs ≡ (b && meets_all (drop_places (i + 1) ns) field.tail.columns)
          whole = F.same ∙ next-meets ns i field.is ∙ ap (λ (z : Bool). z && meets_all (drop_places (i + 1) ns) field.tail.columns) (sym met)

          pub fielding-fails : b ≡ false → false ≡ meets_all ns cs
          fielding-fails k = sym (whole ∙ ap (λ (z : Bool). z && meets_all (drop_places (i + 1) ns) field.tail.columns) k)

          pub fielding-more : b ≡ true → {n : ℕ} → ((T : TypeAt y d s e.at) → n ≡ T.end) → Fielding y d s m ns cs (i + 1) n
          unfolding column_at fields_of
          fielding-more k {n} f =
              let A = field in
              let u : m - (i + 1) ≡ m - i - 1 = omega arith in
              record {
                within = omega arith;
                left = record {
                  columns = A.tail.columns;
                  end = A.tail.end;
                  reads = ap (λ (j : ℕ). columns_of_of y Free (type y Free d) j [] s n) u ∙ ap
                      (λ (z : ℕ). columns_of_of y Free (type y Free d) (m - i - 1) [] s z) (f A.head) ∙ A.tail.reads;
                };
                same = whole ∙ ap (λ (z : Bool). z && meets_all (drop_places (i + 1) ns) A.tail.columns) k;
                fields = λ j c z.
                    ap (column_at (fields_of cs)) (let v : i + 1 + j ≡ i + suc j = omega arith in v) ∙ F.fields (suc j) c
                    (ap (λ (ds : Columns). column_at (fields_of ds) (suc j)) A.is ∙ z);
              }

-- of all that stand there
abbrev pub Fieldings : Bytes → ColumnRange → Bytes → TopPath → Edition → ℕ → Bytes → ℕ → ℕ → ℕ → ℕ → Type 0
Fieldings incoming columns plan path y d tgt m c i at =
    (P : ColumnsIn incoming columns) (D : ColumnsAt y d tgt m c)
    (S : PlaceAt plan path.top (fields_of P.columns) (slice 0 path.len path.steps) (struct (fields_of D.columns)))
    → Fielding y d tgt m (inside_of (nullness_in (nullness_of (givens P.columns) S.top.here.tree) (slice 0 path.len path.steps))) D.columns i at

-- ---- the columns of a plan: b is whether what is left passes

pub record Columning (plan : Bytes) (Γ : Fields) (N : Nullnesses) (y : Edition) (tgt : Bytes) (m : ℕ) (b : Bool) (at to i : ℕ) : Type 0 where
  pub pairing : Pairing plan Γ y tgt m at to i
  pub is : meets_all (nullnesses_of N pairing.selectors.trees) pairing.columns.columns ≡ b

none-meets : (N : Nullnesses) (ss : Selectors) (cs : Columns) → ss ≡ snil → cs ≡ cnil → meets_all (nullnesses_of N ss) cs ≡ true
unfolding nullnesses_of meets_all
none-meets N ss cs e f = rw (e, f)

first-meets : (N : Nullnesses) (ss : Selectors) (cs : Columns) {s : Selector} {rs : Selectors} {l : Label} {t : ColumnType} {ds : Columns} → ss ≡ scons
    s rs → cs ≡ ccons l t ds
    → meets_all (nullnesses_of N ss) cs ≡ (meets (nullness_of N s) l.required t && meets_all (nullnesses_of N rs) ds)
unfolding nullnesses_of meets_all
first-meets N ss cs e f = rw (e, f)

module _ {plan : Bytes} {Γ : Fields} {N : Nullnesses} {y : Edition} {tgt : Bytes} {m : ℕ} {b : Bool} {at to i : ℕ}
    (C : Columning plan Γ N y tgt m b at to i) where
  pub columning_all : m ≤ i → true ≡ b
  columning_all h = let (e, f) = no_pair C.pairing h in sym (none-meets N _ _ e f) ∙ C.is

  module _ (lt : i < m) {q : Labelled} (g : label_res tgt q ≡ label y tgt to) {l : LabelSpan} {e : Cursor} (h : q ≡ Labelled.Is l e) where
    unfoldable pub column-place : PlaceAt plan at Γ [] (dtype_of (next C.pairing lt g h).field.head.tree)
    unfolding column-top
    column-place = record { top = column-top C.pairing lt g h; leads = l_here }

    module _ {r : Bool} (x : (T : TypeAt y 16 tgt e.at) (S : PlaceAt plan at Γ [] (dtype_of T.tree))
        → r ≡ meets (nullness_in (nullness_of N S.top.here.tree) []) l.required T.tree) where
      column-met : r ≡ meets (nullness_of N (next C.pairing lt g h).selector.head.tree) l.required (next C.pairing lt g h).field.head.tree
      unfolding column-place column-top nullness_in
      column-met = x (next C.pairing lt g h).field.head column-place

      all-met : b ≡ (r && meets_all (nullnesses_of N (next C.pairing lt g h).selector.tail.trees) (next C.pairing lt g h).field.tail.columns)
      all-met =
          let M = next C.pairing lt g h in
          sym C.is ∙ first-meets N _ _ M.selector.is M.field.is
          ∙ ap (λ (z : Bool). z && meets_all (nullnesses_of N M.selector.tail.trees) M.field.tail.columns) (sym column-met)

      pub columning-fails : r ≡ false → false ≡ b
      columning-fails k = sym (all-met ∙ ap (λ (z : Bool). z && meets_all (nullnesses_of N (next C.pairing lt g h).selector.tail.trees)
          (next C.pairing lt g h).field.tail.columns) k)

      pub columning-more : r ≡ true → {o u : ℕ} → ((P : SelectorAt plan at) → o ≡ P.end) → ((P : TypeAt y 16 tgt e.at) → u ≡ P.end) → Columning
          plan Γ N y tgt m b o u (i + 1)
      unfolding pair-more
      columning-more k f w = record {
        pairing = pair-more C.pairing lt g h f w;
        is = sym (all-met ∙ ap (λ (z : Bool). z && meets_all (nullnesses_of N (next C.pairing lt g h).selector.tail.trees)
            (next C.pairing lt g h).field.tail.columns) k);
      }

-- of all that stand there
abbrev pub Columnings : Bytes → ColumnRange → Bytes → ℕ → Bytes → Edition → ℕ → ℕ → ℕ → ℕ → ℕ → Type 0
Columnings incoming columns plan first tgt y m target at to i =
    (P : ColumnsIn incoming columns) (D : ColumnsAt y 16 tgt m target) (S : PlanAt plan first (fields_of P.columns) (fields_of D.columns))
    → Columning plan (fields_of P.columns) (givens P.columns) y tgt m (meets_all (nullnesses_of (givens P.columns) S.selectors.trees)
    D.columns) at to i

pub columning_start : (incoming : Bytes) (columns : ColumnRange) (plan : Bytes) (first : ℕ) (tgt : Bytes) (y : Edition) (m target : ℕ) → AllBytes plan
    → Columnings incoming columns plan first tgt y m target first target 0
unfolding pair-start
columning_start incoming columns plan first tgt y m target o P D S = record { pairing = pair-start o D S; is = refl }
