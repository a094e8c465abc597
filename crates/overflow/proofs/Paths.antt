-- The paths to the date-time leaves of a type that stands in a layout, and what holds while they are asked for. Assumes
-- nothing.
use Prim.Native.Nat.{ℕ, ◌+◌, ◌-◌, ◌≤◌, ◌<◌}
use mathlib.Core.Path.{◌≡◌, refl, sym, ap, ◌∙◌, subst}
use mathlib.Core.Bool.{Bool, true, false, ◌||◌}
use mathlib.Core.List.{List, [], ◌∷◌, ◌++◌, append-nil, append_assoc}
use native.Mathlib.Omega.{arith}
use native.Mathlib.Numerals.{add-one}
use lib.ListN.{length, set, length-set, length-replicate}
use lib.Seq.{slice, take-suc-set}
use Rattle.layout.specs.Bytes.{Bytes}
use Rattle.layout.specs.Tree.{leaf_of, Label, DataType, Fields, ColumnType, Columns, cnil, ccons, dtype_of, fields_of}
use Rattle.layout.specs.Layout.{kind, label, element_label, columns as columns_of_of, type}
use Rattle.layout.specs.code.Answers.{head_res, leaf_at, label_res, label_at}
use Rattle.layout.specs.code.Stands.{TypeAt, ColumnsAt}
use Rattle.layout.specs.declared.leaf.TimeUnit.{TimeUnit}
use Rattle.layout.specs.declared.cursor.Cursor.{Cursor}
use Rattle.layout.specs.declared.types.Head.{Head}
use Rattle.layout.specs.declared.types.LeafType.{LeafType as LeafSpan}
use Rattle.layout.specs.declared.columns.Label.{Label as LabelSpan}
use Rattle.layout.specs.declared.columns.Labelled.{Labelled}
use Rattle.layout.specs.declared.columns.Siblings.TheVariants.{Free}
use Rattle.layout.specs.declared.edition.Edition.{Edition}
use Rattle.layout.proofs.View.{leaf_at_lem, struct_at, FirstAt, first-at, first-labelled, no_column, same-columns}
use Rattle.layout.proofs.Leaves.{leaf_of-type}
use Rattle.values.specs.Value.{Values}
use Rattle.plan.specs.Run.{eval}
use Rattle.layout.specs.declared.columns.ColumnRange.{ColumnRange}
use Rattle.nodes.specs.declared.places.TopPath.{TopPath}
use Rattle.walk.specs.code.State.{state}
use Rattle.walk.specs.code.Walks.{e_none, WalkAt}
use Rattle.walk.specs.declared.walk.Walk.{Walk}
use Rattle.overflow.specs.code.Ranges.{RecordAt}
use Rattle.overflow.specs.code.Want.{Small, widest, overflowing, time_of}
use Rattle.overflow.specs.code.Some.{some}
use Rattle.overflow.specs.code.Leaves.{at_leaf, leaves, leaves_from}
use Rattle.overflow.specs.code.Seek.{Seeks}
use Rattle.overflow.specs.code.Overflows.{TopAt, ElementTypeAt, over_at, part_path, started}
use Rattle.overflow.specs.declared.want.Timed.{Timed}
use Rattle.overflow.specs.declared.want.Timed.TheVariants.{In, Never}
use Rattle.overflow.proofs.Elements.{list_element_lem, array_element_lem, element-type, element-tree}

-- ---- a step more of a path

module _ (path : TopPath) (k : ℕ) {below : TopPath} (room : length path.steps ≡ 64) (e : below ≡ part_path path k) where
  longer : path.len < 64 → slice 0 (path.len + 1) (set path.steps path.len k) ≡ slice 0 path.len path.steps ++ (k ∷ [])
  longer h = rw add-one (take-suc-set path.steps path.len k (omega arith))

  pub step_top : {plan : Bytes} {Γ : Fields} → TopAt plan path.top Γ → TopAt plan below.top Γ
  step_top {plan} {Γ} T = subst (λ (z : TopPath). TopAt plan z.top Γ) (sym e) T

  pub step_leaves : {plan : Bytes} {Γ : Fields} (ρ : Values) (T : TopAt plan path.top Γ) (t : DataType) {r : Bool} → path.len < 64
      → ((S : TopAt plan below.top Γ) → r ≡ leaves t (λ p u. over_at ρ S.here.tree below.steps below.len p u))
      → r ≡ leaves t (λ p u. over_at ρ T.here.tree path.steps path.len (k ∷ p) u)
  step_leaves {plan} {Γ} ρ T t {r} h g =
      let f : (S : TopAt plan path.top Γ) → r ≡ leaves t (λ p u. over_at ρ S.here.tree (set path.steps path.len k) (path.len + 1) p u) =
      subst (λ (z : TopPath). (S : TopAt plan z.top Γ) → r ≡ leaves t (λ p u. over_at ρ S.here.tree z.steps z.len p u)) e g in
      f T ∙ (λ i. leaves t (λ p u.
      some (overflowing u) ((ap (λ (q : List ℕ). q ++ p) (longer h) ∙ append_assoc (slice 0 path.len path.steps) (k ∷ []) p) i) (eval ρ T.here.tree)))

  pub step_room : length below.steps ≡ 64
  step_room = ap (λ (z : TopPath). length z.steps) e ∙ length-set path.steps path.len k ∙ room

  pub step_deep : (d : ℕ) → path.len + 1 + d ≤ 16 → below.len + d ≤ 16
  step_deep d h = let q : below.len ≡ path.len + 1 = ap (λ (z : TopPath). z.len) e in omega (arith, q, h)

-- ---- the walk to a leaf

pub widest-small : Small widest
widest-small = record { above = omega arith; below = omega arith }

module _ {plan : Bytes} {top : ℕ} {Γ : Fields} (T : TopAt plan top Γ) {path : List ℕ} {len : ℕ} (room : length path ≡ 64) (short : len ≤ 64) where
  pub standing : WalkAt plan (started top (length plan) path len) (state T.here.tree [] (slice 0 len path))
  standing = record {
    here = T.here;
    selector = refl;
    ends = T.ends;
    bound = omega arith;
    small = T.small;
    entries = e_none;
    deep = omega arith;
    short = short;
    room = (length-replicate {A = ℕ} 64 0, room);
    path = refl;
  }

  module _ {w : Walk} (e : w ≡ started top (length plan) path len) where
    pub leaf_seeks : Seeks plan w Γ
    leaf_seeks = record {
      selector = T.here.tree;
      path = slice 0 len path;
      standing = subst (λ (z : Walk). WalkAt plan z (state T.here.tree [] (slice 0 len path))) (sym e) standing;
      column = T.column;
      passes = T.passes;
    }

    pub leaf-over : (ρ : Values) (u : TimeUnit) {b : Bool} → ((S : Seeks plan w Γ) → b ≡ some (overflowing u) S.path (eval ρ S.selector)) → b ≡
        over_at ρ T.here.tree path len [] u
    unfolding leaf_seeks
    leaf-over ρ u h = h leaf_seeks ∙ ap (λ (p : List ℕ). some (overflowing u) p (eval ρ T.here.tree)) (sym (append-nil (slice 0 len path)))

-- ---- by what a type begins with

time_kind : (s : Bytes) (l : LeafSpan) {q : Timed} → q ≡ time_of l.leaf → q ≡ time_of (leaf_of (leaf_at s l))
time_kind s l g = g ∙ sym (ap time_of (leaf_of-type l.leaf _))

leaves_as : (f : List ℕ → TimeUnit → Bool) {t u : ColumnType} {b : Bool} → t ≡ u → b ≡ leaves (dtype_of u) f → b ≡ leaves (dtype_of t) f
leaves_as f h g = g ∙ sym (ap (λ (t : ColumnType). leaves (dtype_of t) f) h)

module _ {v : Edition} {d : ℕ} {s : Bytes} {at : ℕ} (Q : TypeAt v d s at) {p : Head} (e : head_res s p ≡ kind s at) (f : List ℕ → TimeUnit → Bool) where
  module _ {l : LeafSpan} {c : Cursor} (h : p ≡ Head.Leaf l c) {q : Timed} (g : q ≡ time_of l.leaf) where
    pub time_leaves : {u : TimeUnit} {b : Bool} → q ≡ In u → b ≡ f [] u → b ≡ leaves (dtype_of Q.tree) f
    unfolding leaves dtype_of at_leaf
    time_leaves k x = leaves_as f (leaf_at_lem Q e h).0 (x ∙ ap (λ (t : Timed). at_leaf t f) (sym k ∙ time_kind s l g))

    pub never_leaves : q ≡ Never → false ≡ leaves (dtype_of Q.tree) f
    unfolding leaves dtype_of at_leaf
    never_leaves k = leaves_as f (leaf_at_lem Q e h).0 (ap (λ (t : Timed). at_leaf t f) (sym k ∙ time_kind s l g))

  pub struct-leaves : {n : ℕ} {c : Cursor} {b : Bool} → p ≡ Head.Struct n c → ((D : ColumnsAt v (d - 1) s n c.at) → b ≡ leaves_from
      (fields_of D.columns) 0 f) → b ≡ leaves (dtype_of Q.tree) f
  unfolding leaves dtype_of
  struct-leaves h g = let S = struct_at Q e h in leaves_as f S.is (g S.inner)

  module _ {c : Cursor} {b : Bool} (x : (E : ElementTypeAt v (d - 1) s c.at) → b ≡ leaves (dtype_of E.type.tree) (λ p u. f (0 ∷ p) u)) where
    pub list-leaves : p ≡ Head.List c → b ≡ leaves (dtype_of Q.tree) f
    unfolding leaves dtype_of
    list-leaves h = let (E, g) = list_element_lem Q e h in leaves_as f g (x E)

    pub array-leaves : {w : ℕ} → p ≡ Head.Array w c → b ≡ leaves (dtype_of Q.tree) f
    unfolding leaves dtype_of
    array-leaves h = let (E, g) = array_element_lem Q e h in leaves_as f g (x E)

-- of a list's or array's element
pub element-leaves : {v : Edition} {d : ℕ} {s : Bytes} {at : ℕ} (E : ElementTypeAt v d s at) {q : Labelled} → label_res s q ≡ element_label v s at
    → {l : LabelSpan} {a : Cursor} → q ≡ Labelled.Is l a → (f : List ℕ → TimeUnit → Bool) {b : Bool}
    → ((T : TypeAt v d s a.at) → b ≡ leaves (dtype_of T.tree) f) → b ≡ leaves (dtype_of E.type.tree) f
element-leaves E g k f x = leaves_as f (sym (element-tree E g k)) (x (element-type E g k))

-- ---- the loop over a struct's columns: none of the first i of n has one

pub record Fielding (v : Edition) (d : ℕ) (s : Bytes) (n c : ℕ) (f : List ℕ → TimeUnit → Bool) (i at : ℕ) : Type 0 where
  pub within : i ≤ n
  pub whole : ColumnsAt v d s n c
  pub left : ColumnsAt v d s (n - i) at
  pub same : leaves_from (fields_of whole.columns) 0 f ≡ leaves_from (fields_of left.columns) i f

pub fielding_none : {v : Edition} {d : ℕ} {s : Bytes} {n c : ℕ} (f : List ℕ → TimeUnit → Bool) → ColumnsAt v d s n c → Fielding v d s n c f 0 c
fielding_none {v} {d} {s} {n} {c} f P = record {
  within = omega arith;
  whole = P;
  left = record {
    columns = P.columns;
    end = P.end;
    reads = ap (λ (k : ℕ). columns_of_of v Free (type v Free d) k [] s c)
        (let e : n - 0 ≡ n = omega arith in e) ∙ P.reads;
  };
  same = refl;
}

from-none : (cs : Columns) (i : ℕ) (f : List ℕ → TimeUnit → Bool) → cs ≡ cnil → leaves_from (fields_of cs) i f ≡ false
unfolding leaves_from fields_of
from-none cs i f e = rw e

from_first : (cs : Columns) (i : ℕ) (f : List ℕ → TimeUnit → Bool) {l : Label} {t : ColumnType} {ds : Columns} → cs ≡ ccons l t ds
    → leaves_from (fields_of cs) i f ≡ (leaves (dtype_of t) (λ p u. f (i ∷ p) u) || leaves_from (fields_of ds) (i + 1) f)
unfolding leaves_from fields_of
from_first cs i f e = rw (e, add-one i)

or_true : {a : Bool} (b : Bool) → a ≡ true → (a || b) ≡ true
or_true b e = rw e

or-false : {a : Bool} (b : Bool) → a ≡ false → (a || b) ≡ b
or-false b e = rw e

module _ {v : Edition} {d : ℕ} {s : Bytes} {n c : ℕ} {f : List ℕ → TimeUnit → Bool} {i at : ℕ} (F : Fielding v d s n c f i at) where
  fielded : (Q : ColumnsAt v d s n c) → leaves_from (fields_of Q.columns) 0 f ≡ leaves_from (fields_of F.left.columns) i f
  fielded Q = ap (λ (cs : Columns). leaves_from (fields_of cs) 0 f) (same-columns Q F.whole).0 ∙ F.same

  pub fielding_all : n ≤ i → (Q : ColumnsAt v d s n c) → false ≡ leaves_from (fields_of Q.columns) 0 f
  fielding_all h Q = sym (fielded Q ∙ from-none F.left.columns i f (no_column F.left (omega arith)).0)

  module _ (lt : i < n) {q : Labelled} (g : label_res s q ≡ label v s at) where
    pub fielding_labelled : {B : Type 0} {k : ℕ} → q ≡ Labelled.Refused k → B
    fielding_labelled h = first-labelled F.left (λ z. absurd (omega arith)) g h

    module _ {l : LabelSpan} {e : Cursor} (h : q ≡ Labelled.Is l e) where
      field : FirstAt v d s (n - i) at F.left (label_at s l) e.at
      field = first-at F.left (λ z. absurd (omega arith)) g h

      pub fielding-type : TypeAt v d s e.at
      fielding-type = field.head

      module _ {r : Bool} (x : (P : TypeAt v d s e.at) → r ≡ leaves (dtype_of P.tree) (λ p u. f (i ∷ p) u)) where
        pub fielding-found : r ≡ true → (Q : ColumnsAt v d s n c) → true ≡ leaves_from (fields_of Q.columns) 0 f
        fielding-found k Q = sym (fielded Q ∙ from_first F.left.columns i f field.is ∙ or_true _ (sym (x field.head) ∙ k))

        pub fielding-more : r ≡ false → {m : ℕ} → ((P : TypeAt v d s e.at) → m ≡ P.end) → Fielding v d s n c f (i + 1) m
        fielding-more k {m} w =
            let A = field in
            let u : n - (i + 1) ≡ n - i - 1 = omega arith in
            record {
              within = omega arith;
              whole = F.whole;
              left = record {
                columns = A.tail.columns;
                end = A.tail.end;
                reads = ap (λ (j : ℕ). columns_of_of v Free (type v Free d) j [] s m) u ∙ ap
                    (λ (o : ℕ). columns_of_of v Free (type v Free d) (n - i - 1) [] s o) (w A.head) ∙ A.tail.reads;
              };
              same = F.same ∙ from_first F.left.columns i f A.is ∙ or-false _ (sym (x A.head) ∙ k);
            }

-- of all that stand there
abbrev pub Fieldings : Bytes → ColumnRange → Bytes → Bytes → TopPath → Edition → ℕ → Bytes → ℕ → ℕ → ℕ → ℕ → Type 0
Fieldings lay columns rec plan path y d tgt m c i at =
    (X : RecordAt lay columns rec) (T : TopAt plan path.top (fields_of X.columns.columns))
    → Fielding y d tgt m c (λ p u. over_at X.values.values T.here.tree path.steps path.len p u) i at
