-- What the functions of src/cast.rt answer on each way. Assumes nothing.
use Prim.Native.Nat.{ℕ, ◌+◌, ◌-◌}
use mathlib.Core.Path.{◌≡◌, refl, sym, ap, ◌∙◌, subst}
use mathlib.Core.Bool.{Bool, true, false, ◌&&◌}
use native.Mathlib.Nat.{add-sub_cancel_left}
use lib.ListN.{take, drop}
use lib.Dec.{eqb}
use Rattle.layout.specs.Bytes.{Bytes}
use Rattle.layout.specs.Parser.{ok}
use Rattle.layout.specs.Tree.{LeafType, leaf_type, leaf_of, DataType, leaf, struct, list, array, dtype_of}
use Rattle.layout.specs.Layout.{Head, kind, a_leaf, a_struct, a_list, an_array}
use Rattle.layout.specs.code.Answers.{head_res, HeadIn, leaf_at, SpanIn}
use Rattle.layout.specs.code.Stands.{TypeAt}
use Rattle.layout.specs.declared.cursor.Cursor.{Cursor}
use Rattle.layout.specs.declared.leaf.Leaf.{Leaf}
use Rattle.layout.specs.declared.types.Head.{Head as HeadSpan}
use Rattle.layout.specs.declared.types.LeafType.{LeafType as LeafSpan}
use Rattle.layout.specs.declared.edition.Edition.{Edition}
use Rattle.layout.proofs.Ways.{clash}
use Rattle.forms.specs.code.Heads.{head_of}
use Rattle.forms.specs.code.Answers.{end_of}
use Rattle.forms.proofs.Read.{ok_eq}
use Rattle.forms.proofs.Heads.{head_at}
use Rattle.rules.specs.declared.outcome.CastOption.{CastOption}
use Rattle.rules.specs.declared.outcome.CastOption.TheVariants.{NonStrict, Strict, Overflowing}
use Rattle.rules.specs.Kinds.{kind_of}
use Rattle.rules.specs.Pairs.{cast_passes}
use Rattle.layout.proofs.Leaves.{leaf_of-type}
use Rattle.plan.specs.Check.{cast_fits_of, from_null_of}
use Rattle.plan.proofs.Results.{true≠false}

-- ---- from_null

last-true : (b : Bool) → b ≡ (b && true)
last-true true = refl
last-true false = refl

last-false : (b : Bool) → false ≡ (b && false)
last-false true = refl
last-false false = refl

pub null_nonstrict : (l : LeafType) {f : Leaf} {o : CastOption} {k : ℕ} → leaf_of l ≡ f → o ≡ NonStrict → k ≡ kind_of f → eqb k 0 ≡ from_null_of l o
unfolding from_null_of
null_nonstrict l {f} {o} {k} e g h = rw g (ap (λ (i : ℕ). eqb i 0) (h ∙ ap kind_of (sym e)) ∙ last-true (eqb (kind_of (leaf_of l)) 0))

pub null_strict : (l : LeafType) {o : CastOption} → o ≡ Strict → false ≡ from_null_of l o
unfolding from_null_of
null_strict l g = rw g (last-false (eqb (kind_of (leaf_of l)) 0))

pub null-overflowing : (l : LeafType) {o : CastOption} → o ≡ Overflowing → false ≡ from_null_of l o
unfolding from_null_of
null-overflowing l g = rw g (last-false (eqb (kind_of (leaf_of l)) 0))

-- ---- pair_passes

pub pair_spans : (s t : Bytes) (l u : LeafSpan) (o : CastOption) {x : Bool}
    → x ≡ cast_passes (leaf_type l.leaf (take (l.zone.start + l.zone.len - l.zone.start) (drop l.zone.start s)))
    (leaf_type u.leaf (take (u.zone.start + u.zone.len - u.zone.start) (drop u.zone.start t))) o
    → x ≡ cast_passes (leaf_at s l) (leaf_at t u) o
pair_spans s t l u o e =
    e ∙ ap (λ (n : ℕ). cast_passes (leaf_type l.leaf (take n (drop l.zone.start s)))
    (leaf_type u.leaf (take (u.zone.start + u.zone.len - u.zone.start) (drop u.zone.start t))) o)
    (add-sub_cancel_left l.zone.start l.zone.len)
    ∙ ap (λ (n : ℕ). cast_passes (leaf_at s l) (leaf_type u.leaf (take n (drop u.zone.start t))) o) (add-sub_cancel_left u.zone.start u.zone.len)

-- ---- what a type begins with

pub kind_of_lem : {v : Edition} {d : ℕ} {s : Bytes} {at : ℕ} (Q : TypeAt v d s at) {p q : HeadSpan} → head_res s p ≡ kind s at → p ≡ q → {k : Head} {m : ℕ} →
    head_res s q ≡ ok k m → k ≡ head_of (dtype_of Q.tree)
kind_of_lem {s = s} {at = at} Q {p} {q} e i {k} {m} g =
    let H = head_at Q {c = record { at = at }} {x = end_of (kind s at) (record { at = at })} refl refl in
    let z : ok k m ≡ ok (head_of (dtype_of Q.tree)) _ = sym (ap (head_res s) i ∙ g) ∙ e ∙ H.reads in
    (ok_eq z).0

abbrev pub is_nested : Head → Bool
is_nested (a_leaf l) = false
is_nested (a_struct n) = true
is_nested a_list = true
is_nested (an_array w) = true

pub leaf-is : (t : DataType) {m : LeafType} → a_leaf m ≡ head_of t → leaf m ≡ t
unfolding head_of
leaf-is (leaf l) {m} e = ap leaf (let q : m ≡ l = cc in q)
leaf-is (struct fs) e = clash (cc)
leaf-is (list t) e = clash (cc)
leaf-is (array w t) e = clash (cc)

-- ---- leaf_fits: by the second type's head

fits-leaf : (i : LeafType) (t : DataType) (o : CastOption) {m : LeafType} → a_leaf m ≡ head_of t → cast_passes i m o ≡ cast_fits_of (leaf i) t o
unfolding cast_fits_of
fits-leaf i t o {m} e = ap (λ (u : DataType). cast_fits_of (leaf i) u o) (leaf-is t e)

fits_nested : (i : LeafType) (t : DataType) (o : CastOption) {k : Head} → k ≡ head_of t → is_nested k ≡ true → from_null_of i o ≡ cast_fits_of (leaf i) t o
unfolding head_of cast_fits_of
fits_nested i (leaf l) o e n = true≠false n (ap is_nested e)
fits_nested i (struct fs) o e n = refl
fits_nested i (list t) o e n = refl
fits_nested i (array w t) o e n = refl

nested_passes : (l : LeafSpan) (s : Bytes) (u : DataType) (o : CastOption) {r : Bool} → ((x : LeafType) → leaf_of x ≡ l.leaf → r ≡ from_null_of x o) →
    {k : Head} → k ≡ head_of u → is_nested k ≡ true
    → r ≡ cast_fits_of (leaf (leaf_at s l)) u o
nested_passes l s u o g f n = g (leaf_at s l) (leaf_of-type l.leaf _) ∙ fits_nested (leaf_at s l) u o f n

module _ {v : Edition} {d : ℕ} {plan : Bytes} {at : ℕ} (Q : TypeAt v d plan at) {p : HeadSpan} (e : head_res plan p ≡ kind plan at) where
  pub leaf-passes : {m : LeafSpan} {c : Cursor} (i : LeafType) (o : CastOption) {r : Bool} → p ≡ HeadSpan.Leaf m c → r ≡ cast_passes i (leaf_at plan m) o
      → r ≡ cast_fits_of (leaf i) (dtype_of Q.tree) o
  leaf-passes i o f g = g ∙ fits-leaf i (dtype_of Q.tree) o (kind_of_lem Q e f refl)

  module _ (l : LeafSpan) (s : Bytes) (o : CastOption) {r : Bool} (g : (x : LeafType) → leaf_of x ≡ l.leaf → r ≡ from_null_of x o) where
    pub struct_passes : {m : ℕ} {c : Cursor} → p ≡ HeadSpan.Struct m c → r ≡ cast_fits_of (leaf (leaf_at s l)) (dtype_of Q.tree) o
    struct_passes f = nested_passes l s (dtype_of Q.tree) o g (kind_of_lem Q e f refl) refl

    pub list-passes : {c : Cursor} → p ≡ HeadSpan.List c → r ≡ cast_fits_of (leaf (leaf_at s l)) (dtype_of Q.tree) o
    list-passes f = nested_passes l s (dtype_of Q.tree) o g (kind_of_lem Q e f refl) refl

    pub array-passes : {w : ℕ} {c : Cursor} → p ≡ HeadSpan.Array w c → r ≡ cast_fits_of (leaf (leaf_at s l)) (dtype_of Q.tree) o
    array-passes f = nested_passes l s (dtype_of Q.tree) o g (kind_of_lem Q e f refl) refl

pub head_zone : (s : Bytes) {p : HeadSpan} {m : LeafSpan} {c : Cursor} → HeadIn s p → p ≡ HeadSpan.Leaf m c → SpanIn s m.zone
head_zone s h e = subst (λ (x : HeadSpan). HeadIn s x) e h

-- ---- type_fits: by the first type's head

pub nested_none : (t : DataType) {k : Head} → k ≡ head_of t → is_nested k ≡ true → (u : DataType) (o : CastOption) → false ≡ cast_fits_of t u o
unfolding head_of cast_fits_of
nested_none (leaf l) e n u o = true≠false n (ap is_nested e)
nested_none (struct fs) e n u o = refl
nested_none (list t) e n u o = refl
nested_none (array w t) e n u o = refl

module _ {v : Edition} {d : ℕ} {s : Bytes} {at : ℕ} (T : TypeAt v d s at) {p : HeadSpan} (e : head_res s p ≡ kind s at) (u : DataType) (o : CastOption) where
  pub leaf_type-fits : {l : LeafSpan} {c : Cursor} {r : Bool} → p ≡ HeadSpan.Leaf l c → r ≡ cast_fits_of (leaf (leaf_at s l)) u o → r ≡ cast_fits_of
      (dtype_of T.tree) u o
  leaf_type-fits f g = g ∙ ap (λ (t : DataType). cast_fits_of t u o) (leaf-is (dtype_of T.tree) (kind_of_lem T e f refl))

  pub struct_never : {n : ℕ} {c : Cursor} → p ≡ HeadSpan.Struct n c → false ≡ cast_fits_of (dtype_of T.tree) u o
  struct_never f = nested_none (dtype_of T.tree) (kind_of_lem T e f refl) refl u o

  pub list_never : {c : Cursor} → p ≡ HeadSpan.List c → false ≡ cast_fits_of (dtype_of T.tree) u o
  list_never f = nested_none (dtype_of T.tree) (kind_of_lem T e f refl) refl u o

  pub array_never : {w : ℕ} {c : Cursor} → p ≡ HeadSpan.Array w c → false ≡ cast_fits_of (dtype_of T.tree) u o
  array_never f = nested_none (dtype_of T.tree) (kind_of_lem T e f refl) refl u o
