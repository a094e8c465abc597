-- What is asked next where a walk stops, by what stands in the plan there. Assumes nothing.
use Prim.Native.Nat.{ℕ, ◌-◌}
use mathlib.Core.Path.{◌≡◌, refl, sym, ap, ◌∙◌}
use mathlib.Core.List.{List, [], ◌∷◌}
use native.Mathlib.Omega.{arith}
use lib.ListN.{get_or}
use Rattle.layout.specs.Bytes.{Bytes}
use Rattle.layout.specs.Tree.{ColumnType, dtype_of}
use Rattle.layout.specs.Layout.{kind, deepest}
use Rattle.layout.specs.code.Answers.{head_res}
use Rattle.layout.specs.code.Stands.{TypeAt}
use Rattle.layout.specs.declared.cursor.Cursor.{Cursor}
use Rattle.layout.specs.declared.types.Head.{Head as HeadSpan}
use Rattle.layout.specs.declared.types.LeafType.{LeafType as LeafSpan}
use Rattle.layout.specs.declared.edition.Edition.TheVariants.{One}
use Rattle.layout.proofs.Ways.{clash}
use Rattle.layout.proofs.View.{leaf_at_lem, struct_at}
use Rattle.layout.proofs.Leaves.{leaf_of-type}
use Rattle.values.specs.Reading.{value}
use Rattle.nodes.specs.code.Raw.{RawAt}
use Rattle.walk.specs.code.State.{Frame, State}
use Rattle.walk.specs.code.Walks.{Entered, e_fields, e_list, e_array, WalkAt}
use Rattle.walk.specs.declared.walk.Walk.{Walk}
use Rattle.walk.proofs.Walks.{top-frames, some-inner, innermost}
use Rattle.overflow.specs.code.Want.{time_of}
use Rattle.overflow.specs.code.Seek.{RawIn, ran_stop, time_stop, cast_stop}
use Rattle.overflow.specs.declared.want.Timed.{Timed}
use Rattle.overflow.specs.declared.want.Want.{Want}
use Rattle.overflow.specs.declared.want.Want.TheVariants.{Parts, Element}
use Rattle.overflow.specs.declared.stop.Stop.{Stop}
use Rattle.overflow.specs.declared.stop.Stop.TheVariants.{No, Yes, Outward}
use Rattle.overflow.proofs.Elements.{list_element_lem, array_element_lem}

-- ---- a constant's value, after its type

pub record RawOf (plan : Bytes) (t : ℕ) (X : RawIn plan t) (c : ℕ) : Type 0 where
  pub raw : RawAt One plan t plan c
  pub is : raw.value.tree ≡ X.value.tree

pub raw_of : {plan : Bytes} {t : ℕ} (X : RawIn plan t) {c : ℕ} → c ≡ X.type.end → RawOf plan t X c
raw_of {plan} X e = record {
  raw = record {
    type = X.type;
    value = record { tree = X.value.tree; end = X.value.end; reads = ap (λ (o : ℕ). value (dtype_of X.type.tree) plan o) e ∙ X.value.reads };
  };
  is = refl;
}

-- ---- a cast, by its type

module _ {s : Bytes} {t : ℕ} (T : TypeAt One deepest s t) {p : HeadSpan} (e : head_res s p ≡ kind s t) (w : Want) where
  pub cast_leaf_lem : {l : LeafSpan} {b : Cursor} → p ≡ HeadSpan.Leaf l b → {q : Timed} {r : Stop} → q ≡ time_of l.leaf → r ≡ time_stop q w → r ≡ cast_stop
      [] (dtype_of T.tree) w
  unfolding cast_stop dtype_of
  cast_leaf_lem {l} f g h =
      h ∙ ap (λ (q : Timed). time_stop q w) (g ∙ sym (ap time_of (leaf_of-type l.leaf _))) ∙ sym
      (ap (λ (c : ColumnType). cast_stop [] (dtype_of c) w) (leaf_at_lem T e f).0)

  pub cast-struct : {n : ℕ} {b : Cursor} → p ≡ HeadSpan.Struct n b → No ≡ cast_stop [] (dtype_of T.tree) w
  unfolding cast_stop dtype_of
  cast-struct f = sym (ap (λ (c : ColumnType). cast_stop [] (dtype_of c) w) (struct_at T e f).is)

  pub cast-list : {b : Cursor} → p ≡ HeadSpan.List b → No ≡ cast_stop [] (dtype_of T.tree) w
  unfolding cast_stop dtype_of
  cast-list f = sym (ap (λ (c : ColumnType). cast_stop [] (dtype_of c) w) (list_element_lem T e f).1)

  pub cast-array : {n : ℕ} {b : Cursor} → p ≡ HeadSpan.Array n b → No ≡ cast_stop [] (dtype_of T.tree) w
  unfolding cast_stop dtype_of
  cast-array f = sym (ap (λ (c : ColumnType). cast_stop [] (dtype_of c) w) (array_element_lem T e f).1)

-- ---- whether a constant is run, by the innermost mapping's code

code-fields : {plan : Bytes} {m i p : ℕ} {f : Frame} (E : List Frame) → Entered plan m i p f → get_or plan m 0 ≡ 4 → Outward Parts ≡ ran_stop (f ∷ E)
unfolding ran_stop
code-fields E (e_fields c P e l) h = refl
code-fields E (e_list c P e l) h = clash (omega arith)
code-fields E (e_array c P e l) h = clash (omega arith)

code_other : {plan : Bytes} {m i p : ℕ} {f : Frame} (E : List Frame) → Entered plan m i p f → (get_or plan m 0 ≡ 4 → ⊥) → Outward Element ≡ ran_stop (f ∷ E)
unfolding ran_stop
code_other E (e_fields c P e l) h = absurd (h c)
code_other E (e_list c P e l) h = refl
code_other E (e_array c P e l) h = refl

module _ {plan : Bytes} {w : Walk} {x : State} (M : WalkAt plan w x) where
  pub ran-top : w.deep ≡ 0 → Yes ≡ ran_stop x.frames
  unfolding ran_stop
  ran-top e = sym (ap ran_stop (top-frames M e))

  module _ (h : w.deep ≡ 0 → ⊥) where
    pub ran-fields : get_or plan (get_or w.maps (w.deep - 1) 0) 0 ≡ 4 → Outward Parts ≡ ran_stop x.frames
    ran-fields c =
        let (f, F, e) = some-inner h M.entries in
        let I = innermost e M.entries in
        code-fields F I.entered c ∙ sym (ap ran_stop e)

    pub ran-element : (get_or plan (get_or w.maps (w.deep - 1) 0) 0 ≡ 4 → ⊥) → Outward Element ≡ ran_stop x.frames
    ran-element c =
        let (f, F, e) = some-inner h M.entries in
        let I = innermost e M.entries in
        code_other F I.entered c ∙ sym (ap ran_stop e)
