-- The element of a list or array type. Assumes nothing.
use Prim.Native.Nat.{ℕ, suc, ◌-◌}
use mathlib.Core.Path.{◌≡◌, refl, sym, ap, ◌∙◌}
use native.Mathlib.Omega.{arith}
use Rattle.layout.specs.Bytes.{Bytes}
use Rattle.layout.specs.Parser.{ok, refuse, next}
use Rattle.layout.specs.Tree.{clist, carray}
use Rattle.layout.specs.Layout.{Head, kind, type, body, list_type, array_type, element_label}
use Rattle.layout.specs.code.Answers.{head_res, label_res, label_at}
use Rattle.layout.specs.code.Stands.{TypeAt}
use Rattle.layout.specs.declared.cursor.Cursor.{Cursor}
use Rattle.layout.specs.declared.types.Head.{Head as HeadSpan}
use Rattle.layout.specs.declared.columns.Label.{Label as LabelSpan}
use Rattle.layout.specs.declared.columns.Labelled.{Labelled}
use Rattle.layout.specs.declared.columns.Siblings.TheVariants.{Free}
use Rattle.layout.specs.declared.edition.Edition.{Edition}
use Rattle.layout.proofs.Ways.{clash}
use Rattle.layout.proofs.View.{next-ok, deep, label_got, label-none}
use Rattle.overflow.specs.code.Overflows.{ElementTypeAt}

module _ {v : Edition} {d : ℕ} {s : Bytes} {at : ℕ} (Q : TypeAt v d s at) where
  behind : {k : Head} {m : ℕ} → kind s at ≡ ok k m → body v Free (type v Free (d - 1)) k s m ≡ ok Q.tree Q.end
  unfolding type next
  behind q =
      let z = deep Q in
      let e : suc (d - 1) ≡ d = omega arith in
      let h : next (kind s at) (λ k m. body v Free (type v Free (d - 1)) k s m) ≡ ok Q.tree Q.end = ap (λ (n : ℕ). type v Free n s at) e ∙ Q.reads in
      rw q at h

  module _ {p : HeadSpan} {c : Cursor} (e : head_res s p ≡ kind s at) where
    pub list_element_lem : p ≡ HeadSpan.List c → (E : ElementTypeAt v (d - 1) s c.at) × (Q.tree ≡ clist E.label E.type.tree)
    unfolding body list_type
    list_element_lem f =
        let (l, i, h₁, g₁) = next-ok _ _ (behind (sym e ∙ ap (head_res s) f)) in
        let (t, j, h₂, g₂) = next-ok _ _ g₁ in
        (record { label = l; start = i; labelled = h₁; type = record { tree = t; end = j; reads = h₂ } }, cc)

    pub array_element_lem : {w : ℕ} → p ≡ HeadSpan.Array w c → (E : ElementTypeAt v (d - 1) s c.at) × (Q.tree ≡ carray w E.label E.type.tree)
    unfolding body array_type
    array_element_lem f =
        let (l, i, h₁, g₁) = next-ok _ _ (behind (sym e ∙ ap (head_res s) f)) in
        let (t, j, h₂, g₂) = next-ok _ _ g₁ in
        (record { label = l; start = i; labelled = h₁; type = record { tree = t; end = j; reads = h₂ } }, cc)

-- what a reader of the label answers
module _ {v : Edition} {d : ℕ} {s : Bytes} {at : ℕ} (E : ElementTypeAt v d s at) {q : Labelled} (g : label_res s q ≡ element_label v s at) where
  pub element-labelled : {B : Type 0} {n : ℕ} → q ≡ Labelled.Refused n → B
  element-labelled {n = n} k = let z : ok E.label E.start ≡ refuse n = sym E.labelled ∙ label-none s g k in clash (cc)

  module _ {l : LabelSpan} {b : Cursor} (k : q ≡ Labelled.Is l b) where
    pub element_label_lem : E.label ≡ label_at s l
    element_label_lem = let z : ok E.label E.start ≡ ok (label_at s l) b.at = sym E.labelled ∙ label_got s g k in cc

    unfoldable pub element-type : TypeAt v d s b.at
    element-type =
        let z : ok E.label E.start ≡ ok (label_at s l) b.at = sym E.labelled ∙ label_got s g k in
        let y : E.start ≡ b.at = cc in
        record { tree = E.type.tree; end = E.type.end; reads = ap (λ (o : ℕ). type v Free d s o) (sym y) ∙ E.type.reads }

    pub element-tree : element-type.tree ≡ E.type.tree
    unfolding element-type
    element-tree = refl
