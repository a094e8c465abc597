-- Where what a type begins with ends, by the answer of `head`. Assumes nothing.
use Prim.Native.Nat.{ℕ, suc, ◌+◌, ◌-◌, ◌≤◌, ◌<◌}
use mathlib.Core.Path.{◌≡◌, refl, sym, ap, ◌∙◌}
use mathlib.Core.List.{[]}
use native.Mathlib.Omega.{arith}
use lib.ListN.{length, length-append}
use Rattle.layout.specs.Bytes.{Bytes}
use Rattle.layout.specs.Parser.{Res, ok, Parser}
use Rattle.layout.specs.Tree.{ColumnType, Columns, cnil, ccons, count_columns, count_fields, dtype_of, fields_of}
use Rattle.layout.specs.Layout.{Head, a_leaf, a_struct, a_list, an_array, kind, body, struct_type, list_type, array_type, type}
use Rattle.layout.specs.code.Answers.{head_res}
use Rattle.layout.specs.code.Stands.{TypeAt}
use Rattle.layout.specs.declared.cursor.Cursor.{Cursor}
use Rattle.layout.specs.declared.types.Head.{Head as HeadSpan}
use Rattle.layout.specs.declared.types.LeafType.{LeafType as LeafSpan}
use Rattle.layout.specs.declared.edition.Edition.{Edition}
use Rattle.layout.specs.declared.columns.Siblings.{Siblings}
use Rattle.layout.specs.declared.columns.Siblings.TheVariants.{Free}
use Rattle.layout.proofs.Top.{columns-count}
use Rattle.layout.proofs.View.{next-ok, deep}
use Rattle.forms.specs.Form.{leaf_form, kind_form, form}
use Rattle.forms.specs.code.Heads.{head_of, rest_form}
use Rattle.forms.specs.code.Answers.{end_of}
use Rattle.forms.proofs.Equal.{form-kind}
use Rattle.forms.proofs.Read.{ok_eq, kind→, kind-ends, type→}
use Rattle.forms.proofs.ReadBack.{type_extent}

module _ (s : Bytes) (x : Res Head) (c : Cursor) {p : HeadSpan} (e : head_res s p ≡ x) where
  pub end-leaf : {l : LeafSpan} {d : Cursor} → p ≡ HeadSpan.Leaf l d → d ≡ end_of x c
  unfolding end_of
  end-leaf f = rw (← e, f)

  pub end-struct : {n : ℕ} {d : Cursor} → p ≡ HeadSpan.Struct n d → d ≡ end_of x c
  unfolding end_of
  end-struct f = rw (← e, f)

  pub end_list : {d : Cursor} → p ≡ HeadSpan.List d → d ≡ end_of x c
  unfolding end_of
  end_list f = rw (← e, f)

  pub end-array : {w : ℕ} {d : Cursor} → p ≡ HeadSpan.Array w d → d ≡ end_of x c
  unfolding end_of
  end-array f = rw (← e, f)

  pub end_refused : {n : ℕ} → p ≡ HeadSpan.Refused n → c ≡ end_of x c
  unfolding end_of
  end_refused f = rw (← e, f)

pub ruleset head-ends = (end-leaf, end-struct, end_list, end-array, end_refused)

-- ---- the head of a type that stands

pub count_fields_lem : (cs : Columns) → count_fields (fields_of cs) ≡ count_columns cs
unfolding count_fields fields_of count_columns
count_fields_lem cnil = refl
count_fields_lem (ccons l t cs) = ap suc (count_fields_lem cs)

-- every head has a code
head-some : (k : Head) → 0 < length (kind_form k)
unfolding kind_form leaf_form
head-some (a_leaf l) = omega arith
head-some (a_struct n) = omega arith
head-some a_list = omega arith
head-some (an_array w) = omega arith

-- what a type begins with, by the parser
head-is : (v : Edition) (r : Siblings) (p : Parser ColumnType) (k : Head) (s : Bytes) (m : ℕ) {c : ColumnType} {e : ℕ} → body v r p k s m ≡ ok c e → k ≡
    head_of (dtype_of c)
unfolding body struct_type list_type array_type dtype_of head_of
head-is v r p (a_leaf l) s m h = let q = (ok_eq h).0 in rw (← q)
head-is v r p (a_struct n) s m h =
    let (cs, i, g, f) = next-ok _ _ h in
    let q = (ok_eq f).0 in
    let z : n ≡ count_fields (fields_of cs) = sym (columns-count v r p n [] s m cs i g) ∙ sym (count_fields_lem cs) in
    rw (← q) (ap a_struct z)
head-is v r p a_list s m h =
    let (l, i, g, f) = next-ok _ _ h in
    let (t, j, g₁, f₁) = next-ok _ _ f in
    let q = (ok_eq f₁).0 in
    rw (← q)
head-is v r p (an_array w) s m h =
    let (l, i, g, f) = next-ok _ _ h in
    let (t, j, g₁, f₁) = next-ok _ _ f in
    let q = (ok_eq f₁).0 in
    rw (← q)

-- the head, and the bytes around it
pub record HeadAt (v : Edition) (d : ℕ) (s : Bytes) (at : ℕ) (P : TypeAt v d s at) (m : ℕ) : Type 0 where
  pub reads : kind s at ≡ ok (head_of (dtype_of P.tree)) m
  pub from : at ≤ m
  pub inside : at < length s
  pub to : m ≤ length s
  pub long : at + length (kind_form (head_of (dtype_of P.tree))) ≡ m
  pub rest : m + length (rest_form (dtype_of P.tree)) ≤ P.end
  pub ends : P.end ≤ length s

module _ {v : Edition} {d : ℕ} {s : Bytes} {at : ℕ} (P : TypeAt v d s at) where
  head_read : (m : ℕ) × (kind s at ≡ ok (head_of (dtype_of P.tree)) m)
  unfolding type
  head_read =
      let e : suc (d - 1) ≡ d = let z = deep P in omega arith in
      let h : type v Free (suc (d - 1)) s at ≡ ok P.tree P.end = ap (λ (n : ℕ). type v Free n s at) e ∙ P.reads in
      let (k, m, g, f) = next-ok _ _ h in
      (m, g ∙ ap (λ (j : Head). ok j m) (head-is v Free (type v Free (d - 1)) k s m f))

  pub form-long : length (form (dtype_of P.tree)) ≡ length (kind_form (head_of (dtype_of P.tree))) + length (rest_form (dtype_of P.tree))
  form-long = ap length (form-kind (dtype_of P.tree)) ∙ length-append (kind_form (head_of (dtype_of P.tree))) (rest_form (dtype_of P.tree))

  pub head_at : {c x : Cursor} → c.at ≡ at → x ≡ end_of (kind s c.at) c → HeadAt v d s at P x.at
  unfolding end_of
  head_at {c} {x} z e =
      let (m, h) = head_read in
      let y : x.at ≡ m = ap (λ (w : Cursor). w.at) e ∙ ap (λ (i : ℕ). (end_of (kind s i) c).at) z ∙ ap (λ (w : Res Head). (end_of w c).at) h in
      let (a, b) = kind-ends s at (kind→ s at h) in
      let E = type_extent (type→ v Free s d at P.reads) in
      let f = form-long in
      let g = E.long in
      let o = head-some (head_of (dtype_of P.tree)) in
      record {
        reads = h ∙ ap (λ (n : ℕ). ok (head_of (dtype_of P.tree)) n) (sym y);
        from = omega arith;
        inside = omega arith;
        to = omega arith;
        long = omega arith;
        rest = omega arith;
        ends = E.to;
      }
