-- What holds of every type that was read: how far it reaches, its depth, that it is readable, and in version 1 that its
-- bytes are its form. Assumes nothing.
use Prim.Native.Nat.{ℕ, suc, ◌+◌, ◌≤◌}
use mathlib.Core.Path.{◌≡◌, refl, sym, ap, ◌∙◌}
use mathlib.Core.List.{◌++◌}
use native.Mathlib.Omega.{arith}
use lib.ListN.{length, length-append}
use Rattle.layout.specs.Bytes.{Bytes, AllBytes}
use Rattle.layout.specs.Tree.{ColumnType, Columns, dtype_of, fields_of, count_fields}
use Rattle.layout.specs.Layout.{a_leaf, a_struct, a_list, an_array}
use Rattle.layout.specs.declared.edition.Edition.{Edition}
use Rattle.layout.specs.declared.edition.Edition.TheVariants.{One}
use Rattle.forms.specs.Form.{text_bytes, leaf_form, kind_form, form, form_fields}
use Rattle.forms.specs.code.Readable.{Readable, ReadableFields}
use Rattle.forms.specs.Depth.{depth_of, depth_of_fields}
use Rattle.forms.proofs.Slices.{Stands, stands_eq, stands-none, stands-append}
use Rattle.forms.proofs.Read.{kind-ends, kind-stands, label-ends, element-ends, label-stands, element-stands, TypeRead, tr_leaf, tr_struct}
use Rattle.forms.proofs.Read.{tr_list, tr_array, ColumnsRead, cr_none, cr_column}

-- from `at` up to e, of which n are needed, and k of d levels
pub record Extent (s : Bytes) (d at e n k : ℕ) : Type 0 where
  pub from : at ≤ e
  pub to : e ≤ length s
  pub long : at + n ≤ e
  pub deep : k ≤ d

extent_is : {s : Bytes} {d at e n n' k k' : ℕ} → n' ≡ n → k' ≡ k → Extent s d at e n k → Extent s d at e n' k'
extent_is p q r = record { from = r.from; to = r.to; long = let l = r.long in omega arith; deep = let l = r.deep in omega arith }

-- one level around what is inside
around : (a : ℕ) {s : Bytes} {d at m i e n k : ℕ} → at + a ≡ m → m ≤ i → Extent s d i e n k → Extent s (suc d) at e (a + n) (suc k)
around a p q r =
    let f = r.from in
    let l = r.long in
    let h = r.deep in
    record { from = omega arith; to = r.to; long = omega arith; deep = omega arith }

mutual
  unfolding dtype_of fields_of form form_fields kind_form depth_of depth_of_fields count_fields

  pub type_extent : {v : Edition} {s : Bytes} {d at e : ℕ} {c : ColumnType} → TypeRead v s d at c e → Extent s d at e (length (form (dtype_of c)))
      (depth_of (dtype_of c))
  type_extent {s = s} {at = at} (tr_leaf {l = l} h) =
      let (p, q) = kind-ends s at h in
      let z : length (kind_form (a_leaf l)) ≡ length (leaf_form l) = refl in
      record { from = omega arith; to = p; long = omega arith; deep = omega arith }
  type_extent {v = v} {s = s} {at = at} (tr_struct {n = n} {cs = cs} h g) =
      let (p, q) = kind-ends s at h in
      let (r, c) = columns_extent g p in
      extent_is (ap (λ (m : ℕ). length (kind_form (a_struct m) ++ form_fields (fields_of cs))) c ∙ length-append (kind_form (a_struct n))
      (form_fields (fields_of cs))) refl (around _ q (omega arith) r)
  type_extent {v = v} {s = s} {at = at} (tr_list {t = t} h l g) =
      let (p, q) = kind-ends s at h in
      let (a, b) = element-ends s v _ l p in
      extent_is (length-append (kind_form a_list) (form (dtype_of t))) refl (around _ q a (type_extent g))
  type_extent {v = v} {s = s} {at = at} (tr_array {w = w} {t = t} h l g) =
      let (p, q) = kind-ends s at h in
      let (a, b) = element-ends s v _ l p in
      extent_is (length-append (kind_form (an_array w)) (form (dtype_of t))) refl (around _ q a (type_extent g))

  pub columns_extent : {v : Edition} {s : Bytes} {d n at e : ℕ} {cs : Columns} → ColumnsRead v s d n at cs e → at ≤ length s
      → Extent s d at e (length (form_fields (fields_of cs))) (depth_of_fields (fields_of cs)) × (count_fields (fields_of cs) ≡ n)
  columns_extent cr_none h = (record { from = omega arith; to = h; long = omega arith; deep = omega arith }, refl)
  columns_extent {v} {s} {at = at} (cr_column {l = l} {t = t} {cs = cs} f g k) h =
      let (a, (b, c)) = label-ends s v at f in
      let T = type_extent g in
      let (C, n) = columns_extent k T.to in
      let p = T.from in let p₁ = T.long in let p₂ = T.deep in
      let q = C.from in let q₁ = C.long in let q₂ = C.deep in
      let z = length-append (text_bytes l.name) (form (dtype_of t) ++ form_fields (fields_of cs)) in
      let y = length-append (form (dtype_of t)) (form_fields (fields_of cs)) in
      (record { from = omega arith; to = C.to; long = omega arith; deep = omega arith }, ap suc n)

-- ---- with bytes for elements

module _ {v : Edition} {s : Bytes} (o : AllBytes s) where
  mutual
    unfolding dtype_of fields_of count_fields

    pub type-readable : {d at e : ℕ} {c : ColumnType} → TypeRead v s d at c e → Readable (dtype_of c)
    type-readable {at = at} (tr_leaf h) = (kind-stands s o at h).1
    type-readable {at = at} (tr_struct h g) =
        let n = (kind-stands s o at h).1 in
        let (c, r) = columns-readable g in
        (omega arith, r)
    type-readable {at = at} (tr_list h l g) = type-readable g
    type-readable {at = at} (tr_array h l g) = ((kind-stands s o at h).1, type-readable g)

    pub columns-readable : {d n at e : ℕ} {cs : Columns} → ColumnsRead v s d n at cs e → (count_fields (fields_of cs) ≡ n) × ReadableFields (fields_of cs)
    columns-readable cr_none = (refl, tt)
    columns-readable {at = at} (cr_column f g k) =
        let (a, (b, (c, i))) = label-ends s v at f in
        let (n, r) = columns-readable k in
        (ap suc n, ((c, i o), (type-readable g, r)))

-- version 1: the bytes are the form
module _ {s : Bytes} (o : AllBytes s) where
  mutual
    unfolding dtype_of fields_of count_fields form form_fields kind_form

    pub type-stands : {d at e : ℕ} {c : ColumnType} → TypeRead One s d at c e → Stands s at e (form (dtype_of c))
    type-stands {at = at} (tr_leaf h) = (kind-stands s o at h).0
    type-stands {at = at} (tr_struct {cs = cs} h g) =
        let H = (kind-stands s o at h).0 in
        let (n, r) = columns_stand g H.to in
        stands_eq refl (ap (λ (m : ℕ). kind_form (a_struct m) ++ form_fields (fields_of cs)) (sym n)) (stands-append H r)
    type-stands {at = at} (tr_list {i = i} h l g) =
        stands-append (stands_eq (element-stands s _ l) refl (kind-stands s o at h).0) (type-stands g)
    type-stands {at = at} (tr_array h l g) =
        stands-append (stands_eq (element-stands s _ l) refl (kind-stands s o at h).0) (type-stands g)

    pub columns_stand : {d n at e : ℕ} {cs : Columns} → ColumnsRead One s d n at cs e → at ≤ length s
        → (count_fields (fields_of cs) ≡ n) × Stands s at e (form_fields (fields_of cs))
    columns_stand cr_none h = (refl, stands-none h)
    columns_stand {at = at} (cr_column f g k) h =
        let T = type-stands g in
        let (n, r) = columns_stand k T.to in
        (ap suc n, stands-append (label-stands s at f) (stands-append T r))
