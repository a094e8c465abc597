-- The theorems about version 1 forms. Assumes nothing.
use Prim.Native.Nat.{ℕ, ◌+◌, ◌-◌, ◌≤◌}
use mathlib.Core.Path.{◌≡◌, refl, sym, ap, ◌∙◌}
use mathlib.Core.List.{[], ◌++◌}
use mathlib.Core.Bool.{true}
use mathlib.Core.Logic.{◌↔◌}
use native.Mathlib.Omega.{arith}
use lib.ListN.{length, take, drop}
use lib.Seq.{drop_at}
use Rattle.layout.specs.Bytes.{Bytes, AllBytes}
use Rattle.layout.specs.Parser.{ok}
use Rattle.layout.specs.Tree.{ColumnType, DataType, Fields, dtype_of, fields_of, count_fields}
use Rattle.layout.specs.Layout.{type}
use Rattle.layout.specs.code.Stands.{ColumnsAt}
use Rattle.layout.specs.declared.edition.Edition.{Edition}
use Rattle.layout.specs.declared.edition.Edition.TheVariants.{One}
use Rattle.layout.specs.declared.columns.Siblings.{Siblings}
use Rattle.layout.specs.declared.columns.Siblings.TheVariants.{Free}
use Rattle.forms.specs.Form.{form, form_fields}
use Rattle.forms.specs.Same.{equal_types, equal_fields}
use Rattle.forms.specs.code.Compare.{same_dtype}
use Rattle.forms.specs.code.Readable.{Readable, labelled}
use Rattle.forms.specs.Depth.{depth_of}
use Rattle.forms.proofs.Equal.{form_eq, equal_types-refl, equal_types_eq, equal_fields-refl, equal_fields_eq, same-is-equal}
use Rattle.store.proofs.Overlay.{slice-take}
use Rattle.forms.proofs.Read.{type→, columns→}
use Rattle.forms.proofs.ReadBack.{type_extent, columns_extent, type-readable, type-stands}
use Rattle.forms.proofs.Written.{type_at, dtype_labelled}

-- ---- 1. forms are equal exactly when the types are

-- whatever stands behind them
pub forms_prefix : (t u : DataType) (r q : Bytes) → form t ++ r ≡ form u ++ q → (t ≡ u) × (r ≡ q)
forms_prefix t u r q e = form_eq t u e

pub forms_equal : (t u : DataType) → (form t ≡ form u) ↔ (t ≡ u)
forms_equal t u = (λ e. (form_eq t u (ap (λ (b : Bytes). b ++ []) e)).0, λ e. ap form e)

-- with ids and element names dropped
pub labelled_forms_equal : (a b : ColumnType) → (form (dtype_of a) ≡ form (dtype_of b)) ↔ (dtype_of a ≡ dtype_of b)
labelled_forms_equal a b = forms_equal (dtype_of a) (dtype_of b)

-- comparing decides it: the bytes, as the document says, and part with part, as code does
pub equal_decides : (t u : DataType) → (equal_types t u ≡ true) ↔ (t ≡ u)
equal_decides t u = (λ e. equal_types_eq t u e, λ e. ap (equal_types t) (sym e) ∙ equal_types-refl t)

pub same_decides : (t u : DataType) → same_dtype t u ≡ equal_types t u
same_decides t u = same-is-equal t u

-- columns: names, types and count
pub fields_decide : (fs gs : Fields) → (equal_fields fs gs ≡ true) ↔ (fs ≡ gs)
fields_decide fs gs = (λ e. equal_fields_eq fs gs e, λ e. ap (equal_fields fs) (sym e) ∙ equal_fields-refl fs)

-- ---- 2. a form that is written is read back, and nothing behind it is read

pub form-read : (t : DataType) (d : ℕ) (pre post : Bytes) → Readable t → depth_of t ≤ d
    → (type One Free d (pre ++ (form t ++ post)) (length pre) ≡ ok (labelled t) (length pre + length (form t))) × (dtype_of (labelled t) ≡ t)
form-read t d pre post h p = (type_at t d (pre ++ (form t ++ post)) (length pre) post h p (drop_at pre (form t ++ post) (length pre) refl), dtype_labelled t)

-- ---- 3. what was read as a type

-- version 1: the bytes that were read are the type's form
pub read-form : (r : Siblings) (d : ℕ) (s : Bytes) (at : ℕ) {c : ColumnType} {m : ℕ} → AllBytes s → type One r d s at ≡ ok c m → form (dtype_of c) ≡ take
    (m - at) (drop at s)
read-form r d s at {c} {m} o e =
    let S = type-stands o (type→ One r s d at e) in
    let a = S.from in
    let b = S.to in
    let n : at + (m - at) ≡ m = omega arith in
    sym S.is ∙ (rw n at (slice-take s at (m - at) (omega arith)))

-- every version: the form is not longer than the bytes, nor deeper than was allowed
pub read_extent : (v : Edition) (r : Siblings) (d : ℕ) (s : Bytes) (at : ℕ) {c : ColumnType} {m : ℕ} → type v r d s at ≡ ok c m
    → (at ≤ m) × (m ≤ length s) × (length (form (dtype_of c)) ≤ m - at) × (depth_of (dtype_of c) ≤ d)
read_extent v r d s at e =
    let E = type_extent (type→ v r s d at e) in
    let a = E.from in
    let b = E.long in
    (a, E.to, omega arith, E.deep)

pub read-readable : (v : Edition) (r : Siblings) (d : ℕ) (s : Bytes) (at : ℕ) {c : ColumnType} {m : ℕ} → AllBytes s → type v r d s at ≡ ok c m →
    Readable (dtype_of c)
read-readable v r d s at o e = type-readable o (type→ v r s d at e)

-- columns that stand: their form is not longer than their bytes, and there are as many as were asked for
pub columns-reach : {v : Edition} {d : ℕ} {s : Bytes} {n at : ℕ} (P : ColumnsAt v d s n at) → at ≤ length s
    → (at ≤ P.end) × (P.end ≤ length s) × (length (form_fields (fields_of P.columns)) ≤ P.end - at) × (count_fields (fields_of P.columns) ≡ n)
columns-reach {v} {d} {s} {n} {at} P h =
    let (E, c) = columns_extent (columns→ v Free s d (λ at t e h. type→ v Free s d at h) n [] at P.reads) h in
    let a = E.from in
    let b = E.long in
    (a, E.to, omega arith, c)
