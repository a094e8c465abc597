-- What is within the limits of a result without being measured: a part of what is within them, a column of a layout, a
-- transform's result. Assumes nothing.
use Prim.Native.Nat.{ℕ, zero, suc, ◌≤◌}
use mathlib.Core.Path.{◌≡◌, refl, sym, ap, ◌∙◌}
use mathlib.Core.Bool.{Bool, true, false, ◌&&◌, true≢false}
use mathlib.Core.List.{List, [], ◌++◌}
use native.Mathlib.Omega.{arith}
use lib.ListN.{length, length-append}
use lib.Dec.{leb}
use borrow.Author.Tests.{leb-true, le-leb}
use Rattle.layout.specs.Bytes.{Bytes}
use Rattle.layout.specs.Parser.{choose}
use Rattle.layout.specs.Tree.{Columns, DataType, struct, list, array, Fields, fnil, fcons, count_fields, fields_of, dtype_of}
use Rattle.layout.specs.Layout.{deepest, a_struct, a_list, an_array}
use Rattle.layout.specs.code.Stands.{ColumnsAt}
use Rattle.layout.specs.declared.columns.Siblings.TheVariants.{Free}
use Rattle.layout.specs.declared.edition.Edition.{Edition}
use Rattle.forms.specs.Form.{text_bytes, kind_form, form, form_fields}
use Rattle.forms.specs.Depth.{depth_of, depth_of_fields}
use Rattle.forms.proofs.Read.{ColumnsRead, cr_none, cr_column, type→, columns→}
use Rattle.forms.proofs.ReadBack.{type_extent}
use Rattle.plan.specs.Result.{gives}
use Rattle.plan.specs.Selector.{Selector, position, constant, cast, rename, struct_mapping, list_mapping, array_mapping}
use Rattle.plan.specs.Check.{Column, column, column_at, element_of, struct_of, list_of, array_of, cast_fits_of, within_limits, longest_type, resulting, check_cast}
use Rattle.plan.specs.Check.{check_rename, check_struct, check_list, check_array, type_of, types_of}
use Rattle.plan.proofs.Results.{never_refused, gives_eq, both, and-true, bind_gives, demand-gives}
use Rattle.walk.specs.code.State.{Frame}
use Rattle.walk.specs.code.Types.{ScopeOf, c_top, c_fields, c_list, c_array}
use Rattle.walk.specs.declared.walk.Walk.{Walk}
use Rattle.checker.specs.code.TypesAt.{ScopedAt}
use Rattle.checker.specs.code.Limits.{fit_of, type_fit, within_fit, Limited}
use Rattle.checker.specs.code.Checking.{is_transform}
use Rattle.checker.specs.declared.limits.Fit.{Fit}
use Rattle.checker.proofs.Room.{entries-count}

-- ---- a part is not deeper and not longer than the whole

pub no_larger : (t u : DataType) → depth_of u ≤ depth_of t → length (form u) ≤ length (form t) → within_limits t ≡ true → within_limits u ≡ true
unfolding within_limits
no_larger t u p q e =
    let (a, b) = both (leb (depth_of t) deepest) e in
    let c = leb-true (depth_of t) deepest a in
    let d = leb-true (length (form t)) longest_type b in
    and-true (le-leb (depth_of u) deepest (omega arith)) (le-leb (length (form u)) longest_type (omega arith))

pub column_smaller : (fs : Fields) (k : ℕ) {a : Column} → column_at fs k ≡ gives a
    → (depth_of a.type ≤ depth_of_fields fs) × (length (form a.type) ≤ length (form_fields fs))
unfolding column_at depth_of_fields form_fields
column_smaller fnil k e = never_refused e refl
column_smaller (fcons n t fs) zero {a} e =
    let g : a.type ≡ t = ap (λ (x : Column). x.type) (sym (gives_eq e)) in
    let d : depth_of a.type ≡ depth_of t = ap depth_of g in
    let f : length (form a.type) ≡ length (form t) = ap (λ (u : DataType). length (form u)) g in
    let l = length-append (text_bytes n) (form t ++ form_fields fs) in
    let m = length-append (form t) (form_fields fs) in
    (omega arith, omega arith)
column_smaller (fcons n t fs) (suc k) e =
    let (p, q) = column_smaller fs k e in
    let l = length-append (text_bytes n) (form t ++ form_fields fs) in
    let m = length-append (form t) (form_fields fs) in
    (omega arith, omega arith)

pub fields-limited : (fs : Fields) → within_limits (struct fs) ≡ true → Limited fs
unfolding depth_of form
fields-limited fs e = record {
  each = λ k a h.
      let (p, q) = column_smaller fs k h in
      let l = length-append (kind_form (a_struct (count_fields fs))) (form_fields fs) in
      no_larger (struct fs) a.type (omega arith) (omega arith) e;
}

pub list-limited : (t : DataType) → within_limits (list t) ≡ true → within_limits t ≡ true
unfolding depth_of form
list-limited t e =
    let l = length-append (kind_form a_list) (form t) in
    no_larger (list t) t (omega arith) (omega arith) e

pub array-limited : (w : ℕ) (t : DataType) → within_limits (array w t) ≡ true → within_limits t ≡ true
unfolding depth_of form
array-limited w t e =
    let l = length-append (kind_form (an_array w)) (form t) in
    no_larger (array w t) t (omega arith) (omega arith) e

pub element-limited : (t : DataType) → within_limits t ≡ true → Limited (element_of t)
unfolding column_at
element-limited t e = record { each = λ k a h. go k a h }
  where
    go : (k : ℕ) (a : Column) → column_at (element_of t) k ≡ gives a → within_limits a.type ≡ true
    go zero a h = ap (λ (x : Column). within_limits x.type) (sym (gives_eq h)) ∙ e
    go (suc k) a h = never_refused h refl

-- ---- the columns of a layout that is no longer than a type may be

column-limited : {v : Edition} {s : Bytes} {n at e : ℕ} {cs : Columns} → length s ≤ longest_type → ColumnsRead v s deepest n at cs e
    → (k : ℕ) {a : Column} → column_at (fields_of cs) k ≡ gives a → within_limits a.type ≡ true
unfolding column_at fields_of within_limits
column-limited b cr_none k h = never_refused h refl
column-limited b (cr_column {t = t} f g i) zero {a} h =
    let E = type_extent g in
    let p = E.long in let q = E.to in let r = E.deep in
    ap (λ (x : Column). within_limits x.type) (sym (gives_eq h))
    ∙ and-true (le-leb (depth_of (dtype_of t)) deepest (omega arith)) (le-leb (length (form (dtype_of t))) longest_type (omega arith))
column-limited b (cr_column f g i) (suc k) h = column-limited b i k h

pub columns-limited : {v : Edition} {s : Bytes} {n : ℕ} (C : ColumnsAt v deepest s n 7) → length s ≤ longest_type → Limited (fields_of C.columns)
columns-limited {v} {s} {n} C b = record {
  each = λ k a h. column-limited b (columns→ v Free s deepest (λ at t e h. type→ v Free s deepest at h) n [] 7 C.reads) k h;
}

pub scope-limited : {incoming : Bytes} {v : Edition} {n : ℕ} {plan : Bytes} {w : Walk} {Δ : Fields} → ScopedAt incoming v n plan w Δ
    → w.deep ≡ 0 → length incoming ≤ longest_type → Limited Δ
scope-limited {incoming} {v} {n} S z b =
    let l = entries-count S.standing.entries in
    go S.columns S.scoped (let q : length S.place.frames ≡ 0 = omega arith in q)
  where
    go : (C : ColumnsAt v deepest incoming n 7) {E : List Frame} {Δ : Fields} → ScopeOf (fields_of C.columns) E Δ → length E ≡ 0 → Limited Δ
    go C c_top q = columns-limited C b
    go C (c_fields s g i) q = absurd (omega arith)
    go C (c_list s g i) q = absurd (omega arith)
    go C (c_array s g i) q = absurd (omega arith)

-- ---- a transform's result

pub within_fit_lem : (t : DataType) → within_fit (type_fit t 16 16384) ≡ within_limits t
unfolding within_limits fit_of choose
within_fit_lem t = go (leb (depth_of t) 16 && leb (length (form t)) 16384)
  where
    go : (b : Bool) → within_fit (choose b (Fit.Within (length (form t)) (depth_of t)) Fit.Over) ≡ b
    go true = refl
    go false = refl

result_within : (n : Bytes) (t : DataType) {a : Column} → resulting n t ≡ gives a → within_limits a.type ≡ true
unfolding resulting
result_within n t e =
    let (w, g) = demand-gives (within_limits t) 32 (gives (column n t)) e in
    ap (λ (x : Column). within_limits x.type) (sym (gives_eq g)) ∙ w

pub transform_within : (Γ : Fields) (s : Selector) {a : Column} → is_transform s ≡ true → type_of Γ s ≡ gives a → within_limits a.type ≡ true
unfolding type_of check_cast check_rename check_struct check_list check_array
transform_within Γ (position k) h e = absurd (true≢false (sym h))
transform_within Γ (constant n t v) h e = absurd (true≢false (sym h))
transform_within Γ (cast i t o) h e =
    let (c, p, q) = bind_gives (type_of Γ i) (check_cast t o) e in
    let (b, g) = demand-gives (cast_fits_of c.type t o) 32 (resulting c.name t) q in
    result_within c.name t g
transform_within Γ (rename i n) h e =
    let (c, p, q) = bind_gives (type_of Γ i) (check_rename n) e in
    result_within n c.type q
transform_within Γ (struct_mapping i ss) h e =
    let (c, p, q) = bind_gives (type_of Γ i) (check_struct (λ fs. types_of fs ss)) e in
    let (fs, p, q) = bind_gives (struct_of c.type) _ q in
    let (gs, p, q) = bind_gives (types_of fs ss) _ q in
    result_within c.name (struct gs) q
transform_within Γ (list_mapping i x) h e =
    let (c, p, q) = bind_gives (type_of Γ i) (check_list (λ fs. type_of fs x)) e in
    let (t, p, q) = bind_gives (list_of c.type) _ q in
    let (d, p, q) = bind_gives (type_of (element_of t) x) _ q in
    result_within c.name (list d.type) q
transform_within Γ (array_mapping i x) h e =
    let (c, p, q) = bind_gives (type_of Γ i) (check_array (λ fs. type_of fs x)) e in
    let (b, p, q) = bind_gives (array_of c.type) _ q in
    let (d, p, q) = bind_gives (type_of (element_of b.element) x) _ q in
    result_within c.name (array b.width d.type) q
