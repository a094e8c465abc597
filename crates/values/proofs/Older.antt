-- L5: "Older columns count as optional": a layout of version 1 or 2 has no required column, so its records are read by
-- their types alone. Assumes nothing.
use Prim.Native.Nat.{ℕ, zero, suc}
use mathlib.Core.Path.{◌≡◌, refl, sym}
use mathlib.Core.Bool.{Bool, false}
use mathlib.Core.List.{List, [], ◌∷◌, ◌++◌}
use Rattle.layout.specs.Bytes.{Bytes}
use Rattle.layout.specs.Parser.{ok, Parser}
use Rattle.layout.specs.Tree.{Label, ColumnType, Columns, fields_of, Layout}
use Rattle.layout.specs.Layout.{Head, a_leaf, a_struct, a_list, an_array, field_mark, label_rest, label, element_label, columns, struct_type, list_type, array_type, body}
use Rattle.layout.specs.Layout.{type, top_rule, inner_rule, deepest, counted, layout_from, layout}
use Rattle.layout.specs.code.Stands.{ColumnsAt}
use Rattle.layout.specs.declared.columns.Siblings.{Siblings}
use Rattle.layout.specs.declared.columns.Siblings.TheVariants.{Free}
use Rattle.layout.specs.declared.edition.Edition.{Edition}
use Rattle.layout.specs.declared.edition.Edition.TheVariants.{One, Two, Three}
use Rattle.layout.proofs.Ways.{clash}
use Rattle.layout.proofs.View.{next-ok}
use Rattle.values.specs.Filled.{required_of}
use Rattle.values.specs.Record.{record_of, record_marked}
use Rattle.values.proofs.Unmarked.{Unmarked, bare-leaf, bare_struct, bare-list, bare-array, UnmarkedAll, bare-nil, bare-cons, record_unmarked}

-- what was read, in place of what it is
as_read : {A : Type 0} (P : A → Type 0) {a b : A} {m n : ℕ} → ok a m ≡ ok b n → P a → P b
as_read P {a} {b} e p = let q : a ≡ b = cc in rw (← q) p

module _ (v : Edition) (older : v ≡ Three → ⊥) (s : Bytes) where
  mark-bare : (at : ℕ) {r : Bool} {m : ℕ} → field_mark v s at ≡ ok r m → r ≡ false
  unfolding field_mark
  mark-bare at {r} {m} e = go v older e
    where
      go : (w : Edition) → (w ≡ Three → ⊥) → field_mark w s at ≡ ok r m → r ≡ false
      go One f e = let q : false ≡ r = cc in sym q
      go Two f e = let q : false ≡ r = cc in sym q
      go Three f e = absurd (f refl)

  label-bare : (at : ℕ) {l : Label} {m : ℕ} → label v s at ≡ ok l m → l.required ≡ false
  unfolding label label_rest
  label-bare at e =
      let (n, i, p, q) = next-ok _ _ e in
      let (k, j, g, h) = next-ok _ _ q in
      let (r, o, f, z) = next-ok _ _ h in
      as_read (λ (l : Label). l.required ≡ false) z (mark-bare j f)

  element-bare : (at : ℕ) {l : Label} {m : ℕ} → element_label v s at ≡ ok l m → l.required ≡ false
  unfolding element_label
  element-bare at {l} {m} e = go v refl e
    where
      go : (w : Edition) → v ≡ w → element_label w s at ≡ ok l m → l.required ≡ false
      go One f e = as_read (λ (l : Label). l.required ≡ false) e refl
      go Two f e = label-bare at {l = l} {m = m} (rw f e)
      go Three f e = absurd (older f)

  module _ (r : Siblings) where
    columns-bare : (p : Parser ColumnType) → ((at : ℕ) (t : ColumnType) (m : ℕ) → p s at ≡ ok t m → Unmarked required_of t)
        → (n : ℕ) (earlier : List Label) (at : ℕ) {cs : Columns} {m : ℕ} → columns v r p n earlier s at ≡ ok cs m → UnmarkedAll required_of cs
    unfolding columns
    columns-bare p f zero earlier at e = as_read (UnmarkedAll required_of) e bare-nil
    columns-bare p f (suc n) earlier at e =
        let (l, i, a, e) = next-ok _ _ e in
        let (t, j, b, e) = next-ok _ _ e in
        let (u, k, c, e) = next-ok _ _ e in
        let (cs, o, d, e) = next-ok _ _ e in
        as_read (UnmarkedAll required_of) e (bare-cons {cs = cs} (label-bare at a) (f i t j b) (columns-bare p f n (earlier ++ (l ∷ [])) k d))

    body-bare : (p : Parser ColumnType) → ((at : ℕ) (t : ColumnType) (m : ℕ) → p s at ≡ ok t m → Unmarked required_of t)
        → (k : Head) (at : ℕ) {t : ColumnType} {m : ℕ} → body v r p k s at ≡ ok t m → Unmarked required_of t
    unfolding body struct_type list_type array_type
    body-bare p f (a_leaf l) at e = as_read (Unmarked required_of) e bare-leaf
    body-bare p f (a_struct n) at e = let (cs, i, a, e) = next-ok _ _ e in as_read (Unmarked required_of) e (bare_struct (columns-bare p f n [] at a))
    body-bare p f a_list at e =
        let (l, i, a, e) = next-ok _ _ e in
        let (t, j, b, e) = next-ok _ _ e in
        as_read (Unmarked required_of) e (bare-list (element-bare at a) (f i t j b))
    body-bare p f (an_array w) at e =
        let (l, i, a, e) = next-ok _ _ e in
        let (t, j, b, e) = next-ok _ _ e in
        as_read (Unmarked required_of) e (bare-array (element-bare at a) (f i t j b))

    type-bare : (d at : ℕ) (t : ColumnType) (m : ℕ) → type v r d s at ≡ ok t m → Unmarked required_of t
    unfolding type
    type-bare zero at t m e = clash (cc)
    type-bare (suc d) at t m e = let (k, i, a, e) = next-ok _ _ e in body-bare (type v r d) (λ at t m h. type-bare d at t m h) k i e

-- the columns of a layout of an older version
pub layout_older : (s : Bytes) (l : Layout) (m : ℕ) → layout s ≡ ok l m → (l.edition ≡ Three → ⊥) → UnmarkedAll required_of l.columns
unfolding layout layout_from counted
layout_older s l m e older =
    let (u, i, a, e) = next-ok _ _ e in
    let (v, j, b, e) = next-ok _ _ e in
    let (n, k, c, e) = next-ok _ _ e in
    let (cs, o, d, e) = next-ok _ _ e in
    let (w, q, f, e) = next-ok _ _ e in
    as_read (λ (x : Layout). (x.edition ≡ Three → ⊥) → UnmarkedAll required_of x.columns) e
    (λ h. columns-bare v h s (top_rule v) (type v (inner_rule v) deepest) (λ at t m g. type-bare v h s (inner_rule v) deepest at t m g) n [] k d) older

pub record_older : (lay : Bytes) (l : Layout) (m : ℕ) → layout lay ≡ ok l m → (l.edition ≡ Three → ⊥) → (rec : Bytes)
    → record_marked required_of l.columns rec ≡ record_of (fields_of l.columns) rec
record_older lay l m e older rec = record_unmarked required_of rec (layout_older lay l m e older)

-- the columns that stand in one
pub columns_older : {v : Edition} {d : ℕ} {s : Bytes} {n at : ℕ} → (v ≡ Three → ⊥) → (P : ColumnsAt v d s n at) → UnmarkedAll required_of P.columns
columns_older {v} {d} {s} {n} {at} older P =
    columns-bare v older s Free (type v Free d) (λ at t m h. type-bare v older s Free d at t m h) n [] at P.reads
