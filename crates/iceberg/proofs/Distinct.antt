-- The ids of siblings differ in every layout of version 2 or 3 that was read. Assumes nothing.
use Prim.Native.Nat.{ℕ, zero, suc}
use mathlib.Core.Path.{◌≡◌, refl, sym, ap, ap₂, ◌∙◌}
use mathlib.Core.Bool.{Bool, true, false, not, ◌||◌}
use mathlib.Core.List.{List, [], ◌∷◌, ◌++◌}
use lib.Dec.{eqb}
use borrow.Author.Tests.{eqb-false}
use Rattle.layout.specs.Bytes.{Bytes}
use Rattle.layout.specs.Parser.{ok, choose, Parser, test}
use Rattle.layout.specs.Tree.{Label, ColumnType, cleaf, cstruct, clist, carray, Columns, cnil, ccons, Layout}
use Rattle.layout.specs.Layout.{Head, a_leaf, a_struct, a_list, an_array, repeats_any, columns, list_type, array_type, struct_type, body, type, top_rule, inner_rule}
use Rattle.layout.specs.Layout.{deepest, counted}
use Rattle.layout.specs.Layout.{layout_from, layout}
use Rattle.layout.specs.declared.columns.FieldId.{FieldId}
use Rattle.layout.specs.declared.columns.Siblings.{Siblings}
use Rattle.layout.specs.declared.columns.Siblings.TheVariants.{Ids}
use Rattle.layout.specs.declared.edition.Edition.{Edition}
use Rattle.layout.specs.declared.edition.Edition.TheVariants.{One, Two, Three}
use Rattle.layout.specs.declared.matching.Matching.TheVariants.{ByNumber}
use Rattle.layout.proofs.Ways.{clash}
use Rattle.layout.proofs.View.{next-ok}
use Rattle.plan.proofs.Results.{true≠false}
use Rattle.matching.specs.Calls.{takes}
use Rattle.iceberg.specs.Specification.{Lacks, lacks_nil, lacks_cons}

-- siblings have different ids, at all levels
abbrev mutual
  pub DistinctIds : ColumnType → Type 0
  DistinctIds (cleaf l) = Unit {0}
  DistinctIds (cstruct cs) = DistinctIdsAll cs
  DistinctIds (clist l t) = DistinctIds t
  DistinctIds (carray w l t) = DistinctIds t

  pub DistinctIdsAll : Columns → Type 0
  DistinctIdsAll cnil = Unit {0}
  DistinctIdsAll (ccons l t cs) = Lacks cs l.id × (DistinctIds t × DistinctIdsAll cs)

-- ---- what was read

-- none of the labels has the id of a column
abbrev LackAll : Columns → List Label → Type 0
LackAll cs [] = Unit {0}
LackAll cs (m ∷ ms) = Lacks cs m.id × LackAll cs ms

lack_none : (ms : List Label) → LackAll cnil ms
lack_none [] = tt
lack_none (m ∷ ms) = (lacks_nil, lack_none ms)

lack_first : (cs : Columns) (ms : List Label) (l : Label) → LackAll cs (ms ++ (l ∷ [])) → LackAll cs ms × Lacks cs l.id
lack_first cs [] l h = (tt, h.0)
lack_first cs (m ∷ ms) l h = let (a, b) = lack_first cs ms l h.1 in ((h.0, a), b)

either-false : (a b : Bool) → not (a || b) ≡ true → (a ≡ false) × (not b ≡ true)
either-false true b e = true≠false e refl
either-false false b e = (refl, e)

lack_column : (cs : Columns) (ms : List Label) (l : Label) (t : ColumnType) → not (repeats_any Ids l ms) ≡ true → LackAll cs ms → LackAll (ccons l t cs) ms
unfolding repeats_any
lack_column cs [] l t e h = tt
lack_column cs (m ∷ ms) l t e h =
    let (p, q) = either-false (eqb l.id.0 m.id.0) (repeats_any Ids l ms) e in
    (lacks_cons (λ r. eqb-false _ _ p (ap (λ (i : FieldId). i.0) r)) h.0, lack_column cs ms l t q h.1)

ok_same : {A : Type 0} (P : A → Type 0) {a b : A} {m n : ℕ} → ok a m ≡ ok b n → P a → P b
ok_same P {a} {b} e p = let q : a ≡ b = cc in rw (← q) p

passed : (b : Bool) (n : ℕ) (s : Bytes) (at : ℕ) {u : Unit {0}} {m : ℕ} → test b n s at ≡ ok u m → b ≡ true
unfolding choose
passed true n s at e = refl
passed false n s at e = clash (cc)

module _ (s : Bytes) (v : Edition) where
  columns-distinct : (p : Parser ColumnType) → ((at : ℕ) (t : ColumnType) (m : ℕ) → p s at ≡ ok t m → DistinctIds t)
      → (n : ℕ) (ms : List Label) (at : ℕ) {cs : Columns} {m : ℕ} → columns v Ids p n ms s at ≡ ok cs m → LackAll cs ms × DistinctIdsAll cs
  unfolding columns
  columns-distinct p h zero ms at e = ok_same (λ cs. LackAll cs ms × DistinctIdsAll cs) e (lack_none ms, tt)
  columns-distinct p h (suc n) ms at e =
      let (l, i, a, e) = next-ok _ _ e in
      let (t, j, b, e) = next-ok _ _ e in
      let (u, k, c, e) = next-ok (test (not (repeats_any Ids l ms)) 5 s j) _ e in
      let (cs, o, d, e) = next-ok _ _ e in
      let (x, y) = columns-distinct p h n (ms ++ (l ∷ [])) k d in
      let (x, z) = lack_first cs ms l x in
      ok_same (λ cs. LackAll cs ms × DistinctIdsAll cs) e (lack_column cs ms l t (passed _ 5 s j c) x, (z, (h i t j b, y)))

  body-distinct : (p : Parser ColumnType) → ((at : ℕ) (t : ColumnType) (m : ℕ) → p s at ≡ ok t m → DistinctIds t) → (k : Head) (at : ℕ) {t : ColumnType} {m : ℕ}
      → body v Ids p k s at ≡ ok t m → DistinctIds t
  unfolding body struct_type list_type array_type
  body-distinct p h (a_leaf l) at e = ok_same DistinctIds e tt
  body-distinct p h (a_struct n) at e = let (cs, i, a, e) = next-ok _ _ e in ok_same DistinctIds e (columns-distinct p h n [] at a).1
  body-distinct p h a_list at e =
      let (l, i, a, e) = next-ok _ _ e in
      let (t, j, b, e) = next-ok _ _ e in
      ok_same DistinctIds e (h i t j b)
  body-distinct p h (an_array w) at e =
      let (l, i, a, e) = next-ok _ _ e in
      let (t, j, b, e) = next-ok _ _ e in
      ok_same DistinctIds e (h i t j b)

  type-distinct : (d at : ℕ) {t : ColumnType} {m : ℕ} → type v Ids d s at ≡ ok t m → DistinctIds t
  unfolding type
  type-distinct zero at e = clash (cc)
  type-distinct (suc d) at e =
      let (k, i, a, e) = next-ok _ _ e in
      body-distinct (type v Ids d) (λ at t m e. type-distinct d at e) k i e

  -- what building by number takes has no id twice among siblings
  by-ids : (w : Edition) → takes ByNumber w ≡ true → (top_rule w ≡ Ids) × (inner_rule w ≡ Ids)
  by-ids One e = clash (cc)
  by-ids Two e = (refl, refl)
  by-ids Three e = (refl, refl)

  counted-distinct : (at : ℕ) {l : Layout} {m : ℕ} → takes ByNumber v ≡ true → counted v s at ≡ ok l m → DistinctIdsAll l.columns
  unfolding counted
  counted-distinct at q e =
      let (x, y) = by-ids v q in
      let (n, i, a, e) = next-ok _ _ e in
      let (cs, j, b, e) = next-ok _ _ e in
      let (u, k, c, e) = next-ok _ _ e in
      ok_same (λ (l : Layout). DistinctIdsAll l.columns) e
      (columns-distinct (type v Ids deepest) (λ at t m e. type-distinct deepest at e) n [] i
      (sym (ap₂ (λ (p q : Siblings). columns v p (type v q deepest) n [] s i) x y) ∙ b)).1

  counted-edition : (at : ℕ) {l : Layout} {m : ℕ} → counted v s at ≡ ok l m → l.edition ≡ v
  unfolding counted
  counted-edition at e =
      let (n, i, a, e) = next-ok _ _ e in
      let (cs, j, b, e) = next-ok _ _ e in
      let (u, k, c, e) = next-ok _ _ e in
      ok_same (λ (l : Layout). l.edition ≡ v) e refl

pub layout-distinct : (s : Bytes) {l : Layout} {m : ℕ} → layout s ≡ ok l m → takes ByNumber l.edition ≡ true → DistinctIdsAll l.columns
unfolding layout layout_from
layout-distinct s e q =
    let (u, i, a, e) = next-ok _ _ e in
    let (v, j, b, e) = next-ok _ _ e in
    counted-distinct s v j (rw (counted-edition s v j e) at q) e
