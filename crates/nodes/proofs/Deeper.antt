-- A type that reads with some levels reads the same with more, and so do columns. Assumes nothing.
use Prim.Native.Nat.{ℕ, zero, suc, ◌≤◌}
use mathlib.Core.List.{List, [], ◌∷◌, ◌++◌}
use native.Mathlib.Omega.{arith}
use Rattle.layout.specs.Bytes.{Bytes}
use Rattle.layout.specs.Parser.{Parser}
use Rattle.layout.specs.Tree.{Label, ColumnType}
use Rattle.layout.specs.Layout.{Head, a_leaf, a_struct, a_list, an_array, label, kind, body, struct_type, list_type, array_type, element_label, columns, type, deepest}
use Rattle.layout.specs.code.Stands.{TypeAt, ColumnsAt}
use Rattle.layout.specs.declared.edition.Edition.{Edition}
use Rattle.layout.specs.declared.columns.Siblings.{Siblings}
use Rattle.layout.specs.declared.columns.Siblings.TheVariants.{Free}
use Rattle.layout.proofs.Ways.{clash}
use Rattle.layout.proofs.FreeRule.{Within, next-within, same}

module _ (v : Edition) (r : Siblings) (s : Bytes) where
  -- where q reads all that p reads
  module _ (p q : Parser ColumnType) (w : (at : ℕ) → Within (p s at) (q s at)) where
    pub columns_within : (n : ℕ) (earlier : List Label) (at : ℕ) → Within (columns v r p n earlier s at) (columns v r q n earlier s at)
    unfolding columns
    columns_within zero earlier at = same _
    columns_within (suc n) earlier at =
        next-within _ _ _ _ (same (label v s at)) (λ l i. next-within _ _ _ _ (w i) (λ t j.
        next-within _ _ _ _ (same _) (λ u k. next-within _ _ _ _ (columns_within n (earlier ++ (l ∷ [])) k) (λ cs o. same _))))

    body-within : (k : Head) (at : ℕ) → Within (body v r p k s at) (body v r q k s at)
    unfolding body struct_type list_type array_type
    body-within (a_leaf l) at = same _
    body-within (a_struct n) at = next-within _ _ _ _ (columns_within n [] at) (λ cs i. same _)
    body-within a_list at = next-within _ _ _ _ (same (element_label v s at)) (λ l i. next-within _ _ _ _ (w i) (λ t j. same _))
    body-within (an_array x) at = next-within _ _ _ _ (same (element_label v s at)) (λ l i. next-within _ _ _ _ (w i) (λ t j. same _))

  pub type-deeper : (d e : ℕ) → d ≤ e → (at : ℕ) → Within (type v r d s at) (type v r e s at)
  unfolding type
  type-deeper zero e h at = λ x m q. clash (cc)
  type-deeper (suc d) zero h at = absurd (omega arith)
  type-deeper (suc d) (suc e) h at = next-within _ _ _ _ (same (kind s at)) (λ k i. body-within (type v r d) (type v r e) (type-deeper d e (omega arith)) k i)

  pub columns-deeper : (d e : ℕ) → d ≤ e → (n : ℕ) (earlier : List Label) (at : ℕ) → Within (columns v r (type v r d) n earlier s at)
      (columns v r (type v r e) n earlier s at)
  columns-deeper d e h = columns_within (type v r d) (type v r e) (type-deeper d e h)

-- the same tree and the same end
unfoldable pub deeper-type : {v : Edition} {d : ℕ} {s : Bytes} {at : ℕ} → d ≤ deepest → TypeAt v d s at → TypeAt v deepest s at
deeper-type {v} {d} {s} {at} h P = record { tree = P.tree; end = P.end; reads = type-deeper v Free s d deepest h at _ _ P.reads }

unfoldable pub deeper-columns : {v : Edition} {d : ℕ} {s : Bytes} {n at : ℕ} → d ≤ deepest → ColumnsAt v d s n at → ColumnsAt v deepest s n at
deeper-columns {v} {d} {s} {n} {at} h P = record { columns = P.columns; end = P.end; reads = columns-deeper v Free s d deepest h n [] at _ _ P.reads }
