-- Required fields (document 02, L5): where 54 names no difference, and where 55 is of an optional column, the
-- specification has no reading. Assumes nothing.
use Prim.Native.Nat.{ℕ}
use mathlib.Core.Path.{◌≡◌, refl, sym, ap, ◌∙◌}
use mathlib.Core.Bool.{true, false}
use mathlib.Core.List.{[]}
use Rattle.layout.specs.Tree.{LeafType, Label, ColumnType, Columns, ccons}
use Rattle.layout.specs.declared.columns.FieldId.{FieldId}
use Rattle.values.specs.Value.{Value, Values}
use Rattle.plan.proofs.Results.{true≠false}
use Rattle.iceberg.specs.Specification.{Metadata, HasId, id-here, id-there, Lacks, present, may_become, ReadsAll, reads-selected, reads-missing}
use Rattle.iceberg.specs.Differences.{Place, Missing'}
use Rattle.iceberg.proofs.Distinct.{DistinctIdsAll}
use Rattle.iceberg.proofs.Specified.{missing_specified}
use Rattle.iceberg.proofs.OneReading.{missing-one, never_both, lacks_id}

-- one column has the id
one_label : {cs : Columns} {i : FieldId} {j k : ℕ} {a b : Label} {t u : ColumnType} → DistinctIdsAll cs → HasId cs i j a t → HasId cs i k b u → a ≡ b
one_label d (id-here e) (id-here f) = refl
one_label d (id-here e) (id-there h) = never_both h (lacks_id e d.0)
one_label d (id-there h) (id-here e) = never_both h (lacks_id e d.0)
one_label d (id-there h) (id-there g) = one_label d.1.1 h g

not-allowed : (a b : Label) → b.required ≡ true → a.required ≡ false → may_become a b ≡ false
unfolding may_become
not-allowed a b r o = rw (r, o)

module _ (converted : LeafType → LeafType → Value → Value) (M : Metadata) where
  -- "reading a required field that is missing and has no default is an error"
  pub required_errs : {p : Place} {b : Label} {u : ColumnType} {gs fs : Columns} {xs ys : Values} {y : Value} → Lacks fs b.id → Missing' M p [] b.id u y
      → present b u y ≡ false → ReadsAll converted M (ccons b u gs) fs xs ys → ⊥
  required_errs l m e (reads-selected h n r rs) = never_both h l
  required_errs l m e (reads-missing {b = b} {u} k n r rs) = true≠false (sym (ap (present b u) (missing-one M r (missing_specified M m refl))) ∙ n) e

  -- "Widening from optional to required is not allowed"
  pub optional_errs : {a b : Label} {t u : ColumnType} {gs fs : Columns} {k : ℕ} {xs ys : Values} → DistinctIdsAll fs → HasId fs b.id k a t →
      b.required ≡ true
      → a.required ≡ false → ReadsAll converted M (ccons b u gs) fs xs ys → ⊥
  optional_errs {a} d h r o (reads-selected {b = b} g n x rs) = true≠false n (ap (λ (c : Label). may_become c b) (sym (one_label d h g)) ∙ not-allowed a b r o)
  optional_errs d h r o (reads-missing k n x rs) = never_both h k
