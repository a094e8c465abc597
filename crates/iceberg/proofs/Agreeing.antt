-- Where the types agree, no record meets a difference, and both relations are one. Assumes nothing.
use Prim.Native.Nat.{ℕ}
use mathlib.Core.Path.{◌≡◌, refl, sym, ap₂, ◌∙◌}
use mathlib.Core.Logic.{◌↔◌}
use mathlib.Core.List.{[], ◌++◌}
use Rattle.layout.specs.Tree.{LeafType, Label, ColumnType, carray, Columns}
use Rattle.layout.specs.declared.columns.FieldId.{FieldId}
use Rattle.values.specs.Value.{Value, Values}
use Rattle.plan.proofs.Results.{true≠false}
use Rattle.iceberg.specs.Specification.{Metadata, Missing, Reads, reads-leaf, reads-null, reads_struct, reads-list, ReadsAll, reads-nil, reads-selected}
use Rattle.iceberg.specs.Specification.{reads-missing, ReadsEach, reads_none, reads_more}
use Rattle.iceberg.specs.Differences.{Differences, Place, Missing', Reads', reads-leaf', reads-null', reads-struct', reads-list', any-element, array-read}
use Rattle.iceberg.specs.Differences.{leaf-converted, ReadsAll', reads-nil', reads-selected', reads-missing', ReadsEach', reads-none', reads-more'}
use Rattle.iceberg.specs.Differences.{Agrees, agrees-leaf, agrees-struct, agrees-list, AgreesAll, agrees-nil, agrees-selected, agrees-missing, inside}
use Rattle.iceberg.proofs.Distinct.{DistinctIds, DistinctIdsAll}
use Rattle.iceberg.proofs.Specified.{missing_specified, all_specified}
use Rattle.iceberg.proofs.OneReading.{missing-one, missing'_one, never_both, one_place, distinct-at}

both-none : {ds es ns : Differences} → ds ≡ [] → es ≡ [] → ds ++ es ≡ ns → ns ≡ []
both-none p q e = sym e ∙ ap₂ ◌++◌ p q

module _ (converted : LeafType → LeafType → Value → Value) (M : Metadata) where
  never-arrays : {p : Place} {w : ℕ} {a b : Label} {u t : ColumnType} {X : Type 0} → Agrees M p (carray w b u) (carray w a t) → X
  never-arrays a = elim a [ ]

  of-type : {p : Place} {u t s : ColumnType} → t ≡ s → Agrees M p u t → Agrees M p u s
  of-type e a = rw (← e) a

  mutual
    none-met : {p : Place} {ds : Differences} {u t : ColumnType} {x y : Value} → Reads' converted M p ds u t x y → Agrees M p u t → DistinctIds t → ds ≡ []
    none-met (reads-leaf' p q) a d = refl
    none-met reads-null' a d = refl
    none-met (reads-struct' h) (agrees-struct a) d = all_none h a d
    none-met (reads-list' e m h) (agrees-list f a) d = each_none h a d
    none-met (any-element n o h) (agrees-list f a) d = absurd (n f)
    none-met (array-read h) a d = never-arrays a
    none-met (leaf-converted p n q) (agrees-leaf r) d = true≠false r p

    pub all_none : {p : Place} {ds : Differences} {gs fs : Columns} {xs ys : Values} → ReadsAll' converted M p ds gs fs xs ys → AgreesAll M p gs fs
        → DistinctIdsAll fs → ds ≡ []
    all_none reads-nil' agrees-nil d = refl
    all_none (reads-selected' h m r rs e) (agrees-selected g a bs) d =
        both-none (none-met r (of-type (one_place d g h).1 a) (distinct-at h d)) (all_none rs bs d) e
    all_none (reads-selected' h m r rs e) (agrees-missing l n bs) d = never_both h l
    all_none (reads-missing' l n r rs e) (agrees-selected g a bs) d = never_both g l
    all_none (reads-missing' l n r rs e) (agrees-missing k m bs) d = both-none (missing'_one M r m).0 (all_none rs bs d) e

    each_none : {ds : Differences} {u t : ColumnType} {xs ys : Values} → ReadsEach' converted M ds u t xs ys → Agrees M inside u t → DistinctIds t → ds ≡ []
    each_none reads-none' a d = refl
    each_none (reads-more' r rs e) a d = both-none (none-met r a d) (each_none rs a d) e

  -- ---- the other way: what the specification reads

  missing-agreed : {p : Place} {i : FieldId} {u : ColumnType} {y z : Value} → Missing' M p [] i u y → Missing M i u z → Missing' M p [] i u z
  missing-agreed n m = rw (← missing-one M (missing_specified M n refl) m) n

  mutual
    agreed : {p : Place} {u t : ColumnType} {x y : Value} → Reads converted M u t x y → Agrees M p u t → DistinctIds t → Reads' converted M p [] u t x y
    agreed (reads-leaf p q) a d = reads-leaf' p q
    agreed reads-null a d = reads-null'
    agreed (reads_struct h) (agrees-struct a) d = reads-struct' (all-agreed h a d)
    agreed (reads-list e m h) (agrees-list f a) d = reads-list' e m (each-agreed h a d)

    all-agreed : {p : Place} {gs fs : Columns} {xs ys : Values} → ReadsAll converted M gs fs xs ys → AgreesAll M p gs fs → DistinctIdsAll fs
        → ReadsAll' converted M p [] gs fs xs ys
    all-agreed reads-nil agrees-nil d = reads-nil'
    all-agreed (reads-selected h m r rs) (agrees-selected g a bs) d =
        reads-selected' h m (agreed r (of-type (one_place d g h).1 a) (distinct-at h d)) (all-agreed rs bs d) refl
    all-agreed (reads-selected h m r rs) (agrees-missing l n bs) d = never_both h l
    all-agreed (reads-missing l i m rs) (agrees-selected g a bs) d = never_both g l
    all-agreed (reads-missing l i m rs) (agrees-missing k n bs) d = reads-missing' l i (missing-agreed n m) (all-agreed rs bs d) refl

    each-agreed : {u t : ColumnType} {xs ys : Values} → ReadsEach converted M u t xs ys → Agrees M inside u t → DistinctIds t
        → ReadsEach' converted M [] u t xs ys
    each-agreed reads_none a d = reads-none'
    each-agreed (reads_more r rs) a d = reads-more' (agreed r a d) (each-agreed rs a d) refl

  -- the specification's relation, and the one with the differences
  pub agrees-same : {p : Place} {gs fs : Columns} {xs ys : Values} → AgreesAll M p gs fs → DistinctIdsAll fs
      → ReadsAll converted M gs fs xs ys ↔ ((ds : Differences) × ReadsAll' converted M p ds gs fs xs ys)
  agrees-same a d = (λ r. ([], all-agreed r a d), λ (ds, r). all_specified converted M r (all_none r a d))
