-- A reading that meets none of the differences is the specification's. Assumes nothing.
use mathlib.Core.Path.{◌≡◌, refl}
use mathlib.Core.List.{[], ◌∷◌, ◌++◌}
use Rattle.layout.specs.Tree.{LeafType, ColumnType, Columns}
use Rattle.layout.specs.declared.columns.FieldId.{FieldId}
use Rattle.layout.proofs.Ways.{clash}
use Rattle.values.specs.Value.{Value, vnull, Values}
use Rattle.iceberg.specs.Specification.{Metadata, Initial, by_default, by-empty-struct, by-null, InitialAll, initial-nil, initial-cons, Missing}
use Rattle.iceberg.specs.Specification.{by-partition, by-null-partition, by-initial, Reads, reads-leaf, reads-null, reads_struct, reads-list, ReadsAll}
use Rattle.iceberg.specs.Specification.{reads-nil, reads-selected, reads-missing, ReadsEach, reads_none, reads_more}
use Rattle.iceberg.specs.Differences.{Difference, Differences, Place, Initial', by-default', by-empty-struct', by-none', hidden-default, struct-of-none}
use Rattle.iceberg.specs.Differences.{partition-in-struct, list-default, own_default_lem, InitialAll', initial-nil', initial-cons', Unstated', by-null'}
use Rattle.iceberg.specs.Differences.{struct-together, Missing', by-partition', by-null-partition', by-initial', null-in-element', own-partition}
use Rattle.iceberg.specs.Differences.{in_element_lem, Reads', reads-leaf', reads-null', reads-struct', reads-list', any-element, array-read, leaf-converted}
use Rattle.iceberg.specs.Differences.{ReadsAll', reads-nil', reads-selected', reads-missing', ReadsEach', reads-none', reads-more'}

never_empty : {X : Type 0} {d : Difference} {ds : Differences} → d ∷ ds ≡ [] → X
never_empty e = clash (cc)

-- where both together are none, each is
both-empty : (ds : Differences) {es ns : Differences} → ds ++ es ≡ ns → ns ≡ [] → (ds ≡ []) × (es ≡ [])
both-empty [] p q = (refl, rw (p, q))
both-empty (d ∷ ds) p q = clash (cc)

module _ (M : Metadata) where
  null-unstated : {ds : Differences} {i : FieldId} {u : ColumnType} {y : Value} → Unstated' M ds i u y → ds ≡ [] → y ≡ vnull
  null-unstated (by-null' v) e = refl
  null-unstated (struct-together v h) e = never_empty e

  mutual
    initial-specified : {ds : Differences} {i : FieldId} {u : ColumnType} {y : Value} → Initial' M ds i u y → ds ≡ [] → Initial M i u y
    initial-specified (by-default' p q) e = by_default q
    initial-specified (by-empty-struct' q v h) e = by-empty-struct q (initials-specified h e)
    initial-specified (by-none' q v h) e = rw (null-unstated h e) (by-null q v)
    initial-specified (hidden-default p h q) e = never_empty e
    initial-specified (struct-of-none q v) e = never_empty e
    initial-specified (partition-in-struct p) e = never_empty e
    initial-specified (list-default q) e = never_empty e
    initial-specified (own_default_lem n q h) e = never_empty e

    initials-specified : {ds : Differences} {cs : Columns} {ys : Values} → InitialAll' M ds cs ys → ds ≡ [] → InitialAll M cs ys
    initials-specified initial-nil' e = initial-nil
    initials-specified (initial-cons' {ds} h hs q) e = let (a, b) = both-empty ds q e in initial-cons (initial-specified h a) (initials-specified hs b)

  pub missing_specified : {p : Place} {ds : Differences} {i : FieldId} {u : ColumnType} {y : Value} → Missing' M p ds i u y → ds ≡ [] → Missing M i u y
  missing_specified (by-partition' p) e = by-partition p
  missing_specified (by-null-partition' p v) e = by-null-partition p
  missing_specified (by-initial' p l h) e = by-initial p l (initial-specified h e)
  missing_specified (null-in-element' h) e = h
  missing_specified (own-partition n p v q h) e = never_empty e
  missing_specified (in_element_lem h q) e = never_empty e

module _ (converted : LeafType → LeafType → Value → Value) (M : Metadata) where
  mutual
    reads-specified : {p : Place} {ds : Differences} {u t : ColumnType} {x y : Value} → Reads' converted M p ds u t x y → ds ≡ [] → Reads converted M u t x y
    reads-specified (reads-leaf' p q) e = reads-leaf p q
    reads-specified reads-null' e = reads-null
    reads-specified (reads-struct' h) e = reads_struct (all_specified h e)
    reads-specified (reads-list' p m h) e = reads-list p m (each-specified h e)
    reads-specified (any-element n o h) e = never_empty e
    reads-specified (array-read h) e = never_empty e
    reads-specified (leaf-converted p n q) e = never_empty e

    pub all_specified : {p : Place} {ds : Differences} {gs fs : Columns} {xs ys : Values} → ReadsAll' converted M p ds gs fs xs ys → ds ≡ []
        → ReadsAll converted M gs fs xs ys
    all_specified reads-nil' e = reads-nil
    all_specified (reads-selected' {ds = ds} h m r rs q) e = let (a, b) = both-empty ds q e in reads-selected h m (reads-specified r a) (all_specified rs b)
    all_specified (reads-missing' {ds = ds} h m r rs q) e =
        let (a, b) = both-empty ds q e in reads-missing h m (missing_specified M r a) (all_specified rs b)

    each-specified : {ds : Differences} {u t : ColumnType} {xs ys : Values} → ReadsEach' converted M ds u t xs ys → ds ≡ [] → ReadsEach converted M u t xs ys
    each-specified reads-none' e = reads_none
    each-specified (reads-more' {ds} r rs q) e = let (a, b) = both-empty ds q e in reads_more (reads-specified r a) (each-specified rs b)
