-- The rules with the differences give one reading, and name the same differences for it: the list is complete. The
-- rules alone give one, too. Where the ids of siblings differ, as in every layout of version 2 or 3 that was read.
-- Assumes nothing.
use Prim.Native.Nat.{ℕ, suc}
use mathlib.Core.Path.{◌≡◌, refl, sym, ap, ap₂, ◌∙◌}
use mathlib.Core.Bool.{Bool, true, false}
use mathlib.Core.List.{◌∷◌, ◌++◌}
use Rattle.layout.specs.Tree.{LeafType, Label, ColumnType, cleaf, cstruct, clist, carray, Columns}
use Rattle.layout.specs.declared.columns.FieldId.{FieldId}
use Rattle.layout.proofs.Ways.{clash}
use Rattle.values.specs.Value.{Value, vnull, vstruct, vlist, varray, Values, vcons}
use Rattle.plan.specs.Run.{value_at}
use Rattle.plan.proofs.Results.{true≠false}
use Rattle.iceberg.specs.Specification.{PartitionValue, no_transform, null_present, partitioned, InitialDefault, defined, empty, Metadata, HasId, id-here}
use Rattle.iceberg.specs.Specification.{id-there, Lacks, lacks_cons, Lacking, no_transform_lem, not_present_lem, Valueless, nothing-defined, no_leafs, no_arrays}
use Rattle.iceberg.specs.Specification.{Initial, by_default, by-empty-struct, by-empty-list, by-null, InitialAll, initial-nil, initial-cons, Missing}
use Rattle.iceberg.specs.Specification.{by-partition, by-null-partition, by-initial, Reads, reads-leaf, reads-null, reads_struct, reads-list, ReadsAll}
use Rattle.iceberg.specs.Specification.{reads-nil, reads-selected, reads-missing, ReadsEach, reads_none, reads_more}
use Rattle.iceberg.specs.Differences.{Difference, Differences, array_read, Hiding, hides_not_present, hides_null, Unseen, unseen_null, unseen_value, Nested}
use Rattle.iceberg.specs.Differences.{leaf_valued, valued, valued_any, Place, Initial', by-default', by-empty-struct', by-none', hidden-default}
use Rattle.iceberg.specs.Differences.{struct-of-none, partition-in-struct, list-default, own_default_lem, InitialAll', initial-nil', initial-cons', Unstated'}
use Rattle.iceberg.specs.Differences.{by-null', struct-together, Missing', by-partition', by-null-partition', by-initial', null-in-element'}
use Rattle.iceberg.specs.Differences.{own-partition, in_element_lem, MissingAll', missing-nil', missing-cons', Reads', reads-leaf', reads-null'}
use Rattle.iceberg.specs.Differences.{reads-struct', reads-list', any-element, array-read, leaf-converted, ReadsAll', reads-nil', reads-selected'}
use Rattle.iceberg.specs.Differences.{reads-missing', ReadsEach', reads-none', reads-more'}
use Rattle.iceberg.proofs.Distinct.{DistinctIds, DistinctIdsAll}

-- ---- what is never met together

valueless_defined : {u : ColumnType} {q : InitialDefault} {y : Value} {X : Type 0} → Valueless u q → q ≡ defined y → X
valueless_defined nothing-defined e = clash (cc)
valueless_defined no_leafs e = clash (cc)
valueless_defined no_arrays e = clash (cc)

valueless_struct : {cs : Columns} {q : InitialDefault} {X : Type 0} → Valueless (cstruct cs) q → q ≡ empty → X
valueless_struct nothing-defined e = clash (cc)

valueless_list : {l : Label} {t : ColumnType} {q : InitialDefault} {X : Type 0} → Valueless (clist l t) q → q ≡ empty → X
valueless_list nothing-defined e = clash (cc)

hiding_source : {p : PartitionValue} {X : Type 0} → Hiding p → p ≡ no_transform → X
hiding_source hides_not_present e = clash (cc)
hiding_source hides_null e = clash (cc)

hiding_value : {p : PartitionValue} {y : Value} {X : Type 0} → Hiding p → p ≡ partitioned y → X
hiding_value hides_not_present e = clash (cc)
hiding_value hides_null e = clash (cc)

lacking_value : {p : PartitionValue} {y : Value} {X : Type 0} → Lacking p → p ≡ partitioned y → X
lacking_value no_transform_lem e = clash (cc)
lacking_value not_present_lem e = clash (cc)

lacking_null : {p : PartitionValue} {X : Type 0} → Lacking p → p ≡ null_present → X
lacking_null no_transform_lem e = clash (cc)
lacking_null not_present_lem e = clash (cc)

lacking_unseen : {b : Bool} {p q : PartitionValue} {X : Type 0} → Lacking p → Unseen b q → p ≡ q → X
lacking_unseen l unseen_null e = lacking_null l e
lacking_unseen l unseen_value e = lacking_value l e

unseen_present : {b : Bool} {p : PartitionValue} {X : Type 0} → Unseen b p → p ≡ null_present → b ≡ false → X
unseen_present unseen_null e v = clash (cc)
unseen_present unseen_value e v = clash (cc)

nested_leaf : {l : LeafType} {X : Type 0} → Nested (cleaf l) → X
nested_leaf n = elim n [ ]

partitioned_eq : {x y : Value} → partitioned x ≡ partitioned y → x ≡ y
partitioned_eq e = cc

defined_eq : {x y : Value} → defined x ≡ defined y → x ≡ y
defined_eq e = cc

null_present_lem : {y : Value} {X : Type 0} → vnull ≡ y → (y ≡ vnull → ⊥) → X
null_present_lem e n = absurd (n (sym e))

-- ---- a field that the file lacks, by the rules alone

module _ (M : Metadata) where
  mutual
    initial-one : {i : FieldId} {u : ColumnType} {y z : Value} → Initial M i u y → Initial M i u z → y ≡ z
    initial-one (by_default p) (by_default q) = defined_eq (sym p ∙ q)
    initial-one (by_default p) (by-empty-struct q h) = clash (cc)
    initial-one (by_default p) (by-empty-list q) = clash (cc)
    initial-one (by_default p) (by-null q v) = valueless_defined v (sym q ∙ p)
    initial-one (by-empty-struct p h) (by_default q) = clash (cc)
    initial-one (by-empty-struct p h) (by-empty-struct q g) = ap vstruct (initials-one h g)
    initial-one (by-empty-struct p h) (by-null q v) = valueless_struct v (sym q ∙ p)
    initial-one (by-empty-list p) (by_default q) = clash (cc)
    initial-one (by-empty-list p) (by-empty-list q) = refl
    initial-one (by-empty-list p) (by-null q v) = valueless_list v (sym q ∙ p)
    initial-one (by-null p v) (by_default q) = valueless_defined v (sym p ∙ q)
    initial-one (by-null p v) (by-empty-struct q g) = valueless_struct v (sym p ∙ q)
    initial-one (by-null p v) (by-empty-list q) = valueless_list v (sym p ∙ q)
    initial-one (by-null p v) (by-null q w) = refl

    initials-one : {cs : Columns} {ys zs : Values} → InitialAll M cs ys → InitialAll M cs zs → ys ≡ zs
    initials-one initial-nil initial-nil = refl
    initials-one (initial-cons h hs) (initial-cons g gs) = ap₂ vcons (initial-one h g) (initials-one hs gs)

  pub missing-one : {i : FieldId} {u : ColumnType} {y z : Value} → Missing M i u y → Missing M i u z → y ≡ z
  missing-one (by-partition p) (by-partition q) = partitioned_eq (sym p ∙ q)
  missing-one (by-partition p) (by-null-partition q) = clash (cc)
  missing-one (by-partition p) (by-initial q l h) = lacking_value l (sym q ∙ p)
  missing-one (by-null-partition p) (by-partition q) = clash (cc)
  missing-one (by-null-partition p) (by-null-partition q) = refl
  missing-one (by-null-partition p) (by-initial q l h) = lacking_null l (sym q ∙ p)
  missing-one (by-initial p l h) (by-partition q) = lacking_value l (sym p ∙ q)
  missing-one (by-initial p l h) (by-null-partition q) = lacking_null l (sym p ∙ q)
  missing-one (by-initial p l h) (by-initial q m g) = initial-one h g

-- ---- and with the differences

-- the same differences and the same value
abbrev Same : {A : Type 0} → Differences → Differences → A → A → Type 0
Same ds es y z = (ds ≡ es) × (y ≡ z)

joined : {A : Type 0} {y z : A} {ds es ns ds' es' ns' : Differences} → ds ++ es ≡ ns → ds' ++ es' ≡ ns' → ds ≡ ds' → es ≡ es' → y ≡ z → Same ns ns' y z
joined p q a b c = (sym p ∙ (ap₂ ◌++◌ a b ∙ q), c)

more : {A B : Type 0} (d : Difference) (f : A → B) {ds es : Differences} {y z : A} → Same ds es y z → Same (d ∷ ds) (d ∷ es) (f y) (f z)
more d f s = (ap (λ (ds : Differences). d ∷ ds) s.0, ap f s.1)

under : {A B : Type 0} (f : A → B) {ds es : Differences} {y z : A} → Same ds es y z → Same ds es (f y) (f z)
under f s = (s.0, ap f s.1)

module _ (M : Metadata) where
  valued-unstated : {ds : Differences} {i : FieldId} {l : LeafType} {y z : Value} {X : Type 0} → Unstated' M ds i (cleaf l) y → M.partition i ≡ partitioned z
      → X
  unfolding valued
  valued-unstated {i = i} (by-null' v) e = true≠false (ap (λ (p : PartitionValue). leaf_valued p (M.initial_default i)) e) v

  together-null : (i : FieldId) (cs : Columns) {X : Type 0} → valued M i (cstruct cs) ≡ false → valued_any M cs ≡ true → X
  unfolding valued
  together-null i cs v w = true≠false w v

  mutual
    initial'-one : {ds es : Differences} {i : FieldId} {u : ColumnType} {y z : Value} → Initial' M ds i u y → Initial' M es i u z → Same ds es y z
    initial'-one (by-default' p q) (by-default' r s) = (refl, defined_eq (sym q ∙ s))
    initial'-one (by-default' p q) (by-none' s v h) = valueless_defined v (sym s ∙ q)
    initial'-one (by-default' p q) (hidden-default r h s) = hiding_source h (sym r ∙ p)
    initial'-one (by-default' p q) (partition-in-struct r) = clash (cc)
    initial'-one (by-default' p q) (own_default_lem n s h) = nested_leaf n
    initial'-one (by-empty-struct' q v h) (by-empty-struct' s w g) = under vstruct (initials'-one h g)
    initial'-one (by-empty-struct' q v h) (by-none' s w g) = valueless_struct w (sym s ∙ q)
    initial'-one (by-empty-struct' q v h) (struct-of-none s w) = true≠false v w
    initial'-one (by-empty-struct' q v h) (own_default_lem n s g) = clash (cc)
    initial'-one (by-none' q v h) (by-default' r s) = valueless_defined v (sym q ∙ s)
    initial'-one (by-none' q v h) (by-empty-struct' s w g) = valueless_struct v (sym q ∙ s)
    initial'-one (by-none' q v h) (by-none' s w g) = unstated'-one h g
    initial'-one (by-none' q v h) (hidden-default r g s) = valueless_defined v (sym q ∙ s)
    initial'-one (by-none' q v h) (struct-of-none s w) = valueless_struct v (sym q ∙ s)
    initial'-one (by-none' q v h) (partition-in-struct r) = valued-unstated h r
    initial'-one (by-none' q v h) (list-default s) = valueless_list v (sym q ∙ s)
    initial'-one (by-none' q v h) (own_default_lem n s g) = valueless_defined v (sym q ∙ s)
    initial'-one (hidden-default p h q) (by-default' r s) = hiding_source h (sym p ∙ r)
    initial'-one (hidden-default p h q) (by-none' s w g) = valueless_defined w (sym s ∙ q)
    initial'-one (hidden-default p h q) (hidden-default r g s) = (refl, refl)
    initial'-one (hidden-default p h q) (partition-in-struct r) = hiding_value h (sym p ∙ r)
    initial'-one (hidden-default p h q) (own_default_lem n s g) = nested_leaf n
    initial'-one (struct-of-none q v) (by-empty-struct' s w g) = true≠false w v
    initial'-one (struct-of-none q v) (by-none' s w g) = valueless_struct w (sym s ∙ q)
    initial'-one (struct-of-none q v) (struct-of-none s w) = (refl, refl)
    initial'-one (struct-of-none q v) (own_default_lem n s g) = clash (cc)
    initial'-one (partition-in-struct p) (by-default' r s) = clash (cc)
    initial'-one (partition-in-struct p) (by-none' s w g) = valued-unstated g p
    initial'-one (partition-in-struct p) (hidden-default r g s) = hiding_value g (sym r ∙ p)
    initial'-one (partition-in-struct p) (partition-in-struct r) = (refl, partitioned_eq (sym p ∙ r))
    initial'-one (partition-in-struct p) (own_default_lem n s g) = nested_leaf n
    initial'-one (list-default q) (by-none' s w g) = valueless_list w (sym s ∙ q)
    initial'-one (list-default q) (list-default s) = (refl, refl)
    initial'-one (list-default q) (own_default_lem n s g) = clash (cc)
    initial'-one (own_default_lem n q h) (by-default' r s) = nested_leaf n
    initial'-one (own_default_lem n q h) (by-empty-struct' s w g) = clash (cc)
    initial'-one (own_default_lem n q h) (by-none' s w g) = valueless_defined w (sym s ∙ q)
    initial'-one (own_default_lem n q h) (hidden-default r g s) = nested_leaf n
    initial'-one (own_default_lem n q h) (struct-of-none s w) = clash (cc)
    initial'-one (own_default_lem n q h) (partition-in-struct r) = nested_leaf n
    initial'-one (own_default_lem n q h) (list-default s) = clash (cc)
    initial'-one (own_default_lem n q h) (own_default_lem m s g) = more _ (λ y. y) (unstated'-one h g)

    initials'-one : {ds es : Differences} {cs : Columns} {ys zs : Values} → InitialAll' M ds cs ys → InitialAll' M es cs zs → Same ds es ys zs
    initials'-one initial-nil' initial-nil' = (refl, refl)
    initials'-one (initial-cons' h hs p) (initial-cons' g gs q) =
        let (a, c) = initial'-one h g in
        let (b, d) = initials'-one hs gs in
        joined p q a b (ap₂ vcons c d)

    unstated'-one : {ds es : Differences} {i : FieldId} {u : ColumnType} {y z : Value} → Unstated' M ds i u y → Unstated' M es i u z → Same ds es y z
    unstated'-one (by-null' v) (by-null' w) = (refl, refl)
    unstated'-one (by-null' v) (struct-together {i = i} {cs} w g) = together-null i cs v w
    unstated'-one (struct-together {i = i} {cs} v h) (by-null' w) = together-null i cs w v
    unstated'-one (struct-together v h) (struct-together w g) = more _ vstruct (missings'-one h g)

    pub missing'_one : {p : Place} {ds es : Differences} {i : FieldId} {u : ColumnType} {y z : Value} → Missing' M p ds i u y → Missing' M p es i u z
        → Same ds es y z
    missing'_one (by-partition' p) (by-partition' q) = (refl, partitioned_eq (sym p ∙ q))
    missing'_one (by-partition' p) (by-null-partition' q v) = clash (cc)
    missing'_one (by-partition' p) (by-initial' q l h) = lacking_value l (sym q ∙ p)
    missing'_one (by-partition' p) (own-partition n q v r h) = nested_leaf n
    missing'_one (by-null-partition' p v) (by-partition' q) = clash (cc)
    missing'_one (by-null-partition' p v) (by-null-partition' q w) = (refl, refl)
    missing'_one (by-null-partition' p v) (by-initial' q l h) = lacking_null l (sym q ∙ p)
    missing'_one (by-null-partition' p v) (own-partition n q w r h) = unseen_present r (sym q ∙ p) (sym w ∙ v)
    missing'_one (by-initial' p l h) (by-partition' q) = lacking_value l (sym p ∙ q)
    missing'_one (by-initial' p l h) (by-null-partition' q v) = lacking_null l (sym p ∙ q)
    missing'_one (by-initial' p l h) (by-initial' q m g) = initial'-one h g
    missing'_one (by-initial' p l h) (own-partition n q v r g) = lacking_unseen l r (sym p ∙ q)
    missing'_one (null-in-element' h) (null-in-element' g) = (refl, refl)
    missing'_one (null-in-element' h) (in_element_lem g n) = null_present_lem (missing-one M h g) n
    missing'_one (own-partition n p v r h) (by-partition' q) = nested_leaf n
    missing'_one (own-partition n p v r h) (by-null-partition' q w) = unseen_present r (sym p ∙ q) (sym v ∙ w)
    missing'_one (own-partition n p v r h) (by-initial' q m g) = lacking_unseen m r (sym q ∙ p)
    missing'_one (own-partition n p v r h) (own-partition m q w s g) = more _ (λ y. y) (initial'-one h g)
    missing'_one (in_element_lem h n) (null-in-element' g) = null_present_lem (missing-one M g h) n
    missing'_one (in_element_lem h n) (in_element_lem g m) = (refl, refl)

    missings'-one : {ds es : Differences} {cs : Columns} {ys zs : Values} → MissingAll' M ds cs ys → MissingAll' M es cs zs → Same ds es ys zs
    missings'-one missing-nil' missing-nil' = (refl, refl)
    missings'-one (missing-cons' h hs p) (missing-cons' g gs q) =
        let (a, c) = missing'_one h g in
        let (b, d) = missings'-one hs gs in
        joined p q a b (ap₂ vcons c d)

-- ---- a row

pub never_both : {cs : Columns} {i : FieldId} {k : ℕ} {a : Label} {t : ColumnType} {X : Type 0} → HasId cs i k a t → Lacks cs i → X
never_both (id-here e) (lacks_cons n l) = absurd (n e)
never_both (id-there h) (lacks_cons n l) = never_both h l

pub lacks_id : {cs : Columns} {i j : FieldId} → i ≡ j → Lacks cs i → Lacks cs j
lacks_id e l = rw (← e) l

pub one_place : {cs : Columns} {i : FieldId} {j k : ℕ} {a b : Label} {t u : ColumnType} → DistinctIdsAll cs → HasId cs i j a t → HasId cs i k b u →
    (j ≡ k) × (t ≡ u)
one_place d (id-here e) (id-here f) = (refl, refl)
one_place d (id-here e) (id-there h) = never_both h (lacks_id e d.0)
one_place d (id-there h) (id-here e) = never_both h (lacks_id e d.0)
one_place d (id-there h) (id-there g) = let (p, q) = one_place d.1.1 h g in (ap suc p, q)

pub distinct-at : {cs : Columns} {i : FieldId} {k : ℕ} {a : Label} {t : ColumnType} → HasId cs i k a t → DistinctIdsAll cs → DistinctIds t
distinct-at (id-here e) d = d.1.0
distinct-at (id-there h) d = distinct-at h d.1.1

module _ (converted : LeafType → LeafType → Value → Value) (M : Metadata) (null : (l m : LeafType) → converted l m vnull ≡ vnull) where
  -- the same place of the same values
  moved : {u t s : ColumnType} (xs : Values) {j k : ℕ} {y : Value} → k ≡ j → s ≡ t → Reads converted M u s (value_at xs k) y
      → Reads converted M u t (value_at xs j) y
  moved xs p q r = rw (← p, ← q) r

  moved' : {o : Place} {ds : Differences} {u t s : ColumnType} (xs : Values) {j k : ℕ} {y : Value} → k ≡ j → s ≡ t
      → Reads' converted M o ds u s (value_at xs k) y → Reads' converted M o ds u t (value_at xs j) y
  moved' xs p q r = rw (← p, ← q) r

  mutual
    reads-one : {u t : ColumnType} {x y z : Value} → DistinctIds t → Reads converted M u t x y → Reads converted M u t x z → y ≡ z
    reads-one d (reads-leaf p e) (reads-leaf q f) = sym e ∙ f
    reads-one d (reads-leaf {l} {m} p e) reads-null = sym e ∙ null l m
    reads-one d reads-null (reads-leaf {l} {m} p e) = sym (null l m) ∙ e
    reads-one d reads-null reads-null = refl
    reads-one d (reads_struct h) (reads_struct g) = ap vstruct (all_one d h g)
    reads-one d (reads-list e m h) (reads-list f n g) = ap vlist (each-one d h g)

    pub all_one : {gs fs : Columns} {xs ys zs : Values} → DistinctIdsAll fs → ReadsAll converted M gs fs xs ys → ReadsAll converted M gs fs xs zs → ys ≡ zs
    all_one d reads-nil reads-nil = refl
    all_one {xs = xs} d (reads-selected h m r rs) (reads-selected g n s ss) =
        let (p, q) = one_place d h g in
        ap₂ vcons (reads-one (distinct-at h d) r (moved xs (sym p) (sym q) s)) (all_one d rs ss)
    all_one d (reads-selected h m r rs) (reads-missing l j s ss) = never_both h l
    all_one d (reads-missing l i r rs) (reads-selected h n s ss) = never_both h l
    all_one d (reads-missing l i r rs) (reads-missing m j s ss) = ap₂ vcons (missing-one M r s) (all_one d rs ss)

    each-one : {u t : ColumnType} {xs ys zs : Values} → DistinctIds t → ReadsEach converted M u t xs ys → ReadsEach converted M u t xs zs → ys ≡ zs
    each-one d reads_none reads_none = refl
    each-one d (reads_more r rs) (reads_more s ss) = ap₂ vcons (reads-one d r s) (each-one d rs ss)

  -- a reading of an array, whose width stands in both types: a match on two readings would need that twice
  data ArrayView : ColumnType → ColumnType → Value → Differences → Value → Type 0 where
    is_array : {w v : ℕ} {b a : Label} {u t : ColumnType} {xs ys : Values} {ds : Differences} → ReadsEach' converted M ds u t xs ys
        → ArrayView (carray w b u) (carray v a t) (varray xs) (array_read ∷ ds) (varray ys)

  abbrev IsArrayType : ColumnType → Type 0
  IsArrayType (cleaf l) = ⊥
  IsArrayType (cstruct cs) = ⊥
  IsArrayType (clist l t) = ⊥
  IsArrayType (carray w l t) = Unit {0}

  array_view : {o : Place} {es : Differences} {u t : ColumnType} {x z : Value} → Reads' converted M o es u t x z → IsArrayType u → (x ≡ vnull → ⊥)
      → ArrayView u t x es z
  array_view (reads-leaf' p e) i n = absurd i
  array_view reads-null' i n = absurd (n refl)
  array_view (reads-struct' h) i n = absurd i
  array_view (reads-list' e j h) i n = absurd i
  array_view (any-element m a h) i n = absurd i
  array_view (array-read h) i n = is_array h
  array_view (leaf-converted p m e) i n = absurd i

  array_one : {w v : ℕ} {b a : Label} {ds es : Differences} {u t : ColumnType} {xs ys : Values} {z : Value}
      → ((ns : Differences) (zs : Values) → ReadsEach' converted M ns u t xs zs → Same ds ns ys zs)
      → ArrayView (carray w b u) (carray v a t) (varray xs) es z → Same (array_read ∷ ds) es (varray ys) z
  array_one f (is_array k) = more _ varray (f _ _ k)

  mutual
    reads'-one : {o : Place} {ds es : Differences} {u t : ColumnType} {x y z : Value} → DistinctIds t → Reads' converted M o ds u t x y
        → Reads' converted M o es u t x z → Same ds es y z
    reads'-one d (reads-leaf' p e) (reads-leaf' q f) = (refl, sym e ∙ f)
    reads'-one d (reads-leaf' {l = l} {m} p e) reads-null' = (refl, sym e ∙ null l m)
    reads'-one d (reads-leaf' p e) (leaf-converted q n f) = true≠false p q
    reads'-one d reads-null' (reads-leaf' {l = l} {m} p e) = (refl, sym (null l m) ∙ e)
    reads'-one d reads-null' reads-null' = (refl, refl)
    reads'-one d reads-null' (leaf-converted q n f) = null_present_lem refl n
    reads'-one d (reads-struct' h) (reads-struct' g) = under vstruct (all'_one d h g)
    reads'-one d (reads-list' e i h) (reads-list' f j g) = under vlist (each'-one d h g)
    reads'-one d (reads-list' e i h) (any-element n a g) = absurd (n e)
    reads'-one d (any-element n a h) (reads-list' f j g) = absurd (n f)
    reads'-one d (any-element n a h) (any-element m b g) = more _ vlist (each'-one d h g)
    reads'-one d (array-read h) g = array_one (λ ns zs k. each'-one d h k) (array_view g tt (λ e. clash (cc)))
    reads'-one d (leaf-converted p n e) (reads-leaf' q f) = true≠false q p
    reads'-one d (leaf-converted p n e) reads-null' = null_present_lem refl n
    reads'-one d (leaf-converted p n e) (leaf-converted q m f) = (refl, sym e ∙ f)

    pub all'_one : {o : Place} {ds es : Differences} {gs fs : Columns} {xs ys zs : Values} → DistinctIdsAll fs → ReadsAll' converted M o ds gs fs xs ys
        → ReadsAll' converted M o es gs fs xs zs → Same ds es ys zs
    all'_one d reads-nil' reads-nil' = (refl, refl)
    all'_one {xs = xs} d (reads-selected' h m r rs e) (reads-selected' g n s ss f) =
        let (p, q) = one_place d h g in
        let (a, x) = reads'-one (distinct-at h d) r (moved' xs (sym p) (sym q) s) in
        let (b, y) = all'_one d rs ss in
        joined e f a b (ap₂ vcons x y)
    all'_one d (reads-selected' h m r rs e) (reads-missing' l j s ss f) = never_both h l
    all'_one d (reads-missing' l i r rs e) (reads-selected' h n s ss f) = never_both h l
    all'_one d (reads-missing' l i r rs e) (reads-missing' m j s ss f) =
        let (a, x) = missing'_one M r s in
        let (b, y) = all'_one d rs ss in
        joined e f a b (ap₂ vcons x y)

    each'-one : {ds es : Differences} {u t : ColumnType} {xs ys zs : Values} → DistinctIds t → ReadsEach' converted M ds u t xs ys
        → ReadsEach' converted M es u t xs zs → Same ds es ys zs
    each'-one d reads-none' reads-none' = (refl, refl)
    each'-one d (reads-more' r rs e) (reads-more' s ss f) =
        let (a, x) = reads'-one d r s in
        let (b, y) = each'-one d rs ss in
        joined e f a b (ap₂ vcons x y)
