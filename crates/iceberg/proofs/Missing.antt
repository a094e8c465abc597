-- A field that the file lacks: what document 01 puts for it reads by the rules and the differences. Assumes nothing.
use Prim.Native.Nat.{ℕ}
use mathlib.Core.Path.{◌≡◌, refl, sym, ap, ap₂, ◌∙◌}
use mathlib.Core.Bool.{Bool, true, false, ◌||◌}
use mathlib.Core.List.{List, [], ◌++◌}
use Rattle.layout.specs.Parser.{choose}
use Rattle.layout.specs.Tree.{LeafType, Label, ColumnType, cleaf, cstruct, clist, carray, Columns, cnil, ccons}
use Rattle.layout.specs.declared.columns.FieldId.{FieldId}
use Rattle.layout.proofs.Ways.{clash}
use Rattle.values.specs.Value.{Value, vnull, vstruct, vlist, Values, is_null_value}
use Rattle.plan.specs.Result.{gives}
use Rattle.plan.proofs.Results.{true≠false, never_refused, gives_eq, bind_gives, demand-gives}
use Rattle.defaults.specs.Table.{Entry}
use Rattle.defaults.specs.Lookup.{Taken, get_default_value}
use Rattle.matching.specs.Default.{Default, none, some, or_null, is_some, leaf_default, FieldDefaults, with_field, struct_default, build_iceberg_default_value}
use Rattle.matching.specs.Default.{defaults_of, missing_value, no_defaults}
use Rattle.iceberg.specs.Specification.{PartitionValue, no_transform, not_present, null_present, partitioned, InitialDefault, undefined, defined, empty}
use Rattle.iceberg.specs.Specification.{Metadata, no_transform_lem, not_present_lem, nothing-defined, no_leafs, no_arrays, Initial, by_default, by-empty-struct}
use Rattle.iceberg.specs.Specification.{by-empty-list, by-null, InitialAll, initial-nil, initial-cons, Missing, by-partition, by-null-partition}
use Rattle.iceberg.specs.Specification.{by-initial}
use Rattle.iceberg.specs.Differences.{Differences, Hiding, hides_not_present, hides_null, unseen_null, unseen_value, Nested, nested_struct, nested_list}
use Rattle.iceberg.specs.Differences.{nested_array, is_defined, leaf_valued, valued, valued_any, Place, outside, inside, Initial', by-default'}
use Rattle.iceberg.specs.Differences.{by-empty-struct', by-none', hidden-default, struct-of-none, partition-in-struct, list-default, own_default_lem}
use Rattle.iceberg.specs.Differences.{InitialAll', initial-nil', initial-cons', by-null', struct-together, Missing', by-partition', by-null-partition'}
use Rattle.iceberg.specs.Differences.{by-initial', null-in-element', own-partition, in_element_lem, MissingAll', missing-nil', missing-cons'}
use Rattle.iceberg.specs.Stated.{stated}
use Rattle.iceberg.proofs.Facts.{Facts, from_tuple, none_in_tuple, from-initial, no_initial, never_accepted, facts}

module _ (M : Metadata) where
  -- with some differences or none, the field reads so
  pub record Reading (p : Place) (i : FieldId) (u : ColumnType) (y : Value) : Type 0 where
    pub differences : Differences
    pub reads : Missing' M p differences i u y

  -- as a field inside `{}`, and as one that is missing on its own
  record Found (i : FieldId) (u : ColumnType) (x : Default) : Type 0 where
    any : valued M i u ≡ is_some x
    ds : Differences
    initial : Initial' M ds i u (or_null x)
    es : Differences
    missing : Missing' M outside es i u (or_null x)

  record FoundAll (cs : Columns) (g : FieldDefaults) : Type 0 where
    any : valued_any M cs ≡ g.any
    ds : Differences
    initial : InitialAll' M ds cs g.values
    es : Differences
    missing : MissingAll' M es cs g.values

  -- ---- a leaf

  -- one that has no value by rules 3 and 4, unless it is hidden
  module _ (i : FieldId) (l : LeafType) where
    none-valued : is_defined (M.initial_default i) ≡ false → M.partition i ≡ no_transform → valued M i (cleaf l) ≡ false
    unfolding valued
    none-valued e p = rw p e

    hiding-valued : (p : PartitionValue) → M.partition i ≡ p → Hiding p → valued M i (cleaf l) ≡ false
    unfolding valued
    hiding-valued not_present e h = ap (λ (p : PartitionValue). leaf_valued p (M.initial_default i)) e
    hiding-valued null_present e h = ap (λ (p : PartitionValue). leaf_valued p (M.initial_default i)) e
    hiding-valued no_transform e h = elim h [ ]
    hiding-valued (partitioned _) e h = elim h [ ]

    null-initial : valued M i (cleaf l) ≡ false → (q : InitialDefault) → M.initial_default i ≡ q → is_defined q ≡ false → Initial' M [] i (cleaf l) vnull
    null-initial v undefined e n = by-none' e nothing-defined (by-null' v)
    null-initial v empty e n = by-none' e no_leafs (by-null' v)
    null-initial v (defined z) e n = clash (cc)

    hidden-initial : (p : PartitionValue) → M.partition i ≡ p → Hiding p → (q : InitialDefault) → M.initial_default i ≡ q
        → (ds : Differences) × Initial' M ds i (cleaf l) vnull
    hidden-initial p e h undefined f = ([], null-initial (hiding-valued p e h) undefined f refl)
    hidden-initial p e h empty f = ([], null-initial (hiding-valued p e h) empty f refl)
    hidden-initial p e h (defined z) f = (_, hidden-default e h f)

    hidden_found : {p : PartitionValue} → M.partition i ≡ p → Hiding p → Found i (cleaf l) none
    hidden_found e hides_not_present =
        let (ds, r) = hidden-initial not_present e hides_not_present _ refl in
        record { any = hiding-valued not_present e hides_not_present; ds = ds; initial = r; es = ds; missing = by-initial' e not_present_lem r }
    hidden_found e hides_null =
        let (ds, r) = hidden-initial null_present e hides_null _ refl in
        record {
          any = hiding-valued null_present e hides_null;
          ds = ds;
          initial = r;
          es = [];
          missing = by-null-partition' e (hiding-valued null_present e hides_null);
        }

    leaf-found : {t : Taken} {x : Default} → Facts (M.partition i) (M.initial_default i) t → leaf_default l t ≡ gives x → Found i (cleaf l) x
    unfolding leaf_default valued
    leaf-found (from_tuple {y = y} e) q =
        let (c, q) = demand-gives _ _ _ q in
        rw (← gives_eq q) (record {
          any = ap (λ (p : PartitionValue). leaf_valued p (M.initial_default i)) e;
          ds = _;
          initial = partition-in-struct e;
          es = _;
          missing = by-partition' e;
        })
    leaf-found (none_in_tuple e h) q = rw (← gives_eq q) (hidden_found e h)
    leaf-found (from-initial e f) q =
        let (c, q) = demand-gives _ _ _ q in
        rw (← gives_eq q) (record {
          any = ap₂ leaf_valued e f;
          ds = _;
          initial = by-default' e f;
          es = _;
          missing = by-initial' e no_transform_lem (by-default' e f);
        })
    leaf-found (no_initial e n) q =
        let r = null-initial (none-valued n e) _ refl n in
        rw (← gives_eq q) (record { any = none-valued n e; ds = _; initial = r; es = _; missing = by-initial' e no_transform_lem r })
    leaf-found never_accepted q = never_refused q refl

  -- ---- a struct, list or array

  nested-missing : {ds : Differences} {i : FieldId} {u : ColumnType} (x : Default) → valued M i u ≡ is_some x → Nested u → Initial' M ds i u (or_null x)
      → (p : PartitionValue) → M.partition i ≡ p → Reading outside i u (or_null x)
  nested-missing x v n r no_transform e = record { differences = _; reads = by-initial' e no_transform_lem r }
  nested-missing x v n r not_present e = record { differences = _; reads = by-initial' e not_present_lem r }
  nested-missing none v n r null_present e = record { differences = _; reads = by-null-partition' e v }
  nested-missing (some y) v n r null_present e = record { differences = _; reads = own-partition n e v unseen_null r }
  nested-missing x v n r (partitioned z) e = record { differences = _; reads = own-partition n e v unseen_value r }

  nested-found : {ds : Differences} {i : FieldId} {u : ColumnType} {x : Default} → valued M i u ≡ is_some x → Nested u → Initial' M ds i u (or_null x)
      → Found i u x
  nested-found {ds} {i} {x = x} v n r =
      let R = nested-missing x v n r (M.partition i) refl in
      record { any = v; ds = ds; initial = r; es = R.differences; missing = R.reads }

  struct-found : {cs : Columns} {g : FieldDefaults} (i : FieldId) → FoundAll cs g → Found i (cstruct cs) (struct_default g)
  unfolding struct_default choose valued
  struct-found {cs} {g} i F = go g.any F.any (M.initial_default i) refl
    where
      go : (b : Bool) → valued_any M cs ≡ b → (q : InitialDefault) → M.initial_default i ≡ q → Found i (cstruct cs) (choose b (some (vstruct g.values)) none)
      go true v undefined e = nested-found v nested_struct (by-none' e nothing-defined (struct-together v F.missing))
      go true v (defined z) e = nested-found v nested_struct (own_default_lem nested_struct e (struct-together v F.missing))
      go true v empty e = nested-found v nested_struct (by-empty-struct' e v F.initial)
      go false v undefined e = nested-found v nested_struct (by-none' e nothing-defined (by-null' v))
      go false v (defined z) e = nested-found v nested_struct (own_default_lem nested_struct e (by-null' v))
      go false v empty e = nested-found v nested_struct (struct-of-none e v)

  list-found : (i : FieldId) (l : Label) (t : ColumnType) (q : InitialDefault) → M.initial_default i ≡ q → Found i (clist l t) none
  unfolding valued
  list-found i l t undefined e = nested-found refl nested_list (by-none' e nothing-defined (by-null' refl))
  list-found i l t (defined z) e = nested-found refl nested_list (own_default_lem nested_list e (by-null' refl))
  list-found i l t empty e = nested-found refl nested_list (list-default e)

  array-found : (i : FieldId) (w : ℕ) (l : Label) (t : ColumnType) (q : InitialDefault) → M.initial_default i ≡ q → Found i (carray w l t) none
  unfolding valued
  array-found i w l t undefined e = nested-found refl nested_array (by-none' e nothing-defined (by-null' refl))
  array-found i w l t (defined z) e = nested-found refl nested_array (own_default_lem nested_array e (by-null' refl))
  array-found i w l t empty e = nested-found refl nested_array (by-none' e no_arrays (by-null' refl))

  cons-found : {l : Label} {t : ColumnType} {cs : Columns} {x : Default} {g : FieldDefaults} → Found l.id t x → FoundAll cs g
      → FoundAll (ccons l t cs) (with_field x g)
  unfolding with_field valued
  cons-found F G =
      record {
        any = ap₂ ◌||◌ F.any G.any;
        ds = F.ds ++ G.ds;
        initial = initial-cons' F.initial G.initial refl;
        es = F.es ++ G.es;
        missing = missing-cons' F.missing G.missing refl;
      }

  -- ---- inside elements

  mutual
    -- the specification has a reading of each missing field
    initial-total : (u : ColumnType) (i : FieldId) → (y : Value) × Initial M i u y
    initial-total (cleaf l) i = go (M.initial_default i) refl
      where
        go : (q : InitialDefault) → M.initial_default i ≡ q → (y : Value) × Initial M i (cleaf l) y
        go undefined e = (_, by-null e nothing-defined)
        go (defined y) e = (_, by_default e)
        go empty e = (_, by-null e no_leafs)
    initial-total (cstruct cs) i = go (initial-all-total cs) (M.initial_default i) refl
      where
        go : (ys : Values) × InitialAll M cs ys → (q : InitialDefault) → M.initial_default i ≡ q → (y : Value) × Initial M i (cstruct cs) y
        go h undefined e = (_, by-null e nothing-defined)
        go h (defined y) e = (_, by_default e)
        go h empty e = (_, by-empty-struct e h.1)
    initial-total (clist l t) i = go (M.initial_default i) refl
      where
        go : (q : InitialDefault) → M.initial_default i ≡ q → (y : Value) × Initial M i (clist l t) y
        go undefined e = (_, by-null e nothing-defined)
        go (defined y) e = (_, by_default e)
        go empty e = (_, by-empty-list e)
    initial-total (carray w l t) i = go (M.initial_default i) refl
      where
        go : (q : InitialDefault) → M.initial_default i ≡ q → (y : Value) × Initial M i (carray w l t) y
        go undefined e = (_, by-null e nothing-defined)
        go (defined y) e = (_, by_default e)
        go empty e = (_, by-null e no_arrays)

    initial-all-total : (cs : Columns) → (ys : Values) × InitialAll M cs ys
    initial-all-total cnil = (_, initial-nil)
    initial-all-total (ccons l t cs) = let (y, r) = initial-total t l.id in let (ys, rs) = initial-all-total cs in (_, initial-cons r rs)

  pub missing_total : (u : ColumnType) (i : FieldId) → (y : Value) × Missing M i u y
  missing_total u i = go (M.partition i) refl
    where
      go : (p : PartitionValue) → M.partition i ≡ p → (y : Value) × Missing M i u y
      go no_transform e = (_, by-initial e no_transform_lem (initial-total u i).1)
      go not_present e = (_, by-initial e not_present_lem (initial-total u i).1)
      go null_present e = (_, by-null-partition e)
      go (partitioned y) e = (_, by-partition e)

  pub null_is : (y : Value) → is_null_value y ≡ true → y ≡ vnull
  null_is vnull e = refl
  null_is (Value.vnumber k n) e = clash (cc)
  null_is (Value.vtext b) e = clash (cc)
  null_is Value.voverflow e = clash (cc)
  null_is (vstruct vs) e = clash (cc)
  null_is (vlist vs) e = clash (cc)
  null_is (Value.varray vs) e = clash (cc)

  element-reading : (i : FieldId) (u : ColumnType) → Reading inside i u vnull
  element-reading i u = let (y, r) = missing_total u i in go y r (is_null_value y) refl
    where
      go : (y : Value) → Missing M i u y → (b : Bool) → is_null_value y ≡ b → Reading inside i u vnull
      go y r true e = record { differences = _; reads = null-in-element' (rw (null_is y e) at r) }
      go y r false e = record { differences = _; reads = in_element_lem r (λ q. true≠false (ap is_null_value q) e) }

-- ---- what document 01 puts

module _ (nulls : Bool) (es : List Entry) (k : ℕ) (empties : FieldId → Bool) where
  mutual
    unfolding build_iceberg_default_value defaults_of valued

    default-found : (t : ColumnType) (i : FieldId) {x : Default} → build_iceberg_default_value (get_default_value es k) i t ≡ gives x
        → Found (stated nulls es k empties) i t x
    default-found (cleaf l) i e = leaf-found (stated nulls es k empties) i l (facts nulls es k empties i) e
    default-found (cstruct cs) i e = let (g, q, e) = bind_gives _ _ e in rw (← gives_eq e) (struct-found (stated nulls es k empties) i (defaults-found cs q))
    default-found (clist l t) i e = rw (← gives_eq e) (list-found (stated nulls es k empties) i l t _ refl)
    default-found (carray w l t) i e = rw (← gives_eq e) (array-found (stated nulls es k empties) i w l t _ refl)

    defaults-found : (cs : Columns) {g : FieldDefaults} → defaults_of (get_default_value es k) cs ≡ gives g → FoundAll (stated nulls es k empties) cs g
    defaults-found cnil e = rw (← gives_eq e) (record { any = refl; ds = []; initial = initial-nil'; es = []; missing = missing-nil' })
    defaults-found (ccons l t cs) e =
        let (x, p, e) = bind_gives _ _ e in
        let (g, q, e) = bind_gives _ _ e in
        rw (← gives_eq e) (cons-found (stated nulls es k empties) (default-found t l.id p) (defaults-found cs q))

  pub value-outside : (b : Label) (u : ColumnType) {y : Value} → missing_value (get_default_value es k) b u ≡ gives y
      → Reading (stated nulls es k empties) outside b.id u y
  unfolding missing_value
  value-outside b u e =
      let (x, p, q) = bind_gives _ _ e in
      let F = default-found u b.id p in
      rw (← gives_eq q) (record { differences = F.es; reads = F.missing })

-- no field has a default where none is found
mutual
  unfolding build_iceberg_default_value defaults_of leaf_default with_field struct_default choose

  no_default : (t : ColumnType) (i : FieldId) {x : Default} → build_iceberg_default_value no_defaults i t ≡ gives x → x ≡ none
  no_default (cleaf l) i e = sym (gives_eq e)
  no_default (cstruct cs) i e = let (g, p, q) = bind_gives _ _ e in sym (gives_eq q) ∙ rw (no_defaults_lem cs p)
  no_default (clist l t) i e = sym (gives_eq e)
  no_default (carray w l t) i e = sym (gives_eq e)

  no_defaults_lem : (cs : Columns) {g : FieldDefaults} → defaults_of no_defaults cs ≡ gives g → g.any ≡ false
  no_defaults_lem cnil e = rw (← gives_eq e) refl
  no_defaults_lem (ccons l t cs) e =
      let (x, p, e) = bind_gives _ _ e in
      let (g, q, e) = bind_gives _ _ e in
      ap (λ (g : FieldDefaults). g.any) (sym (gives_eq e)) ∙ ap₂ (λ (x : Default) (b : Bool). is_some x || b) (no_default t l.id p) (no_defaults_lem cs q)

pub value-inside : (M : Metadata) (b : Label) (u : ColumnType) {y : Value} → missing_value no_defaults b u ≡ gives y → Reading M inside b.id u y
unfolding missing_value
value-inside M b u e =
    let (x, p, q) = bind_gives _ _ e in
    let z = ap or_null (sym (no_default u b.id p)) ∙ gives_eq q in
    rw (← z) (element-reading M b.id u)
