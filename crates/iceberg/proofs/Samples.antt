-- The smallest input of each difference, computed: what is built and run, its reading with the differences that it
-- names, and the specification's where it has one.
use Prim.Native.Nat.{ℕ}
use mathlib.Core.Path.{◌≡◌, refl, ap}
use native.Mathlib.Omega.{arith}
use mathlib.Core.Bool.{Bool, true, false}
use mathlib.Core.List.{List, [], ◌∷◌}
use lib.Dec.{eqb}
use Rattle.layout.specs.Bytes.{same_bytes}
use Rattle.layout.specs.Parser.{ok, choose}
use Rattle.layout.specs.Tree.{LeafType, null, date, datetime, decimal, Label, ColumnType, cleaf, cstruct, clist, carray, Columns, cnil, integer}
use Rattle.layout.specs.Tree.{ccons, count_columns, dtype_of, fields_of}
use Rattle.layout.specs.Layout.{layout}
use Rattle.layout.specs.Find.{find_from}
use Rattle.layout.specs.declared.columns.FieldId.{FieldId}
use Rattle.layout.specs.declared.leaf.Decimal.{Decimal}
use Rattle.layout.specs.declared.leaf.Leaf.{Leaf}
use Rattle.layout.specs.declared.leaf.Leaf.TheVariants.{Date}
use Rattle.layout.specs.declared.leaf.TimeUnit.TheVariants.{Microseconds}
use Rattle.layout.specs.declared.edition.Edition.TheVariants.{Two}
use Rattle.layout.specs.declared.matching.Matching.TheVariants.{ByNumber}
use Rattle.layout.proofs.Ways.{clash}
use Rattle.forms.specs.Form.{form, leaf_form, carried, text_bytes}
use Rattle.forms.specs.Same.{equal_types}
use Rattle.rules.specs.declared.policy.Policy.{Policy}
use Rattle.rules.specs.Policies.{policy_of, all_on}
use Rattle.rules.specs.Zones.{zones_of, read_zone, is_utc}
use Rattle.rules.specs.Params.{decimals_of, params_of}
use Rattle.rules.specs.Chain.{chain}
use Rattle.rules.specs.Pairs.{pair_rule}
use Rattle.values.specs.Value.{Value, vnull, vnumber, vstruct, vlist, varray, Values, vnil, vcons}
use Rattle.defaults.specs.Table.{initial, partition, failed, Entry}
use Rattle.defaults.specs.Lookup.{unless_null, of_source, given_to, first_entry_of, get_default_value}
use Rattle.numeric.specs.Integers.{signed, unsigned, number_of, pattern, widened}
use Rattle.plan.specs.Convert.{counted, rescaled, convert_as, convert}
use Rattle.plan.specs.Result.{Answer, accepted, refused_at, ◌>>=◌, demand, placed, answered}
use Rattle.plan.specs.Selector.{count_selectors}
use Rattle.plan.specs.Nullness.{nullness_at, of_value, of_fields, of_elements}
use Rattle.plan.specs.Marks.{allowed, meets, meets_all}
use Rattle.plan.specs.Run.{value_at, map_values, on_struct, on_list, on_array, cast_leaf, cast_value, eval, evals}
use Rattle.plan.proofs.Results.{true≠false}
use Rattle.matching.specs.Default.{leaf_default, with_field, struct_default, build_iceberg_default_value, defaults_of, missing_value}
use Rattle.matching.specs.Build.{leaf_part, struct_part, list_part, array_part, is_null_type, unless_null_type, renamed, same_element, distinct, no_extra_of, extra_column_err}
use Rattle.matching.specs.Build.{extra_columns, missing, ruled}
use Rattle.matching.specs.Build.{is_position, in_place_of, struct_selector, list_selector, array_selector, sought, attach_transforms, attach_fields, build_column_selector}
use Rattle.matching.specs.Build.{keeps_required, fills_required, build_from, build}
use Rattle.matching.specs.Due.{due_leaf}
use Rattle.matching.proofs.Samples.{laid_out}
use Rattle.iceberg.specs.Specification.{HasId, id-here, id-there, lacks_nil, lacks_cons, Metadata, no_transform_lem, not_present_lem, nothing-defined, present}
use Rattle.iceberg.specs.Specification.{may_become, promotes}
use Rattle.iceberg.specs.Specification.{by_default, by-empty-struct, by-empty-list, by-null, initial-nil, initial-cons, by-partition, by-null-partition}
use Rattle.iceberg.specs.Specification.{by-initial, Reads, reads-leaf, reads-null, reads_struct, reads-list, ReadsAll, reads-nil, reads-selected}
use Rattle.iceberg.specs.Specification.{reads-missing, reads_none, reads_more}
use Rattle.iceberg.specs.Differences.{Differences, hidden_default, struct_together, struct_of_none, partition_in_struct, list_default, own_partition, own_default}
use Rattle.iceberg.specs.Differences.{in_element, any_element, array_read, leaf_converted, hides_not_present, unseen_value, nested_struct, OneIsAny}
use Rattle.iceberg.specs.Differences.{incoming_is-any, valued, outside, Missing', by-default', by-none', hidden-default, struct-of-none}
use Rattle.iceberg.specs.Differences.{partition-in-struct}
use Rattle.iceberg.specs.Differences.{list-default, own_default_lem, by-empty-struct', initial-nil', initial-cons', by-null', struct-together}
use Rattle.iceberg.specs.Differences.{by-null-partition', by-initial', own-partition, in_element_lem, missing-nil', missing-cons', target_is-any, reads-leaf'}
use Rattle.iceberg.specs.Differences.{reads-struct', reads-list', any-element, array-read, leaf-converted, ReadsAll', reads-nil', reads-selected'}
use Rattle.iceberg.specs.Differences.{reads-missing', reads-none', reads-more', AgreesAll, agrees-nil, agrees-selected, agrees-missing}
use Rattle.iceberg.specs.Differences.{agrees-leaf, agrees-struct}
use Rattle.iceberg.specs.Refusals.{entry_here, entry-there, of_initial, leaf_for_nested, extra_here, partition-failed, default-type, leaf-pair}
use Rattle.iceberg.specs.Refusals.{not-required, optional-selected, missing-required}
use Rattle.iceberg.specs.Refusals.{other-kind, list-ids, extra_field, in_struct, RefusesAny, at-selected, missing-raised, missing-default, RefusesBuild}
use Rattle.iceberg.specs.Refusals.{extra_column}
use Rattle.iceberg.specs.Stated.{tuple_at, partition_of, initial_of, stated}
use Rattle.iceberg.proofs.Facts.{hiding_null}
use Rattle.iceberg.proofs.Required.{required_errs, optional_errs}
use Rattle.numeric.specs.declared.integers.Integer.TheVariants.{Int8, Int16, Int32, Int64, UInt8}

-- what a build by number and its run over the values ρ give at source 0
computed : Policy → List Entry → Columns → Columns → Values → Answer Values
unfolding keeps_required fills_required present may_become allowed meets meets_all of_value of_fields of_elements nullness_at
    build build_from build_column_selector attach_transforms attach_fields sought missing missing_value build_iceberg_default_value defaults_of leaf_default
    with_field struct_default get_default_value first_entry_of given_to of_source unless_null leaf_part struct_part list_part array_part is_null_type unless_null_type renamed
    same_element distinct no_extra_of extra_column_err extra_columns ruled is_position in_place_of struct_selector list_selector array_selector find_from same_bytes
    equal_types form leaf_form carried
    dtype_of fields_of count_columns count_selectors choose ◌>>=◌ demand placed answered eval evals value_at map_values on_struct on_list on_array cast_leaf cast_value
    pair_rule chain params_of decimals_of zones_of read_zone is_utc convert convert_as counted rescaled widened number_of signed unsigned pattern
computed p es Γ Δ ρ = answered (build ByNumber p (get_default_value es 0) Γ Δ) (λ ss. accepted (evals ρ ss))

-- ---- the parts of the samples

abbrev label : ℕ → ℕ → Label
label c i = record { name = c ∷ []; id = record { 0 = i }; required = false }

-- nothing; t#1 struct{}; a#2:int8; t#1 struct{a#2:int8}; t#1 struct{a#2:int8,b#3:int8}; t#1 list<e#i t>
abbrev none : Columns
none = cnil

abbrev bare : Columns
bare = ccons (label 0x74 1) (cstruct cnil) cnil

abbrev field : Columns
field = ccons (label 0x61 2) (cleaf (integer Int8)) cnil

abbrev whole : Columns
whole = ccons (label 0x74 1) (cstruct field) cnil

abbrev wide : Columns
wide = ccons (label 0x74 1) (cstruct (ccons (label 0x61 2) (cleaf (integer Int8)) (ccons (label 0x62 3) (cleaf (integer Int8)) cnil))) cnil

abbrev listed : ℕ → ColumnType → Columns
listed i t = ccons (label 0x74 1) (clist (label 0x65 i) t) cnil

abbrev one : Value → Values
one v = vcons v vnil

-- a struct of no field; of one
abbrev empty_row : Values
empty_row = one (vstruct vnil)

abbrev row : Value → Values
row v = one (vstruct (one v))

abbrev five : Value
five = vnumber (Leaf.Integer Int8) 5

abbrev seven : Value
seven = vnumber (Leaf.Integer Int8) 7

abbrev nine : Value
nine = vnumber (Leaf.Integer Int8) 9

abbrev initially : ℕ → Entry
initially i = record { id = record { 0 = i }; given = initial (integer Int8) seven }

abbrev partitions : ℕ → Values → Entry
partitions i vs = record { id = record { 0 = i }; given = partition (integer Int8) vs }

-- t has the default `{}` or `[]`
abbrev empty_one : FieldId → Bool
empty_one i = eqb i.0 1

abbrev none_empty : FieldId → Bool
none_empty i = false

-- what is built and run gives ys, which reads with the differences ds; the specification reads zs. `nulls`: whether a
-- null partition value is present
record Sample (nulls : Bool) (es : List Entry) (empties : FieldId → Bool) (Γ Δ : Columns) (ρ : Values) (ds : Differences) (ys zs : Values) : Type 0 where
  ours : computed all_on es Γ Δ ρ ≡ accepted ys
  reads : ReadsAll' due_leaf (stated nulls es 0 empties) outside ds Δ Γ ρ ys
  theirs : ReadsAll due_leaf (stated nulls es 0 empties) Δ Γ ρ zs

-- the same where the specification has no reading
record Own (es : List Entry) (Γ Δ : Columns) (ρ : Values) (ds : Differences) (ys : Values) : Type 0 where
  ours : computed all_on es Γ Δ ρ ≡ accepted ys
  reads : ReadsAll' due_leaf (stated false es 0 none_empty) outside ds Δ Γ ρ ys
  theirs : (zs : Values) → ReadsAll due_leaf (stated false es 0 none_empty) Δ Γ ρ zs → ⊥

not_null : {k : Leaf} {n : ℕ} → vnumber k n ≡ vnull → ⊥
not_null e = clash (cc)

-- ---- no difference

-- a defaulted field that is added to a struct
added : Sample false (initially 2 ∷ []) none_empty bare whole empty_row [] (row seven) (row seven)
unfolding computed stated partition_of initial_of first_entry_of choose value_at
added =
    record {
      ours = refl;
      reads =
          reads-selected' (id-here refl) refl
          (reads-struct' (reads-missing' lacks_nil refl (by-initial' refl no_transform_lem (by-default' refl refl)) reads-nil' refl)) reads-nil' refl;
      theirs = reads-selected (id-here refl) refl (reads_struct (reads-missing lacks_nil refl (by-initial refl no_transform_lem (by_default refl))
          reads-nil)) reads-nil;
    }

-- whatever the record holds
added_agrees : AgreesAll (stated false (initially 2 ∷ []) 0 none_empty) outside whole bare
unfolding stated partition_of initial_of first_entry_of choose
added_agrees =
    agrees-selected (id-here refl)
    (agrees-struct (agrees-missing lacks_nil (by-initial' refl no_transform_lem (by-default' {y = seven} refl refl)) agrees-nil)) agrees-nil

-- t#1 struct{a#1:int8}: ids are unique among siblings only
abbrev repeated : Columns
repeated = ccons (label 0x74 1) (cstruct (ccons (label 0x61 1) (cleaf (integer Int8)) cnil)) cnil

repeated_read : layout (0x4C ∷ 0x41 ∷ 0x59 ∷ 2 ∷ 0 ∷ 1 ∷ 0 ∷ 1 ∷ 0x74 ∷ 1 ∷ 0 ∷ 0 ∷ 0 ∷ 18 ∷ 1 ∷ 0 ∷ 1 ∷ 0x61 ∷ 1 ∷ 0 ∷ 0 ∷ 0 ∷ 2 ∷ [])
    ≡ ok (record { edition = Two; columns = repeated }) 23
unfolding laid_out
repeated_read = refl

repeated_reads : Sample false [] none_empty repeated repeated (row five) [] (row five) (row five)
unfolding computed stated choose value_at promotes due_leaf equal_types form leaf_form carried same_bytes
repeated_reads =
    record {
      ours = refl;
      reads =
          reads-selected' (id-here refl) refl (reads-struct' (reads-selected' (id-here refl) refl (reads-leaf' refl refl) reads-nil' refl)) reads-nil' refl;
      theirs = reads-selected (id-here refl) refl (reads_struct (reads-selected (id-here refl) refl (reads-leaf refl refl) reads-nil)) reads-nil;
    }

-- ---- the differences

-- a partition value that is past the end hides the initial default,
hidden : Sample false (initially 2 ∷ partitions 2 vnil ∷ []) none_empty bare whole empty_row (hidden_default ∷ []) (row vnull) (row seven)
unfolding computed stated partition_of tuple_at initial_of first_entry_of choose value_at
hidden =
    record {
      ours = refl;
      reads =
          reads-selected' (id-here refl) refl
          (reads-struct' (reads-missing' lacks_nil refl (by-initial' refl not_present_lem (hidden-default refl hides_not_present refl)) reads-nil' refl))
          reads-nil' refl;
      theirs = reads-selected (id-here refl) refl (reads_struct (reads-missing lacks_nil refl (by-initial refl not_present_lem (by_default refl))
          reads-nil)) reads-nil;
    }

-- and one that is null, where a null is not present;
hidden-null : Sample false (initially 2 ∷ partitions 2 (one vnull) ∷ []) none_empty bare whole empty_row (hidden_default ∷ []) (row vnull) (row seven)
unfolding computed stated partition_of tuple_at initial_of first_entry_of choose value_at
hidden-null =
    record {
      ours = refl;
      reads =
          reads-selected' (id-here refl) refl
          (reads-struct' (reads-missing' lacks_nil refl (by-initial' refl not_present_lem (hidden-default refl hides_not_present refl)) reads-nil' refl))
          reads-nil' refl;
      theirs = reads-selected (id-here refl) refl (reads_struct (reads-missing lacks_nil refl (by-initial refl not_present_lem (by_default refl))
          reads-nil)) reads-nil;
    }

-- where it is, both read null.
null-is-present : Sample true (initially 2 ∷ partitions 2 (one vnull) ∷ []) none_empty bare whole empty_row [] (row vnull) (row vnull)
unfolding computed stated partition_of tuple_at initial_of first_entry_of choose value_at valued
null-is-present =
    record {
      ours = refl;
      reads =
          reads-selected' (id-here refl) refl (reads-struct' (reads-missing' lacks_nil refl (by-null-partition' refl refl) reads-nil' refl)) reads-nil' refl;
      theirs = reads-selected (id-here refl) refl (reads_struct (reads-missing lacks_nil refl (by-null-partition refl) reads-nil)) reads-nil;
    }

-- Inside `{}` the specification looks at initial defaults alone: there a null partition value hides one either way.
hidden-in_struct : (nulls : Bool)
    → Sample nulls (initially 2 ∷ initially 3 ∷ partitions 3 (one vnull) ∷ []) empty_one none wide vnil (hidden_default ∷ [])
    (one (vstruct (vcons seven (one vnull)))) (one (vstruct (vcons seven (one seven))))
unfolding computed stated partition_of tuple_at initial_of first_entry_of choose valued
hidden-in_struct nulls =
    record {
      ours = refl;
      reads =
          reads-missing' lacks_nil refl
          (by-initial' refl no_transform_lem
          (by-empty-struct' refl refl
          (initial-cons' (by-default' refl refl) (initial-cons' (hidden-default refl (hiding_null nulls) refl) initial-nil' refl) refl)))
          reads-nil' refl;
      theirs =
          reads-missing lacks_nil refl
          (by-initial refl no_transform_lem (by-empty-struct refl (initial-cons (by_default refl) (initial-cons (by_default refl) initial-nil)))) reads-nil;
    }

-- a struct's default is made of its fields'
together : Sample false (initially 2 ∷ []) none_empty none whole vnil (struct_together ∷ []) (row seven) (one vnull)
unfolding computed stated partition_of initial_of first_entry_of choose value_at valued
together =
    record {
      ours = refl;
      reads =
          reads-missing' lacks_nil refl
          (by-initial' refl no_transform_lem
          (by-none' refl nothing-defined (struct-together refl (missing-cons' (by-initial' refl no_transform_lem (by-default' refl refl)) missing-nil' refl))))
          reads-nil' refl;
      theirs = reads-missing lacks_nil refl (by-initial refl no_transform_lem (by-null refl nothing-defined)) reads-nil;
    }

-- .. and is null where all are none
of_none : Sample false [] empty_one none whole vnil (struct_of_none ∷ []) (one vnull) (row vnull)
unfolding computed stated partition_of initial_of first_entry_of choose value_at valued
of_none =
    record {
      ours = refl;
      reads = reads-missing' lacks_nil refl (by-initial' refl no_transform_lem (struct-of-none refl refl)) reads-nil' refl;
      theirs =
          reads-missing lacks_nil refl (by-initial refl no_transform_lem (by-empty-struct refl (initial-cons (by-null refl nothing-defined) initial-nil)))
          reads-nil;
    }

-- .. and holds partition values
partition-inside : Sample false (initially 2 ∷ partitions 2 (one nine) ∷ []) empty_one none whole vnil (partition_in_struct ∷ []) (row nine) (row seven)
unfolding computed stated partition_of tuple_at initial_of first_entry_of choose value_at valued
partition-inside =
    record {
      ours = refl;
      reads =
          reads-missing' lacks_nil refl (by-initial' refl no_transform_lem (by-empty-struct' refl refl
          (initial-cons' (partition-in-struct refl) initial-nil' refl)))
          reads-nil' refl;
      theirs = reads-missing lacks_nil refl (by-initial refl no_transform_lem (by-empty-struct refl (initial-cons (by_default refl) initial-nil))) reads-nil;
    }

-- a list's own default `[]` is not looked at
empty-list : Sample false [] empty_one none (listed 9 (cleaf (integer Int8))) vnil (list_default ∷ []) (one vnull) (one (vlist vnil))
unfolding computed stated partition_of initial_of first_entry_of choose value_at valued
empty-list =
    record {
      ours = refl;
      reads = reads-missing' lacks_nil refl (by-initial' refl no_transform_lem (list-default refl)) reads-nil' refl;
      theirs = reads-missing lacks_nil refl (by-initial refl no_transform_lem (by-empty-list refl)) reads-nil;
    }

-- a partition value under a struct's, list's or array's own id is not looked at
partition_of-struct : Sample false (partitions 1 (one nine) ∷ []) none_empty none whole vnil (own_partition ∷ []) (one vnull) (one nine)
unfolding computed stated partition_of tuple_at initial_of first_entry_of choose value_at valued
partition_of-struct =
    record {
      ours = refl;
      reads =
          reads-missing' lacks_nil refl (own-partition nested_struct refl refl unseen_value (by-none' refl nothing-defined (by-null' refl))) reads-nil' refl;
      theirs = reads-missing lacks_nil refl (by-partition refl) reads-nil;
    }

-- nor is an initial default there
default_of_struct : Sample false (initially 1 ∷ []) none_empty none whole vnil (own_default ∷ []) (one vnull) (one seven)
unfolding computed stated partition_of initial_of first_entry_of choose value_at valued
default_of_struct =
    record {
      ours = refl;
      reads = reads-missing' lacks_nil refl (by-initial' refl no_transform_lem (own_default_lem nested_struct refl (by-null' refl))) reads-nil' refl;
      theirs = reads-missing lacks_nil refl (by-initial refl no_transform_lem (by_default refl)) reads-nil;
    }

-- no default inside elements
in_elements_lem : Sample false (initially 2 ∷ []) none_empty (listed 9 (cstruct cnil)) (listed 9 (cstruct field)) (one (vlist empty_row)) (in_element ∷ [])
    (one (vlist (row vnull))) (one (vlist (row seven)))
unfolding computed stated partition_of initial_of first_entry_of choose value_at
in_elements_lem =
    record {
      ours = refl;
      reads =
          reads-selected' (id-here refl) refl
          (reads-list' refl refl
          (reads-more'
          (reads-struct' (reads-missing' lacks_nil refl (in_element_lem (by-initial refl no_transform_lem (by_default {y = seven} refl)) (λ e. not_null e))
          reads-nil' refl))
          reads-none' refl))
          reads-nil' refl;
      theirs =
          reads-selected (id-here refl) refl
          (reads-list refl refl (reads_more (reads_struct (reads-missing lacks_nil refl (by-initial refl no_transform_lem (by_default refl)) reads-nil))
          reads_none))
          reads-nil;
    }

-- ---- where the specification has no reading

has-none : {i : FieldId} {k : ℕ} {a : Label} {t : ColumnType} {X : Type 0} → HasId cnil i k a t → X
has-none h = elim h [ ]

only-column : {a l : Label} {i : FieldId} {k : ℕ} {t u : ColumnType} → HasId (ccons l t cnil) i k a u → (0 ≡ k) × (t ≡ u)
only-column (id-here e) = (refl, refl)
only-column (id-there h) = has-none h

module _ (M : Metadata) where
  -- of one column and one value
  first_reads : {a b : Label} {t u : ColumnType} {x : Value} {zs : Values} → a.id ≡ b.id
      → ReadsAll due_leaf M (ccons b u cnil) (ccons a t cnil) (vcons x vnil) zs → (y : Value) × Reads due_leaf M u t x y
  unfolding value_at
  first_reads {x = x} e (reads-selected {y = y} h m r rs) = let (p, q) = only-column h in (y, moved p q r)
    where
      moved : {u t s : ColumnType} {j k : ℕ} {y : Value} → j ≡ k → t ≡ s → Reads due_leaf M u s (value_at (vcons x vnil) k) y
          → Reads due_leaf M u t (value_at (vcons x vnil) j) y
      moved p q r = rw (p, q) r
  first_reads e (reads-missing (lacks_cons n l) i m rs) = absurd (n e)

  equal-ids : {a b : Label} {t u : ColumnType} {xs : Values} {y : Value} → Reads due_leaf M (clist b u) (clist a t) (vlist xs) y → a.id ≡ b.id
  equal-ids (reads-list e m h) = e

  no_array : {w : ℕ} {a b : Label} {t u : ColumnType} {xs : Values} {y : Value} → Reads due_leaf M (carray w b u) (carray w a t) (varray xs) y → ⊥
  no_array r = elim r [ ]

  number-promotes : {l m : LeafType} {k : Leaf} {n : ℕ} {y : Value} → Reads due_leaf M (cleaf m) (cleaf l) (vnumber k n) y → promotes l m ≡ true
  number-promotes (reads-leaf e f) = e

-- an element of the id 4,294,967,295 pairs with any
any_paired : Own [] (listed 2 (cleaf (integer Int8))) (listed 4294967295 (cleaf (integer Int8))) (one (vlist (one five))) (any_element ∷ [])
    (one (vlist (one five)))
unfolding computed stated choose value_at promotes due_leaf equal_types form leaf_form carried same_bytes
any_paired =
    record {
      ours = refl;
      reads =
          reads-selected' (id-here refl) refl (any-element (λ e. differ e) (target_is-any refl) (reads-more' (reads-leaf' refl refl) reads-none' refl))
          reads-nil' refl;
      theirs = λ zs r. differ (equal-ids _ (first_reads _ refl r).1);
    }
  where
    differ : ◌≡◌ {A = FieldId} (record { 0 = 2 }) (record { 0 = 4294967295 }) → ⊥
    differ e = let q : ◌≡◌ {A = ℕ} 2 4294967295 = ap (λ (i : FieldId). i.0) e in absurd (omega arith)

-- arrays
abbrev arrayed : Columns
arrayed = ccons (label 0x74 1) (carray 1 (label 0x65 2) (cleaf (integer Int8))) cnil

array_of-one : Own [] arrayed arrayed (one (varray (one five))) (array_read ∷ []) (one (varray (one five)))
unfolding computed stated choose value_at promotes due_leaf equal_types form leaf_form carried same_bytes
array_of-one =
    record {
      ours = refl;
      reads = reads-selected' (id-here refl) refl (array-read (reads-more' (reads-leaf' refl refl) reads-none' refl)) reads-nil' refl;
      theirs = λ zs r. no_array _ (first_reads _ refl r).1;
    }

-- conversion of a leaf
abbrev typed : LeafType → Columns
typed l = ccons (label 0x74 1) (cleaf l) cnil

int8_to_int16 : Own [] (typed (integer Int8)) (typed (integer Int16)) (one five) (leaf_converted ∷ []) (one (vnumber (Leaf.Integer Int16) 5))
unfolding computed stated choose value_at promotes due_leaf equal_types form leaf_form carried same_bytes cast_leaf convert convert_as counted rescaled widened
    number_of signed unsigned pattern
int8_to_int16 =
    record {
      ours = refl;
      reads = reads-selected' (id-here refl) refl (leaf-converted refl (λ e. not_null e) refl) reads-nil' refl;
      theirs = λ zs r. true≠false (number-promotes _ (first_reads _ refl r).1) refl;
    }

-- ---- refusals: why the build is refused with n, and the specification's reading

record Refusal (p : Policy) (es : List Entry) (Γ Δ : Columns) (ρ : Values) (n : ℕ) (zs : Values) : Type 0 where
  ours : computed p es Γ Δ ρ ≡ refused_at n 0
  why : RefusesAny p es (stated false es 0 none_empty) outside p.missing_columns 11 n Δ Γ
  theirs : ReadsAll due_leaf (stated false es 0 none_empty) Δ Γ ρ zs

-- a partition that failed to load is an error
unloaded : Refusal all_on (initially 2 ∷ record { id = record { 0 = 2 }; given = failed } ∷ []) bare whole empty_row 26 (row seven)
unfolding computed stated partition_of initial_of first_entry_of choose value_at
unloaded =
    record {
      ours = refl;
      why = at-selected (id-here refl) (in_struct (missing-default lacks_nil (partition-failed (entry-there (entry_here refl refl)))));
      theirs = reads-selected (id-here refl) refl (reads_struct (reads-missing lacks_nil refl (by-initial refl not_present_lem (by_default refl))
          reads-nil)) reads-nil;
    }

-- a default of another type
unlike : Refusal all_on (record { id = record { 0 = 2 }; given = initial (integer UInt8) (vnumber (Leaf.Integer UInt8) 7) } ∷ []) bare whole empty_row 28
    (row (vnumber (Leaf.Integer UInt8) 7))
unfolding computed stated partition_of initial_of first_entry_of choose value_at equal_types form leaf_form carried same_bytes
unlike =
    record {
      ours = refl;
      why = at-selected (id-here refl) (in_struct (missing-default lacks_nil (default-type (entry_here refl refl) of_initial refl)));
      theirs = reads-selected (id-here refl) refl (reads_struct (reads-missing lacks_nil refl (by-initial refl no_transform_lem (by_default refl))
          reads-nil)) reads-nil;
    }

-- Raise: a missing column, a missing field, an extra field
raised_column : Refusal (policy_of 57343) [] none whole vnil 11 (one vnull)
unfolding computed stated first_entry_of
raised_column =
    record {
      ours = refl;
      why = missing-raised lacks_nil refl;
      theirs = reads-missing lacks_nil refl (by-initial refl no_transform_lem (by-null refl nothing-defined)) reads-nil;
    }

raised_field : Refusal (policy_of 63487) [] bare whole empty_row 14 (row vnull)
unfolding computed stated first_entry_of value_at
raised_field =
    record {
      ours = refl;
      why = at-selected (id-here refl) (in_struct (missing-raised lacks_nil refl));
      theirs =
          reads-selected (id-here refl) refl (reads_struct (reads-missing lacks_nil refl (by-initial refl no_transform_lem (by-null refl nothing-defined))
          reads-nil))
          reads-nil;
    }

raised_extra : Refusal (policy_of 61439) [] whole bare (row five) 13 empty_row
unfolding computed stated first_entry_of value_at
raised_extra =
    record {
      ours = refl;
      why = at-selected (id-here refl) (extra_field refl (extra_here lacks_nil));
      theirs = reads-selected (id-here refl) refl (reads_struct reads-nil) reads-nil;
    }

-- and an extra column
raised_extra_column : (computed (policy_of 32767) [] whole none (row five) ≡ refused_at 53 0) × RefusesBuild (policy_of 32767) []
    (stated false [] 0 none_empty) 53 none whole
    × ReadsAll due_leaf (stated false [] 0 none_empty) none whole (row five) vnil
unfolding computed
raised_extra_column = (refl, extra_column refl (extra_here lacks_nil), reads-nil)

-- null (unknown) against a nested type
unknown_nested : Refusal all_on [] (typed null) whole (one vnull) 24 (one vnull)
unfolding computed stated value_at
unknown_nested =
    record {
      ours = refl;
      why = at-selected (id-here refl) (other-kind (leaf_for_nested nested_struct));
      theirs = reads-selected (id-here refl) refl reads-null reads-nil;
    }

-- a promotion that the policy refuses
not_upcast : Refusal (policy_of 65533) [] (typed (integer Int32)) (typed (integer Int64)) (one (vnumber (Leaf.Integer Int32) 5)) 16
    (one (vnumber (Leaf.Integer Int64) 5))
unfolding computed stated choose value_at promotes due_leaf equal_types form leaf_form carried same_bytes cast_leaf convert convert_as counted rescaled widened
    number_of signed unsigned pattern pair_rule chain params_of zones_of read_zone is_utc
not_upcast = record {
  ours = refl;
  why = at-selected (id-here refl) (leaf-pair refl);
  theirs = reads-selected (id-here refl) refl (reads-leaf refl refl)
      reads-nil;
}

-- element ids are compared; the specification has no reading of them as one field
unpaired : (computed all_on [] (listed 2 (cleaf (integer Int8))) (listed 3 (cleaf (integer Int8))) (one (vlist (one five))) ≡ refused_at 25 0)
    × RefusesAny all_on [] (stated false [] 0 none_empty) outside all_on.missing_columns 11 25 (listed 3 (cleaf (integer Int8)))
    (listed 2 (cleaf (integer Int8)))
    × ((zs : Values)
    → ReadsAll due_leaf (stated false [] 0 none_empty) (listed 3 (cleaf (integer Int8))) (listed 2 (cleaf (integer Int8))) (one (vlist (one five))) zs → ⊥)
unfolding computed
unpaired = (refl, at-selected (id-here refl) (list-ids (λ e. differ e) any), λ zs r. differ (list-ids-equal r))
  where
    differ : ◌≡◌ {A = FieldId} (record { 0 = 2 }) (record { 0 = 3 }) → ⊥
    differ e = let q : ◌≡◌ {A = ℕ} 2 3 = ap (λ (i : FieldId). i.0) e in absurd (omega arith)

    any : OneIsAny (label 0x65 2) (label 0x65 3) → ⊥
    any (incoming_is-any q) = absurd (omega arith)
    any (target_is-any q) = absurd (omega arith)

    list-ids-equal : {zs : Values}
        → ReadsAll due_leaf (stated false [] 0 none_empty) (listed 3 (cleaf (integer Int8))) (listed 2 (cleaf (integer Int8))) (one (vlist (one five))) zs
        → ◌≡◌ {A = FieldId} (record { 0 = 2 }) (record { 0 = 3 })
    list-ids-equal r = equal-ids _ (first_reads _ refl r).1

-- a promotion that document 01 has no rule for; the specification reads it, whatever the conversion
abbrev timestamp : LeafType
timestamp = datetime Microseconds []

date-to_timestamp : (computed all_on [] (typed date) (typed timestamp) (one (vnumber Date 5)) ≡ refused_at 24 0)
    × RefusesAny all_on [] (stated false [] 0 none_empty) outside all_on.missing_columns 11 24 (typed timestamp) (typed date)
    × ((f : LeafType → LeafType → Value → Value)
    → ReadsAll f (stated false [] 0 none_empty) (typed timestamp) (typed date) (one (vnumber Date 5)) (one (f date timestamp (vnumber Date 5))))
unfolding computed value_at promotes equal_types form leaf_form carried same_bytes pair_rule chain params_of zones_of read_zone is_utc text_bytes
date-to_timestamp = (refl, at-selected (id-here refl) (leaf-pair refl), λ f. reads-selected (id-here refl) refl (reads-leaf refl refl) reads-nil)

-- ---- decimals (document 02, L1)

-- a column of decimals of the precision p and the scale s, and a value of it
abbrev digits : ℕ → ℕ → Decimal
digits p s = record { precision = p; scale = s }

abbrev decimals : ℕ → ℕ → Columns
decimals p s = typed (decimal (digits p s))

abbrev fixed : ℕ → ℕ → ℕ → Values
fixed p s n = one (vnumber (Leaf.Decimal (digits p s)) n)

-- a larger precision at the same scale is a promotion: no difference, and the number is kept
widening : Sample false [] none_empty (decimals 9 2) (decimals 18 2) (fixed 9 2 999999999) [] (fixed 18 2 999999999) (fixed 18 2 999999999)
unfolding computed stated choose value_at promotes due_leaf equal_types form leaf_form carried same_bytes cast_leaf convert convert_as
widening =
    record {
      ours = refl;
      reads = reads-selected' (id-here refl) refl (reads-leaf' refl refl) reads-nil' refl;
      theirs = reads-selected (id-here refl) refl (reads-leaf refl refl) reads-nil;
    }

-- whatever the record holds
widening_agrees : AgreesAll (stated false [] 0 none_empty) outside (decimals 18 2) (decimals 9 2)
unfolding promotes equal_types form leaf_form carried same_bytes
widening_agrees = agrees-selected (id-here refl) (agrees-leaf refl) agrees-nil

-- with its flag off it is refused
not_widened : Refusal (policy_of 49151) [] (decimals 9 2) (decimals 18 2) (fixed 9 2 999999999) 51 (fixed 18 2 999999999)
unfolding computed stated choose value_at promotes due_leaf equal_types form leaf_form carried same_bytes cast_leaf convert convert_as pair_rule chain params_of
    decimals_of
not_widened = record {
  ours = refl;
  why = at-selected (id-here refl) (leaf-pair refl);
  theirs = reads-selected (id-here refl) refl
      (reads-leaf refl refl) reads-nil;
}

-- refused with n, and the specification has no reading, either
record Neither (Γ Δ : Columns) (ρ : Values) (n : ℕ) : Type 0 where
  ours : computed all_on [] Γ Δ ρ ≡ refused_at n 0
  why : RefusesAny all_on [] (stated false [] 0 none_empty) outside all_on.missing_columns 11 n Δ Γ
  theirs : (zs : Values) → ReadsAll due_leaf (stated false [] 0 none_empty) Δ Γ ρ zs → ⊥

-- a smaller precision
narrowing : Neither (decimals 18 2) (decimals 9 2) (fixed 18 2 5) 24
unfolding computed promotes equal_types form leaf_form carried same_bytes pair_rule chain params_of decimals_of
narrowing =
    record {
      ours = refl;
      why = at-selected (id-here refl) (leaf-pair refl);
      theirs = λ zs r. true≠false (number-promotes _ (first_reads _ refl r).1) refl;
    }

-- another scale, be the precision larger
other-scale : Neither (decimals 9 2) (decimals 18 3) (fixed 9 2 5) 24
unfolding computed promotes equal_types form leaf_form carried same_bytes pair_rule chain params_of decimals_of
other-scale =
    record {
      ours = refl;
      why = at-selected (id-here refl) (leaf-pair refl);
      theirs = λ zs r. true≠false (number-promotes _ (first_reads _ refl r).1) refl;
    }

-- ---- required fields (document 02, L5)

-- t#1 struct{a#2:int8}, a required
abbrev needed : Columns
needed = ccons (label 0x74 1) (cstruct (ccons (record { name = 0x61 ∷ []; id = record { 0 = 2 }; required = true }) (cleaf (integer Int8)) cnil)) cnil

-- a default fills it, as there
required_added : Sample false (initially 2 ∷ []) none_empty bare needed empty_row [] (row seven) (row seven)
unfolding computed stated partition_of initial_of first_entry_of choose value_at
required_added =
    record {
      ours = refl;
      reads =
          reads-selected' (id-here refl) refl
          (reads-struct' (reads-missing' lacks_nil refl (by-initial' refl no_transform_lem (by-default' refl refl)) reads-nil' refl)) reads-nil' refl;
      theirs = reads-selected (id-here refl) refl (reads_struct (reads-missing lacks_nil refl (by-initial refl no_transform_lem (by_default refl))
          reads-nil)) reads-nil;
    }

-- where it has none, both refuse
required-missing : (computed all_on [] bare needed empty_row ≡ refused_at 54 0) × RefusesAny all_on [] (stated false [] 0 none_empty) outside
    all_on.missing_columns 11 54 needed bare
    × ((ys : Values) → ReadsAll due_leaf (stated false [] 0 none_empty) needed bare empty_row ys → ⊥)
unfolding computed stated first_entry_of value_at valued
required-missing =
    (refl, at-selected (id-here refl) (in_struct (missing-required lacks_nil none refl)), λ ys r. inside-errs (first_reads _ refl r).1)
  where
    none : Missing' (stated false [] 0 none_empty) outside [] (record { 0 = 2 }) (cleaf (integer Int8)) vnull
    none = by-initial' refl no_transform_lem (by-none' refl nothing-defined (by-null' refl))

    inside-errs : {y : Value}
        → Reads due_leaf (stated false [] 0 none_empty) (cstruct (ccons (record { name = 0x61 ∷ []; id = record { 0 = 2 }; required = true })
        (cleaf (integer Int8)) cnil)) (cstruct cnil)
        (vstruct vnil) y → ⊥
    inside-errs (reads_struct h) = required_errs due_leaf (stated false [] 0 none_empty) lacks_nil none refl h

-- where a difference leaves it null, the specification reads on
required-hidden : Refusal all_on (initially 2 ∷ partitions 2 vnil ∷ []) bare needed empty_row 54 (row seven)
unfolding computed stated partition_of tuple_at initial_of first_entry_of choose value_at
required-hidden =
    record {
      ours = refl;
      why = at-selected (id-here refl) (in_struct (missing-required lacks_nil (by-initial' refl not_present_lem
          (hidden-default refl hides_not_present refl)) refl));
      theirs = reads-selected (id-here refl) refl (reads_struct (reads-missing lacks_nil refl (by-initial refl not_present_lem (by_default refl))
          reads-nil)) reads-nil;
    }

-- an optional column for a required one; there "not allowed"
optional-required : (computed all_on [] whole needed (row five) ≡ refused_at 55 0) × RefusesAny all_on [] (stated false [] 0 none_empty) outside
    all_on.missing_columns 11 55 needed whole
    × ((ys : Values) → ReadsAll due_leaf (stated false [] 0 none_empty) needed whole (row five) ys → ⊥)
unfolding computed stated first_entry_of value_at
optional-required = (
  refl,
  at-selected (id-here refl) (in_struct (optional-selected (id-here refl) refl (not-required refl))),
  λ ys r. inside-errs
      (first_reads _ refl r).1,
)
  where
    inside-errs : {y : Value}
        → Reads due_leaf (stated false [] 0 none_empty) (cstruct (ccons (record { name = 0x61 ∷ []; id = record { 0 = 2 }; required = true })
        (cleaf (integer Int8)) cnil)) (cstruct field)
        (vstruct (one five)) y → ⊥
    inside-errs (reads_struct h) = optional_errs due_leaf (stated false [] 0 none_empty) (lacks_nil, (tt, tt)) (id-here refl) refl refl h
