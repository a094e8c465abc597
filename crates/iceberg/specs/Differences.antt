-- The rules of Specification.antt once more (with a prime), and ONE rule for each difference that docs/DIFFERENCES.md
-- lists, at the field where it is met and in terms of what the metadata state. The list that each reading carries names
-- the differences met; a rule of the specification stands aside where one is met. Nothing here rests on the builder.
use Rattle.std.specs.Prelude.{ℕ, ◌≡◌, Bool, true, false, ◌||◌, List, [], ◌∷◌, ◌++◌}
use Rattle.layout.specs.Tree.{LeafType, Label, ColumnType, cleaf, cstruct, clist, carray, Columns, cnil, ccons}
use Rattle.layout.specs.declared.columns.FieldId.{FieldId}
use Rattle.values.specs.Value.{Value, vnull, vstruct, vlist, varray, Values, vnil, vcons}
use Rattle.plan.specs.Run.{value_at}
use Rattle.iceberg.specs.Specification.{PartitionValue, no_transform, not_present, null_present, partitioned, InitialDefault, undefined, defined, empty}
use Rattle.iceberg.specs.Specification.{Metadata, HasId, Lacks, Lacking, Valueless, Missing, present, may_become, promotes}

pub data Difference : Type 0 where
  -- a partition value that is null or past the end hides the initial default
  hidden_default : Difference
  -- a struct's default is made of its fields'
  struct_together : Difference
  -- .. and is null where all are none
  struct_of_none : Difference
  -- .. and holds partition values
  partition_in_struct : Difference
  -- a list's own default `[]` is not looked at
  list_default : Difference
  -- a partition value under a struct's, list's or array's own id is not looked at
  own_partition : Difference
  -- nor is an initial default there
  own_default : Difference
  -- no default inside elements
  in_element : Difference
  -- an element of the id 4,294,967,295 pairs with any
  any_element : Difference
  -- arrays
  array_read : Difference
  -- conversion of a leaf
  leaf_converted : Difference

abbrev pub Differences : Type 0
Differences = List Difference

-- ---- what is asked of the metadata

-- no value is present, or a null
pub data Hiding : PartitionValue → Type 0 where
  hides_not_present : Hiding not_present
  hides_null : Hiding null_present

-- a value is present, or a null where a struct is put together (true)
pub data Unseen : Bool → PartitionValue → Type 0 where
  unseen_null : Unseen true null_present
  unseen_value : {b : Bool} {y : Value} → Unseen b (partitioned y)

pub data Nested : ColumnType → Type 0 where
  nested_struct : {cs : Columns} → Nested (cstruct cs)
  nested_list : {l : Label} {t : ColumnType} → Nested (clist l t)
  nested_array : {w : ℕ} {l : Label} {t : ColumnType} → Nested (carray w l t)

abbrev pub is_defined : InitialDefault → Bool
is_defined undefined = false
is_defined (defined y) = true
is_defined empty = false

-- a leaf has a value: its partition value; its initial default where it is no partition's source
abbrev pub leaf_valued : PartitionValue → InitialDefault → Bool
leaf_valued no_transform q = is_defined q
leaf_valued not_present q = false
leaf_valued null_present q = false
leaf_valued (partitioned y) q = true

-- a leaf has a value that is the field, or stands in it with only structs between
unfoldable mutual
  pub valued : Metadata → FieldId → ColumnType → Bool
  valued M i (cleaf l) = leaf_valued (M.partition i) (M.initial_default i)
  valued M i (cstruct cs) = valued_any M cs
  valued M i (clist l t) = false
  valued M i (carray w l t) = false

  pub valued_any : Metadata → Columns → Bool
  valued_any M cnil = false
  valued_any M (ccons l t cs) = valued M l.id t || valued_any M cs

-- ---- a field that the file lacks

-- where it is missing: inside an element, or not
pub data Place : Type 0 where
  outside : Place
  inside : Place

module _ (M : Metadata) where
  mutual
    -- rules 3 and 4
    pub data Initial' : Differences → FieldId → ColumnType → Value → Type 0 where
      by-default' : {i : FieldId} {l : LeafType} {y : Value} → M.partition i ≡ no_transform → M.initial_default i ≡ defined y → Initial' [] i (cleaf l) y
      by-empty-struct' : {ds : Differences} {i : FieldId} {cs : Columns} {ys : Values} → M.initial_default i ≡ empty → valued_any M cs ≡ true
          → InitialAll' ds cs ys → Initial' ds i (cstruct cs) (vstruct ys)
      by-none' : {ds : Differences} {i : FieldId} {u : ColumnType} {x : InitialDefault} {y : Value} → M.initial_default i ≡ x → Valueless u x
          → Unstated' ds i u y → Initial' ds i u y
      -- a partition value that is null or past the end hides the initial default
      hidden-default : {i : FieldId} {l : LeafType} {p : PartitionValue} {z : Value} → M.partition i ≡ p → Hiding p → M.initial_default i ≡ defined z
          → Initial' (hidden_default ∷ []) i (cleaf l) vnull
      -- a struct's default is null where all its fields' are none
      struct-of-none : {i : FieldId} {cs : Columns} → M.initial_default i ≡ empty → valued_any M cs ≡ false → Initial' (struct_of_none ∷ []) i (cstruct cs) vnull
      -- .. and holds partition values
      partition-in-struct : {i : FieldId} {l : LeafType} {y : Value} → M.partition i ≡ partitioned y → Initial' (partition_in_struct ∷ []) i (cleaf l) y
      -- a list's own default `[]` is not looked at
      list-default : {i : FieldId} {l : Label} {t : ColumnType} → M.initial_default i ≡ empty → Initial' (list_default ∷ []) i (clist l t) vnull
      -- an initial default under a struct's, list's or array's own id is not looked at
      own_default_lem : {ds : Differences} {i : FieldId} {u : ColumnType} {y z : Value} → Nested u → M.initial_default i ≡ defined z → Unstated' ds i u y
          → Initial' (own_default ∷ ds) i u y

    pub data InitialAll' : Differences → Columns → Values → Type 0 where
      initial-nil' : InitialAll' [] cnil vnil
      initial-cons' : {ds es ns : Differences} {l : Label} {t : ColumnType} {cs : Columns} {y : Value} {ys : Values} → Initial' ds l.id t y
          → InitialAll' es cs ys → ds ++ es ≡ ns → InitialAll' ns (ccons l t cs) (vcons y ys)

    -- a field with no default of its own
    pub data Unstated' : Differences → FieldId → ColumnType → Value → Type 0 where
      by-null' : {i : FieldId} {u : ColumnType} → valued M i u ≡ false → Unstated' [] i u vnull
      -- a struct's default is made of its fields'
      struct-together : {ds : Differences} {i : FieldId} {cs : Columns} {ys : Values} → valued_any M cs ≡ true → MissingAll' ds cs ys
          → Unstated' (struct_together ∷ ds) i (cstruct cs) (vstruct ys)

    -- rules 1, 3 and 4
    pub data Missing' : Place → Differences → FieldId → ColumnType → Value → Type 0 where
      by-partition' : {i : FieldId} {l : LeafType} {y : Value} → M.partition i ≡ partitioned y → Missing' outside [] i (cleaf l) y
      by-null-partition' : {i : FieldId} {u : ColumnType} → M.partition i ≡ null_present → valued M i u ≡ false → Missing' outside [] i u vnull
      by-initial' : {ds : Differences} {i : FieldId} {u : ColumnType} {p : PartitionValue} {y : Value} → M.partition i ≡ p → Lacking p → Initial' ds i u y
          → Missing' outside ds i u y
      null-in-element' : {i : FieldId} {u : ColumnType} → Missing M i u vnull → Missing' inside [] i u vnull
      -- a partition value under a struct's, list's or array's own id is not looked at
      own-partition : {ds : Differences} {i : FieldId} {u : ColumnType} {b : Bool} {p : PartitionValue} {y : Value} → Nested u → M.partition i ≡ p
          → valued M i u ≡ b → Unseen b p → Initial' ds i u y → Missing' outside (own_partition ∷ ds) i u y
      -- no default inside elements
      in_element_lem : {i : FieldId} {u : ColumnType} {z : Value} → Missing M i u z → (z ≡ vnull → ⊥) → Missing' inside (in_element ∷ []) i u vnull

    pub data MissingAll' : Differences → Columns → Values → Type 0 where
      missing-nil' : MissingAll' [] cnil vnil
      missing-cons' : {ds es ns : Differences} {l : Label} {t : ColumnType} {cs : Columns} {y : Value} {ys : Values} → Missing' outside ds l.id t y
          → MissingAll' es cs ys → ds ++ es ≡ ns → MissingAll' ns (ccons l t cs) (vcons y ys)

-- ---- a row

-- the id that stands for any element's
abbrev pub any_id : ℕ
any_id = 4294967295

-- one of two elements has it
pub data OneIsAny : Label → Label → Type 0 where
  incoming_is-any : {a b : Label} → a.id.0 ≡ any_id → OneIsAny a b
  target_is-any : {a b : Label} → b.id.0 ≡ any_id → OneIsAny a b

module _ (converted : LeafType → LeafType → Value → Value) (M : Metadata) where
  mutual
    pub data Reads' : Place → Differences → ColumnType → ColumnType → Value → Value → Type 0 where
      reads-leaf' : {p : Place} {l m : LeafType} {x y : Value} → promotes l m ≡ true → converted l m x ≡ y → Reads' p [] (cleaf m) (cleaf l) x y
      reads-null' : {p : Place} {u t : ColumnType} → Reads' p [] u t vnull vnull
      reads-struct' : {p : Place} {ds : Differences} {gs fs : Columns} {xs ys : Values} → ReadsAll' p ds gs fs xs ys
          → Reads' p ds (cstruct gs) (cstruct fs) (vstruct xs) (vstruct ys)
      reads-list' : {p : Place} {ds : Differences} {a b : Label} {u t : ColumnType} {xs ys : Values} → a.id ≡ b.id → may_become a b ≡ true
          → ReadsEach' ds u t xs ys → Reads' p ds (clist b u) (clist a t) (vlist xs) (vlist ys)
      -- an element of the id 4,294,967,295 pairs with any
      any-element : {p : Place} {ds : Differences} {a b : Label} {u t : ColumnType} {xs ys : Values} → (a.id ≡ b.id → ⊥) → OneIsAny a b
          → ReadsEach' ds u t xs ys → Reads' p (any_element ∷ ds) (clist b u) (clist a t) (vlist xs) (vlist ys)
      -- arrays
      array-read : {p : Place} {ds : Differences} {w : ℕ} {a b : Label} {u t : ColumnType} {xs ys : Values} → ReadsEach' ds u t xs ys
          → Reads' p (array_read ∷ ds) (carray w b u) (carray w a t) (varray xs) (varray ys)
      -- conversion of a leaf
      leaf-converted : {p : Place} {l m : LeafType} {x y : Value} → promotes l m ≡ false → (x ≡ vnull → ⊥) → converted l m x ≡ y
          → Reads' p (leaf_converted ∷ []) (cleaf m) (cleaf l) x y

    pub data ReadsAll' : Place → Differences → Columns → Columns → Values → Values → Type 0 where
      reads-nil' : {p : Place} {fs : Columns} {xs : Values} → ReadsAll' p [] cnil fs xs vnil
      reads-selected' : {p : Place} {ds es ns : Differences} {a b : Label} {u t : ColumnType} {gs fs : Columns} {k : ℕ} {xs ys : Values} {y : Value}
          → HasId fs b.id k a t → may_become a b ≡ true → Reads' p ds u t (value_at xs k) y → ReadsAll' p es gs fs xs ys → ds ++ es ≡ ns
          → ReadsAll' p ns (ccons b u gs) fs xs (vcons y ys)
      reads-missing' : {p : Place} {ds es ns : Differences} {b : Label} {u : ColumnType} {gs fs : Columns} {xs ys : Values} {y : Value} → Lacks fs b.id
          → present b u y ≡ true → Missing' M p ds b.id u y → ReadsAll' p es gs fs xs ys → ds ++ es ≡ ns
          → ReadsAll' p ns (ccons b u gs) fs xs (vcons y ys)

    pub data ReadsEach' : Differences → ColumnType → ColumnType → Values → Values → Type 0 where
      reads-none' : {u t : ColumnType} → ReadsEach' [] u t vnil vnil
      reads-more' : {ds es ns : Differences} {u t : ColumnType} {x y : Value} {xs ys : Values} → Reads' inside ds u t x y → ReadsEach' es u t xs ys
          → ds ++ es ≡ ns → ReadsEach' ns u t (vcons x xs) (vcons y ys)

  -- the values xs of the file's columns fs read as ys in the table's columns gs, with the differences named
  pub record AllRead (p : Place) (gs fs : Columns) (xs ys : Values) : Type 0 where
    pub differences : Differences
    pub reads : ReadsAll' p differences gs fs xs ys

-- ---- no difference, whatever the record holds

module _ (M : Metadata) where
  mutual
    -- `Agrees p u t`: no value of the file's type t meets a difference where it is read in the table's type u
    pub data Agrees : Place → ColumnType → ColumnType → Type 0 where
      agrees-leaf : {p : Place} {l m : LeafType} → promotes l m ≡ true → Agrees p (cleaf m) (cleaf l)
      agrees-struct : {p : Place} {gs fs : Columns} → AgreesAll p gs fs → Agrees p (cstruct gs) (cstruct fs)
      agrees-list : {p : Place} {a b : Label} {u t : ColumnType} → a.id ≡ b.id → Agrees inside u t → Agrees p (clist b u) (clist a t)

    -- only missing fields are asked what the metadata state of them
    pub data AgreesAll : Place → Columns → Columns → Type 0 where
      agrees-nil : {p : Place} {fs : Columns} → AgreesAll p cnil fs
      agrees-selected : {p : Place} {a b : Label} {u t : ColumnType} {gs fs : Columns} {k : ℕ} → HasId fs b.id k a t → Agrees p u t → AgreesAll p gs fs
          → AgreesAll p (ccons b u gs) fs
      agrees-missing : {p : Place} {b : Label} {u : ColumnType} {gs fs : Columns} {y : Value} → Lacks fs b.id → Missing' M p [] b.id u y
          → AgreesAll p gs fs → AgreesAll p (ccons b u gs) fs
