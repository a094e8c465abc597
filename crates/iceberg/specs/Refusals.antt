-- Where a reader of the specification reads on and documents 01 and 02 refuse to build: one rule for each reason, at
-- the column where it is met, along matched paths. 11 to 28 are document 01's numbers, 51 and 53 to 55 are document
-- 02's. A refused build is no reading; the list of reasons is complete (proofs/Refusing.antt). Nothing here rests on
-- the builder; `pair_rule` is the documents' table of leaf pairs.
use Rattle.std.specs.Prelude.{ℕ, ◌≡◌, true, false, List, ◌∷◌}
use Rattle.layout.specs.Tree.{LeafType, leaf_of, Label, ColumnType, cleaf, cstruct, clist, carray, Columns, ccons}
use Rattle.layout.specs.declared.columns.FieldId.{FieldId}
use Rattle.forms.specs.Same.{equal_leaves}
use Rattle.rules.specs.declared.policy.Policy.{Policy}
use Rattle.rules.specs.declared.policy.MissingColumnsPolicy.{MissingColumnsPolicy}
use Rattle.rules.specs.declared.policy.ExtraColumnsPolicy.{ExtraColumnsPolicy}
use Rattle.rules.specs.Outcomes.{refused}
use Rattle.rules.specs.Classes.{is_null}
use Rattle.rules.specs.Pairs.{pair_rule}
use Rattle.values.specs.Value.{Value, Values}
use Rattle.defaults.specs.Table.{Given, initial, partition, failed, Entry}
use Rattle.iceberg.specs.Specification.{Metadata, HasId, Lacks, present}
use Rattle.iceberg.specs.Differences.{Differences, Nested, Place, outside, inside, Missing', OneIsAny}

-- ---- a table's entries

-- the table gives g for the id i
pub data EntryOf : List Entry → FieldId → Given → Type 0 where
  entry_here : {x : Entry} {es : List Entry} {i : FieldId} {g : Given} → x.id ≡ i → x.given ≡ g → EntryOf (x ∷ es) i g
  entry-there : {x : Entry} {es : List Entry} {i : FieldId} {g : Given} → EntryOf es i g → EntryOf (x ∷ es) i g

pub data TypeGiven : Given → LeafType → Type 0 where
  of_initial : {l : LeafType} {x : Value} → TypeGiven (initial l x) l
  of_partition : {l : LeafType} {xs : Values} → TypeGiven (partition l xs) l

-- ---- types

-- the file's type t is of another kind than the table's u. A column of null (unknown) is a leaf here: by the
-- specification it reads in every type.
pub data OtherKind : ColumnType → ColumnType → Type 0 where
  nested_for_leaf : {m : LeafType} {t : ColumnType} → Nested t → OtherKind (cleaf m) t
  leaf_for_nested : {u : ColumnType} {l : LeafType} → Nested u → OtherKind u (cleaf l)
  list_for_struct : {gs : Columns} {a : Label} {t : ColumnType} → OtherKind (cstruct gs) (clist a t)
  array_for_struct : {gs : Columns} {w : ℕ} {a : Label} {t : ColumnType} → OtherKind (cstruct gs) (carray w a t)
  struct_for_list : {b : Label} {u : ColumnType} {fs : Columns} → OtherKind (clist b u) (cstruct fs)
  array_for_list : {b : Label} {u : ColumnType} {w : ℕ} {a : Label} {t : ColumnType} → OtherKind (clist b u) (carray w a t)
  struct_for_array : {w : ℕ} {b : Label} {u : ColumnType} {fs : Columns} → OtherKind (carray w b u) (cstruct fs)
  list_for_array : {w : ℕ} {b : Label} {u : ColumnType} {a : Label} {t : ColumnType} → OtherKind (carray w b u) (clist a t)

-- a column of fs has an id that gs lacks
pub data Extra : Columns → Columns → Type 0 where
  extra_here : {l : Label} {t : ColumnType} {fs gs : Columns} → Lacks gs l.id → Extra (ccons l t fs) gs
  extra_there : {l : Label} {t : ColumnType} {fs gs : Columns} → Extra fs gs → Extra (ccons l t fs) gs

-- an optional column, or one of null (unknown)
pub data Optional : Label → ColumnType → Type 0 where
  not-required : {a : Label} {t : ColumnType} → a.required ≡ false → Optional a t
  of_null_type : {a : Label} {l : LeafType} → is_null (leaf_of l) ≡ true → Optional a (cleaf l)

-- ---- the reasons

module _ (es : List Entry) where
  mutual
    -- `NoDefaultFor n i u`: for the field i of the type u, which the file lacks, the table's entries are refused with n
    pub data NoDefaultFor : ℕ → FieldId → ColumnType → Type 0 where
      -- a partition that failed to load is an error
      partition-failed : {i : FieldId} {l : LeafType} → EntryOf es i failed → NoDefaultFor 26 i (cleaf l)
      -- a default of another type
      default-type : {i : FieldId} {g : Given} {l m : LeafType} → EntryOf es i g → TypeGiven g m → equal_leaves m l ≡ false → NoDefaultFor 28 i (cleaf l)
      for-a-field : {n : ℕ} {i : FieldId} {cs : Columns} → NoDefaultIn n cs → NoDefaultFor n i (cstruct cs)

    pub data NoDefaultIn : ℕ → Columns → Type 0 where
      for-first : {n : ℕ} {l : Label} {t : ColumnType} {cs : Columns} → NoDefaultFor n l.id t → NoDefaultIn n (ccons l t cs)
      for-later : {n : ℕ} {l : Label} {t : ColumnType} {cs : Columns} → NoDefaultIn n cs → NoDefaultIn n (ccons l t cs)

module _ (p : Policy) (es : List Entry) (M : Metadata) where
  mutual
    -- `Refuses q n u t`: the file's type t is not read as the table's type u, n says why
    pub data Refuses : Place → ℕ → ColumnType → ColumnType → Type 0 where
      -- conversion of a leaf: the rule of its pair, policy included; 15 to 24, and 51 for the widening of a decimal
      leaf-pair : {q : Place} {n : ℕ} {l m : LeafType} → pair_rule p l m ≡ refused n → Refuses q n (cleaf m) (cleaf l)
      -- kinds differ, null against a nested type included
      other-kind : {q : Place} {u t : ColumnType} → OtherKind u t → Refuses q 24 u t
      -- arrays of unequal widths
      other_width : {q : Place} {w x : ℕ} {a b : Label} {u t : ColumnType} → (x ≡ w → ⊥) → Refuses q 24 (carray w b u) (carray x a t)
      -- element ids are compared
      list-ids : {q : Place} {a b : Label} {u t : ColumnType} → (a.id ≡ b.id → ⊥) → (OneIsAny a b → ⊥) → Refuses q 25 (clist b u) (clist a t)
      array-ids : {q : Place} {w : ℕ} {a b : Label} {u t : ColumnType} → (a.id ≡ b.id → ⊥) → (OneIsAny a b → ⊥) → Refuses q 25 (carray w b u) (carray w a t)
      -- an optional element for a required one
      list-optional : {q : Place} {a b : Label} {u t : ColumnType} → b.required ≡ true → Optional a t → Refuses q 55 (clist b u) (clist a t)
      array-optional : {q : Place} {w : ℕ} {a b : Label} {u t : ColumnType} → b.required ≡ true → Optional a t → Refuses q 55 (carray w b u) (carray w a t)
      in_list : {q : Place} {n : ℕ} {a b : Label} {u t : ColumnType} → Refuses inside n u t → Refuses q n (clist b u) (clist a t)
      in_array : {q : Place} {n w : ℕ} {a b : Label} {u t : ColumnType} → Refuses inside n u t → Refuses q n (carray w b u) (carray w a t)
      -- Raise: an extra field
      extra_field : {q : Place} {gs fs : Columns} → p.extra_struct_fields ≡ ExtraColumnsPolicy.Raise → Extra fs gs → Refuses q 13 (cstruct gs) (cstruct fs)
      in_struct : {q : Place} {n : ℕ} {gs fs : Columns} → RefusesAny q p.missing_struct_fields 14 n gs fs → Refuses q n (cstruct gs) (cstruct fs)

    -- `RefusesAny q m r n gs fs`: one of the table's columns gs is not read from the file's fs; r is the number of a
    -- missing one under Raise
    pub data RefusesAny : Place → MissingColumnsPolicy → ℕ → ℕ → Columns → Columns → Type 0 where
      at-selected : {q : Place} {m : MissingColumnsPolicy} {r n k : ℕ} {a b : Label} {u t : ColumnType} {gs fs : Columns} → HasId fs b.id k a t
          → Refuses q n u t → RefusesAny q m r n (ccons b u gs) fs
      -- an optional column for a required one
      optional-selected : {q : Place} {m : MissingColumnsPolicy} {r k : ℕ} {a b : Label} {u t : ColumnType} {gs fs : Columns} → HasId fs b.id k a t
          → b.required ≡ true → Optional a t → RefusesAny q m r 55 (ccons b u gs) fs
      -- Raise: a missing field
      missing-raised : {q : Place} {m : MissingColumnsPolicy} {r : ℕ} {b : Label} {u : ColumnType} {gs fs : Columns} → Lacks fs b.id
          → m ≡ MissingColumnsPolicy.Raise → RefusesAny q m r r (ccons b u gs) fs
      missing-default : {m : MissingColumnsPolicy} {r n : ℕ} {b : Label} {u : ColumnType} {gs fs : Columns} → Lacks fs b.id → NoDefaultFor es n b.id u
          → RefusesAny outside m r n (ccons b u gs) fs
      -- a required field would be null; where no difference is named, it is an error there, too
      missing-required : {q : Place} {m : MissingColumnsPolicy} {r : ℕ} {ds : Differences} {b : Label} {u : ColumnType} {gs fs : Columns} {y : Value}
          → Lacks fs b.id → Missing' M q ds b.id u y → present b u y ≡ false → RefusesAny q m r 54 (ccons b u gs) fs
      at-later : {q : Place} {m : MissingColumnsPolicy} {r n : ℕ} {b : Label} {u : ColumnType} {gs fs : Columns} → RefusesAny q m r n gs fs
          → RefusesAny q m r n (ccons b u gs) fs

  -- `RefusesBuild n gs fs`: a build from the file's columns fs to the table's gs is refused with n
  pub data RefusesBuild : ℕ → Columns → Columns → Type 0 where
    -- Raise: an extra column
    extra_column : {gs fs : Columns} → p.extra_columns ≡ ExtraColumnsPolicy.Raise → Extra fs gs → RefusesBuild 53 gs fs
    at-a-column : {n : ℕ} {gs fs : Columns} → RefusesAny outside p.missing_columns 11 n gs fs → RefusesBuild n gs fs
