-- The nulls of a plan's constants, by where the types of their places stand; and what a table of them says.
use Rattle.std.specs.Prelude.{ℕ, ◌+◌, ◌/◌, ◌%◌, ◌^◌, ◌<◌, ◌≡◌, Bool, true, false, List, [], ◌∷◌, get_or}
use Rattle.layout.specs.Bytes.{Bytes}
use Rattle.layout.specs.Limits.{longest_plan}
use Rattle.layout.specs.Parser.{ok}
use Rattle.layout.specs.Tree.{Label, Columns}
use Rattle.layout.specs.Layout.{a_struct, a_list, an_array, kind, label as label_of, element_label, columns, type, deepest}
use Rattle.layout.specs.declared.columns.Siblings.TheVariants.{Free}
use Rattle.layout.specs.declared.edition.Edition.TheVariants.{One}
use Rattle.values.specs.Value.{Value, Values}
use Rattle.plan.specs.Run.{value_at}
use Rattle.overflow.specs.code.Some.{any_of, some_sought}
use Rattle.overflow.specs.code.Seek.{RawIn}
use Rattle.overflow.specs.declared.scan.Sought.{Sought}

-- ---- where the types of a constant's places stand

-- of the field k, where the fields begin at `at`
pub record FieldStart (s : Bytes) (at k to : ℕ) : Type 0 where
  pub before : Columns
  pub start : ℕ
  pub label : Label
  pub passed : columns One Free (type One Free deepest) k [] s at ≡ ok before start
  pub labelled : label_of One s start ≡ ok label to

-- of the elements, whose label stands at `at`
pub record ElementStart (s : Bytes) (at to : ℕ) : Type 0 where
  pub label : Label
  pub labelled : element_label One s at ≡ ok label to

-- of the field k or of the elements, whose number has no say, of the type at `at`
pub data PartStart (s : Bytes) (at k to : ℕ) : Type 0 where
  p_field : {n m : ℕ} → kind s at ≡ ok (a_struct n) m → k < n → FieldStart s m k to → PartStart s at k to
  p_list : {m : ℕ} → kind s at ≡ ok a_list m → ElementStart s m to → PartStart s at k to
  p_array : {w m : ℕ} → kind s at ≡ ok (an_array w) m → ElementStart s m to → PartStart s at k to

-- of the place at the end of a path
pub data Inside (s : Bytes) : ℕ → List ℕ → ℕ → Type 0 where
  i_here : {at : ℕ} → Inside s at [] at
  i_part : {at k m to : ℕ} {p : List ℕ} → PartStart s at k m → Inside s m p to → Inside s at (k ∷ p) to

-- ---- the table

-- the bit of the offset o is set
abbrev pub IsNull : List ℕ → ℕ → Type 0
IsNull nulls o = o < longest_plan → get_or nulls (o / 64) 0 / 2 ^ (o % 64) % 2 ≡ 1

-- the constant whose type stands at t is known
abbrev pub KnownAt : List ℕ → ℕ → Type 0
KnownAt nulls t = get_or nulls (1024 + t / 1024) 0 ≡ t + 1

-- the value x, of the type at t, has nulls only at places that the table has
pub record NullsOf (s : Bytes) (nulls : List ℕ) (t : ℕ) (x : Value) : Type 0 where
  pub clean : (p : List ℕ) (o : ℕ) → Inside s t p o → (IsNull nulls o → ⊥) → some_sought Sought.Null p x ≡ false

-- the same of each of some values
pub record EachOf (s : Bytes) (nulls : List ℕ) (t : ℕ) (vs : Values) : Type 0 where
  pub clean : (p : List ℕ) (o : ℕ) → Inside s t p o → (IsNull nulls o → ⊥) → any_of (λ x. some_sought Sought.Null p x) vs ≡ false

-- the same of the values of n fields, which begin at t
pub record RowOf (s : Bytes) (nulls : List ℕ) (n t : ℕ) (vs : Values) : Type 0 where
  pub field : (k to : ℕ) → k < n → FieldStart s t k to → NullsOf s nulls to (value_at vs k)

-- the table has all nulls of the constants that are known
pub record Nulls (plan : Bytes) (nulls : List ℕ) : Type 0 where
  pub holds : (t : ℕ) → KnownAt nulls t → (X : RawIn plan t) → NullsOf plan nulls t X.value.tree

-- nulls were put into a table, and nothing else
pub record Grown (nulls next : List ℕ) : Type 0 where
  pub keeps : (o : ℕ) → IsNull nulls o → IsNull next o
  pub known : (t : ℕ) → KnownAt next t → KnownAt nulls t

-- the same, and by the answer r one at the place whose type stands at `at`
pub record NullKept (nulls : List ℕ) (at : ℕ) (r : Bool) (next : List ℕ) : Type 0 where
  pub grown : Grown nulls next
  pub kept : r ≡ true → IsNull next at
