-- Document 01, "Checking a plan", 31 and 32: what the functions that check one selector ask and speak of.
use Rattle.std.specs.Prelude.{ℕ, ◌≡◌, Bool, true, false, List, []}
use Rattle.layout.specs.Bytes.{Bytes}
use Rattle.layout.specs.Tree.{DataType, struct, list, array, Fields, fields_of}
use Rattle.layout.specs.Layout.{deepest}
use Rattle.layout.specs.code.Stands.{ColumnsAt}
use Rattle.layout.specs.declared.edition.Edition.{Edition}
use Rattle.plan.specs.Result.{Result, gives, refuses, ◌>>=◌}
use Rattle.plan.specs.Selector.{Selector, position, constant, cast, rename, struct_mapping, list_mapping, array_mapping, Selectors, count_selectors}
use Rattle.plan.specs.Check.{Column, element_of, within_limits, type_of, types_of, resulting}
use Rattle.walk.specs.code.State.{Frame, state}
use Rattle.walk.specs.code.Moves.{Input}
use Rattle.walk.specs.code.Types.{ScopeOf}
use Rattle.walk.specs.code.Walks.{WalkAt}
use Rattle.walk.specs.declared.walk.Walk.{Walk}
use Rattle.checker.specs.code.Shallow.{Shallow}
use Rattle.checker.specs.code.TypesAt.{NamedAt}
use Rattle.checker.specs.code.Limits.{size_of, ScopeIs}
use Rattle.checker.specs.declared.limits.Fit.{Fit}
use Rattle.checker.specs.declared.limits.Size.{Size}
use Rattle.checker.specs.declared.place.TypeHead.{TypeHead}
use Rattle.checker.specs.declared.selector.Checked.{Checked}
use Rattle.checker.specs.declared.selector.Measured.{Measured}
use Rattle.checker.specs.declared.selector.Rest.{Rest}

-- what an answer stands for: the check passes, or the refusal's number
abbrev pub checked_of : {A : Type 0} → Result A → Checked
checked_of (gives a) = Checked.Passed
checked_of (refuses n) = Checked.Refused n

abbrev pub dropped_of : Measured → Checked
dropped_of (Measured.Passed z) = Checked.Passed
dropped_of (Measured.Refused n) = Checked.Refused n

-- with the size of the type, or without
abbrev pub measured_of : Bool → Result Column → Measured
measured_of b (gives a) = Measured.Passed (size_of b a.type)
measured_of b (refuses n) = Measured.Refused n

-- the size may be known or not
pub record MeasuredIs (r : Measured) (x : Result Column) : Type 0 where
  pub known : Bool
  pub is : r ≡ measured_of known x

-- 32 past the limits
abbrev pub fitting_of : Fit → Measured
fitting_of (Fit.Within size deep) = Measured.Passed (Size.Is size deep)
fitting_of Fit.Over = Measured.Refused 32

-- the walk w stands at the selector s, with no path left, where positions take from the columns Δ
pub record CheckingAt (incoming : Bytes) (v : Edition) (n : ℕ) (plan : Bytes) (w : Walk) (s : Selector) (Δ : Fields) : Type 0 where
  pub columns : ColumnsAt v deepest incoming n 7
  pub frames : List Frame
  pub standing : WalkAt plan w (state s frames [])
  pub shallow : Shallow (state s frames [])
  pub scoped : ScopeOf (fields_of columns.columns) frames Δ

-- whether a selector transforms what another gives
abbrev pub is_transform : Selector → Bool
is_transform (position k) = false
is_transform (constant name t v) = false
is_transform (cast i t o) = true
is_transform (rename i name) = true
is_transform (struct_mapping i ss) = true
is_transform (list_mapping i e) = true
is_transform (array_mapping i e) = true

-- at the transform s, whose input, at which x stands, has passed and gives a column of a type of which z is known, and
-- whether it is within the limits
pub record PassedInput (incoming : Bytes) (v : Edition) (n : ℕ) (plan : Bytes) (w x : Walk) (z : Size) (within : Bool) (s : Selector) (Δ : Fields) :
    Type 0 where
  pub checking : CheckingAt incoming v n plan w s Δ
  pub input : Selector
  pub takes : Input s input
  pub column : Column
  pub passes : type_of Δ input ≡ gives column
  pub known : Bool
  pub sized : z ≡ size_of known column.type
  pub limited : within ≡ true → within_limits column.type ≡ true
  pub named : NamedAt incoming v n plan x column

-- at the mapping s, whose input i has passed and gives the type t
pub record MappingAt (incoming : Bytes) (v : Edition) (n : ℕ) (plan : Bytes) (w : Walk) (s i : Selector) (t : DataType) : Type 0 where
  pub columns : ColumnsAt v deepest incoming n 7
  pub frames : List Frame
  pub standing : WalkAt plan w (state s frames [])
  pub shallow : Shallow (state s frames [])
  pub scope : Fields
  pub scoped : ScopeOf (fields_of columns.columns) frames scope
  pub column : Column
  pub passes : type_of scope i ≡ gives column
  pub kind : column.type ≡ t

-- a mapping of a list or an array of elements t by the selector e, which makes f, by a head of so many bytes, of what e
-- gives
pub data Elements (incoming : Bytes) (v : Edition) (n : ℕ) (plan : Bytes) (w : Walk) : DataType → Selector → (DataType → DataType) → ℕ → Type 0 where
  of_list : {i e : Selector} {t : DataType} → MappingAt incoming v n plan w (list_mapping i e) i (list t) → Elements incoming v n plan w t e (λ u. list u) 1
  of_array : {i e : Selector} {x : ℕ} {t : DataType} → MappingAt incoming v n plan w (array_mapping i e) i (array x t) → Elements incoming v n plan w t e
      (λ u. array x u) 5

-- what is left of a mapping's check once its input has passed: its selectors, then its result
abbrev pub fields_result : Fields → Selectors → Bytes → Result Column
fields_result fs ss name = types_of fs ss >>= λ gs. resulting name (struct gs)

abbrev pub element_result : DataType → Selector → (DataType → DataType) → Bytes → Result Column
element_result t e f name = type_of (element_of t) e >>= λ d. resulting name (f d.type)

-- what is left of a transform's check once its input has passed: nothing, where the answer is known
abbrev pub nothing_left : Measured → Rest
nothing_left (Measured.Passed z) = Rest.Passed z
nothing_left (Measured.Refused k) = Rest.Refused k

-- a mapping's selectors, where its input has its kind
abbrev pub fields_left : TypeHead → ℕ → Rest
fields_left (TypeHead.Leaf p l) count = Rest.Refused 32
fields_left (TypeHead.Struct n) count = Rest.Fields count n
fields_left TypeHead.List count = Rest.Refused 32
fields_left (TypeHead.Array w) count = Rest.Refused 32

abbrev pub listed_left : TypeHead → Rest
listed_left (TypeHead.Leaf p l) = Rest.Refused 32
listed_left (TypeHead.Struct n) = Rest.Refused 32
listed_left TypeHead.List = Rest.Element 1
listed_left (TypeHead.Array w) = Rest.Refused 32

abbrev pub arrayed_left : TypeHead → Rest
arrayed_left (TypeHead.Leaf p l) = Rest.Refused 32
arrayed_left (TypeHead.Struct n) = Rest.Refused 32
arrayed_left TypeHead.List = Rest.Refused 32
arrayed_left (TypeHead.Array w) = Rest.Element 5

-- the check of s is that of a struct mapping's count selectors, over m columns, within the limits or not, and then of
-- its result
pub record FieldsLeft (incoming : Bytes) (v : Edition) (n : ℕ) (plan : Bytes) (w : Walk) (within : Bool) (s : Selector) (Δ : Fields) (count m : ℕ) :
    Type 0 where
  pub input : Selector
  pub parts : Selectors
  pub scope : Fields
  pub name : Bytes
  pub mapping : MappingAt incoming v n plan w (struct_mapping input parts) input (struct scope)
  pub counted : count_selectors parts ≡ count
  pub columns : ScopeIs (record { count = m; within = within }) scope
  pub left : measured_of true (type_of Δ s) ≡ measured_of true (fields_result scope parts name)

-- of the selector of a list or array mapping
pub record ElementLeft (incoming : Bytes) (v : Edition) (n : ℕ) (plan : Bytes) (w : Walk) (within : Bool) (s : Selector) (Δ : Fields) (head : ℕ) : Type 0 where
  pub element : DataType
  pub selector : Selector
  pub makes : DataType → DataType
  pub name : Bytes
  pub elements : Elements incoming v n plan w element selector makes head
  pub limited : within ≡ true → within_limits element ≡ true
  pub left : measured_of true (type_of Δ s) ≡ measured_of true (element_result element selector makes name)

abbrev pub RestAnswer : Bytes → Edition → ℕ → Bytes → Walk → Bool → Selector → Fields → Rest → Type 0
RestAnswer incoming v n plan w within s Δ (Rest.Passed z) = MeasuredIs (Measured.Passed z) (type_of Δ s)
RestAnswer incoming v n plan w within s Δ (Rest.Refused k) = MeasuredIs (Measured.Refused k) (type_of Δ s)
RestAnswer incoming v n plan w within s Δ (Rest.Fields count m) = FieldsLeft incoming v n plan w within s Δ count m
RestAnswer incoming v n plan w within s Δ (Rest.Element head) = ElementLeft incoming v n plan w within s Δ head

pub record RestIs (incoming : Bytes) (v : Edition) (n : ℕ) (plan : Bytes) (w : Walk) (within : Bool) (s : Selector) (Δ : Fields) (r : Rest) : Type 0 where
  pub answer : RestAnswer incoming v n plan w within s Δ r
