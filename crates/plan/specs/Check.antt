-- Document 01, "Checking a plan" and "The check follows types": the column that each selector gives, then 33.
-- "Selectors in order, input before transform (a mapping's input kind, then its selectors, then its result)": the binds
-- below are in this order.
use Rattle.std.specs.Prelude.{ℕ, zero, suc, ◌+◌, Bool, false, ◌&&◌, [], leb, length}
use Rattle.layout.specs.Bytes.{Bytes}
use Rattle.layout.specs.Tree.{LeafType, leaf_of, DataType, leaf, struct, list, array, Fields, fnil, fcons}
use Rattle.layout.specs.Limits.{longest, deepest}
use Rattle.forms.specs.Form.{form}
use Rattle.forms.specs.Depth.{depth_of}
use Rattle.forms.specs.Same.{equal_fields}
use Rattle.rules.specs.declared.outcome.CastOption.{CastOption}
use Rattle.rules.specs.declared.outcome.CastOption.TheVariants.{NonStrict}
use Rattle.rules.specs.Outcomes.{Verdict}
use Rattle.rules.specs.Classes.{is_null}
use Rattle.rules.specs.Pairs.{has_option, cast_passes}
use Rattle.plan.specs.Result.{Result, gives, refuses, ◌>>=◌, demand, Answer, accepted, placed, answered}
use Rattle.plan.specs.Selector.{Selector, position, constant, cast, rename, struct_mapping, list_mapping, array_mapping, Selectors, snil, scons}

-- what a selector gives: a column's name and type
pub record Column : Type 0 where
  pub name : Bytes
  pub type : DataType

abbrev pub column : Bytes → DataType → Column
column n t = record { name = n; type = t }

-- 31 no such position
unfoldable pub column_at : Fields → ℕ → Result Column
column_at fnil k = refuses 31
column_at (fcons n t fs) zero = gives (column n t)
column_at (fcons n t fs) (suc k) = column_at fs k

-- "In an element, position 0 is the element and names have no effect"
abbrev pub element_of : DataType → Fields
element_of t = fcons [] t fnil

-- ---- 32 the transform doesn't fit

-- the kind of a mapping's input
unfoldable pub struct_of : DataType → Result Fields
struct_of (leaf l) = refuses 32
struct_of (struct fs) = gives fs
struct_of (list t) = refuses 32
struct_of (array w t) = refuses 32

unfoldable pub list_of : DataType → Result DataType
list_of (leaf l) = refuses 32
list_of (struct fs) = refuses 32
list_of (list t) = gives t
list_of (array w t) = refuses 32

pub record Array : Type 0 where
  pub width : ℕ
  pub element : DataType

unfoldable pub array_of : DataType → Result Array
array_of (leaf l) = refuses 32
array_of (struct fs) = refuses 32
array_of (list t) = refuses 32
array_of (array w t) = gives (record { width = w; element = t })

-- null goes NonStrict to a nested type
unfoldable pub from_null_of : LeafType → CastOption → Bool
from_null_of l o = is_null (leaf_of l) && has_option o (Verdict.cast NonStrict)

-- "A cast passes if its leaf pair, flags all on, has that option, or null goes NonStrict to any other type; never
-- between equal types."
unfoldable pub cast_fits_of : DataType → DataType → CastOption → Bool
cast_fits_of (leaf i) (leaf t) o = cast_passes i t o
cast_fits_of (leaf i) (struct fs) o = from_null_of i o
cast_fits_of (leaf i) (list t) o = from_null_of i o
cast_fits_of (leaf i) (array w t) o = from_null_of i o
cast_fits_of (struct fs) u o = false
cast_fits_of (list t) u o = false
cast_fits_of (array w t) u o = false

-- a type of at most 16 levels and, in version 1 form, 16,384 bytes
abbrev pub longest_type : ℕ
longest_type = longest

unfoldable pub within_limits : DataType → Bool
within_limits t = leb (depth_of t) deepest && leb (length (form t)) longest_type

-- a transform's result
unfoldable pub resulting : Bytes → DataType → Result Column
resulting n t = demand (within_limits t) 32 (gives (column n t))

-- ---- each selector over the columns Γ

unfoldable pub check_cast : DataType → CastOption → Column → Result Column
check_cast t o c = demand (cast_fits_of c.type t o) 32 (resulting c.name t)

unfoldable pub check_rename : Bytes → Column → Result Column
check_rename n c = resulting n c.type

unfoldable pub check_struct : (Fields → Result Fields) → Column → Result Column
check_struct f c = do
  fs ← struct_of c.type
  gs ← f fs
  resulting c.name (struct gs)

unfoldable pub check_list : (Fields → Result Column) → Column → Result Column
check_list f c = do
  t ← list_of c.type
  d ← f (element_of t)
  resulting c.name (list d.type)

unfoldable pub check_array : (Fields → Result Column) → Column → Result Column
check_array f c = do
  a ← array_of c.type
  d ← f (element_of a.element)
  resulting c.name (array a.width d.type)

unfoldable mutual
  pub type_of : Fields → Selector → Result Column
  type_of Γ (position k) = column_at Γ k.0
  type_of Γ (constant n t v) = gives (column n t)
  type_of Γ (cast s t o) = type_of Γ s >>= check_cast t o
  type_of Γ (rename s n) = type_of Γ s >>= check_rename n
  type_of Γ (struct_mapping s ss) = type_of Γ s >>= check_struct (λ fs. types_of fs ss)
  type_of Γ (list_mapping s e) = type_of Γ s >>= check_list (λ fs. type_of fs e)
  type_of Γ (array_mapping s e) = type_of Γ s >>= check_array (λ fs. type_of fs e)

  pub types_of : Fields → Selectors → Result Fields
  types_of Γ snil = gives fnil
  types_of Γ (scons s ss) = type_of Γ s >>= λ c. types_of Γ ss >>= λ fs. gives (fcons c.name c.type fs)

-- ---- the plan

-- the fields that top selectors give; the place of a refusal is the selector's number, k that of the first
unfoldable pub top_types : Fields → Selectors → ℕ → Answer Fields
top_types Γ snil k = accepted fnil
top_types Γ (scons s ss) k = placed k (type_of Γ s) (λ c. answered (top_types Γ ss (k + 1)) (λ fs. accepted (fcons c.name c.type fs)))

-- 33: names, types or count differ from the target's
unfoldable pub against : Fields → Fields → Answer (Unit {0})
against Δ fs = placed 0 (demand (equal_fields fs Δ) 33 (gives tt)) accepted

-- a plan from the columns Γ to the columns Δ, ids dropped
unfoldable pub check : Fields → Fields → Selectors → Answer (Unit {0})
check Γ Δ ss = answered (top_types Γ ss 0) (against Δ)
