-- Document 01, 32, "its result type is deeper than 16 or over 16,384 bytes in version 1 form": the test within so many
-- levels and bytes, for a type and for a struct's fields.
use Rattle.std.specs.Prelude.{ℕ, ◌+◌, ◌-◌, ◌≤◌, max, ◌≡◌, Bool, true, false, ◌&&◌, leb, length}
use Rattle.layout.specs.Parser.{choose}
use Rattle.layout.specs.Tree.{DataType, Fields, count_fields}
use Rattle.forms.specs.Form.{form, form_fields}
use Rattle.forms.specs.Depth.{depth_of, depth_of_fields}
use Rattle.plan.specs.Result.{gives}
use Rattle.plan.specs.Check.{Column, column_at, within_limits}
use Rattle.checker.specs.declared.limits.Fit.{Fit}
use Rattle.checker.specs.declared.limits.Size.{Size}
use Rattle.checker.specs.declared.selector.ScopeColumns.{ScopeColumns}

-- a depth and a number of bytes, if they are within so many levels and bytes
unfoldable pub fit_of : ℕ → ℕ → ℕ → ℕ → Fit
fit_of deep size levels room = choose (leb deep levels && leb size room) (Fit.Within size deep) Fit.Over

abbrev pub type_fit : DataType → ℕ → ℕ → Fit
type_fit t levels room = fit_of (depth_of t) (length (form t)) levels room

abbrev pub fields_fit_of : Fields → ℕ → ℕ → Fit
fields_fit_of fs levels room = fit_of (depth_of_fields fs) (length (form_fields fs)) levels room

-- a field: its name and its type
abbrev pub column_fit_of : Column → ℕ → ℕ → Fit
column_fit_of a levels room = fit_of (depth_of a.type) (length a.name + 1 + length (form a.type)) levels room

-- of what is one level inside a head of so many bytes
abbrev pub around_of : ℕ → Fit → Fit
around_of head (Fit.Within size deep) = Fit.Within (head + size) (deep + 1)
around_of head Fit.Over = Fit.Over

-- of what stands behind so many bytes of so many levels
abbrev pub joined_of : ℕ → ℕ → Fit → Fit
joined_of before levels (Fit.Within size deep) = Fit.Within (before + size) (max levels deep)
joined_of before levels Fit.Over = Fit.Over

-- the fields so far, and one more
abbrev pub added_of : ℕ → ℕ → Fit → Column → Fit
added_of levels room (Fit.Within size deep) a = joined_of size deep (column_fit_of a levels (room - size))
added_of levels room Fit.Over a = Fit.Over

-- and all the others
abbrev pub rest_fit : ℕ → ℕ → Fit → Fields → Fit
rest_fit levels room (Fit.Within size deep) fs = joined_of size deep (fields_fit_of fs levels (room - size))
rest_fit levels room Fit.Over fs = Fit.Over

-- no more than so many levels and bytes
abbrev pub Bounded : ℕ → ℕ → Fit → Type 0
Bounded levels room f = (size deep : ℕ) → f ≡ Fit.Within size deep → (deep ≤ levels) × (size ≤ room)

-- what is known of the type of what a selector gives, a transform or not
abbrev pub size_of : Bool → DataType → Size
size_of true t = Size.Is (length (form t)) (depth_of t)
size_of false t = Size.Unknown

abbrev pub within_fit : Fit → Bool
within_fit (Fit.Within size deep) = true
within_fit Fit.Over = false

-- the types of all columns are within the limits
pub record Limited (Δ : Fields) : Type 0 where
  pub each : (k : ℕ) (a : Column) → column_at Δ k ≡ gives a → within_limits a.type ≡ true

-- what is known of the columns that positions take from
pub record ScopeIs (scope : ScopeColumns) (Δ : Fields) : Type 0 where
  pub count : count_fields Δ ≡ scope.count
  pub limited : scope.within ≡ true → Limited Δ
