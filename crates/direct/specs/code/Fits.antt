-- A selector that gives a column of the target's type, over a scope: what the functions of the direct check ask and
-- speak of.
use Rattle.std.specs.Prelude.{ℕ, ◌≤◌, ◌≡◌, List, length}
use Rattle.layout.specs.Bytes.{Bytes}
use Rattle.layout.specs.Tree.{DataType, Fields, dtype_of, fields_of}
use Rattle.layout.specs.Layout.{deepest}
use Rattle.layout.specs.code.Stands.{TypeAt, ColumnsAt}
use Rattle.layout.specs.declared.bytes.Span.{Span}
use Rattle.layout.specs.declared.cursor.Cursor.{Cursor}
use Rattle.layout.specs.declared.edition.Edition.{Edition}
use Rattle.forms.specs.code.Labelled.{ColumnAt}
use Rattle.direct.specs.declared.fit.FitEnd.{FitEnd}
use Rattle.plan.specs.Result.{Result, gives}
use Rattle.plan.specs.Check.{Column, column, longest_type, type_of, types_of}
use Rattle.walk.specs.code.Stands.{SelectorAt, SelectorsAt}
use Rattle.layout.specs.declared.columns.ColumnRange.{ColumnRange}
use Rattle.direct.specs.declared.scope.Scope.{Scope}
use Rattle.direct.specs.declared.scope.Source.{Source}
use Rattle.direct.specs.declared.fit.TargetPlace.{TargetPlace}
use Rattle.direct.specs.declared.place.Place.{Place}
use Rattle.direct.specs.declared.place.Name.{Name}
use Rattle.direct.specs.declared.fit.Fit.{Fit}
use Rattle.direct.specs.code.Places.{NameAt}
use Rattle.direct.specs.code.Scopes.{ScopeAt}

-- ---- a selector of the plan and a type of the target

-- A type of the target is within the limits of a result, for the target is no longer than a result may be.
pub record FitAt (incoming : Bytes) (v : Edition) (scope : Scope) (index : List ℕ) (stride : ℕ) (plan : Bytes) (at : ℕ) (target : Bytes) (vt : Edition)
    (bt : ℕ) : Type 0 where
  pub scoped : ScopeAt incoming v scope index stride
  pub selector : SelectorAt plan at
  pub type : TypeAt vt deepest target bt
  pub small : length target ≤ longest_type

abbrev pub FitFrom : Bytes → Source → List ℕ → Bytes → ℕ → Bytes → TargetPlace → Type 0
FitFrom incoming source index plan at target place =
    FitAt incoming source.edition source.scope index source.stride plan at target place.edition place.at.at

-- the result r is a column of the type t, whose name stands where n says; the selector ends at x and the type at y
pub record FitTo (incoming plan : Bytes) (r : Result Column) (e : ℕ) (t : DataType) (f : ℕ) (x y : Cursor) (n : Name) : Type 0 where
  pub name : Bytes
  pub named : NameAt incoming plan n name
  pub typed : r ≡ gives (column name t)
  pub ends : (x.at ≡ e) × (y.at ≡ f)

-- an unknown fit says nothing
abbrev pub FitParts : Bytes → Bytes → Result Column → ℕ → DataType → ℕ → Fit → Type 0
FitParts incoming plan r e t f (Fit.Is x y n) = FitTo incoming plan r e t f x y n
FitParts incoming plan r e t f Fit.Unknown = Unit {0}

pub record FitIs (incoming plan : Bytes) (r : Result Column) (e : ℕ) (t : DataType) (f : ℕ) (q : Fit) : Type 0 where
  pub parts : FitParts incoming plan r e t f q

abbrev pub Fits : {incoming : Bytes} {v : Edition} {scope : Scope} {index : List ℕ} {stride : ℕ} {plan : Bytes} {at : ℕ} {target : Bytes} {vt : Edition}
    {bt : ℕ}
    → FitAt incoming v scope index stride plan at target vt bt → Fit → Type 0
Fits {incoming = incoming} {plan = plan} A q =
    FitIs incoming plan (type_of A.scoped.fields A.selector.tree) A.selector.end (dtype_of A.type.tree) A.type.end q

-- the same ends under the name of the column that a mapping takes
abbrev pub around_of : Span → Fit → Fit
around_of name (Fit.Is x y n) = Fit.Is x y (record { place = Place.Incoming; span = name })
around_of name Fit.Unknown = Fit.Unknown

-- ---- a selector and a column of the target

pub record ColumnFitAt (incoming : Bytes) (v : Edition) (scope : Scope) (index : List ℕ) (stride : ℕ) (plan : Bytes) (at : ℕ) (target : Bytes) (vt : Edition)
    (bt : ℕ) : Type 0 where
  pub scoped : ScopeAt incoming v scope index stride
  pub selector : SelectorAt plan at
  pub column : ColumnAt vt deepest target bt
  pub small : length target ≤ longest_type

abbrev pub ColumnFitFrom : Bytes → Source → List ℕ → Bytes → ℕ → Bytes → TargetPlace → Type 0
ColumnFitFrom incoming source index plan at target place =
    ColumnFitAt incoming source.edition source.scope index source.stride plan at target place.edition place.at.at

-- the result r is the value a; the selectors end at x and the types at y
pub record GivesTo {A : Type 0} (r : Result A) (e : ℕ) (a : A) (f : ℕ) (x y : Cursor) : Type 0 where
  pub typed : r ≡ gives a
  pub ends : (x.at ≡ e) × (y.at ≡ f)

abbrev pub GivesParts : {A : Type 0} → Result A → ℕ → A → ℕ → FitEnd → Type 0
GivesParts r e a f (FitEnd.At x y) = GivesTo r e a f x y
GivesParts r e a f FitEnd.Unknown = Unit {0}

pub record GivesIs {A : Type 0} (r : Result A) (e : ℕ) (a : A) (f : ℕ) (q : FitEnd) : Type 0 where
  pub parts : GivesParts r e a f q

abbrev pub FitsColumn : {incoming : Bytes} {v : Edition} {scope : Scope} {index : List ℕ} {stride : ℕ} {plan : Bytes} {at : ℕ} {target : Bytes} {vt : Edition}
    {bt : ℕ}
    → ColumnFitAt incoming v scope index stride plan at target vt bt → FitEnd → Type 0
FitsColumn A q =
    GivesIs (type_of A.scoped.fields A.selector.tree) A.selector.end (column A.column.label.name (dtype_of A.column.inner.tree))
    A.column.inner.end q

-- ---- as many selectors and columns of the target

pub record FieldsFitAt (incoming : Bytes) (v : Edition) (scope : Scope) (index : List ℕ) (stride : ℕ) (plan : Bytes) (n at : ℕ) (target : Bytes)
    (vt : Edition) (bt : ℕ) : Type 0 where
  pub scoped : ScopeAt incoming v scope index stride
  pub selectors : SelectorsAt plan n at
  pub columns : ColumnsAt vt deepest target n bt
  pub small : length target ≤ longest_type

-- a selector for each of the columns
abbrev pub FieldsFitFrom : Bytes → Source → List ℕ → Bytes → ℕ → Bytes → ColumnRange → Type 0
FieldsFitFrom incoming source index plan at target columns =
    FieldsFitAt incoming source.edition source.scope index source.stride plan columns.count at target columns.edition columns.first.at

abbrev pub FitsFields : {incoming : Bytes} {v : Edition} {scope : Scope} {index : List ℕ} {stride : ℕ} {plan : Bytes} {n at : ℕ} {target : Bytes}
    {vt : Edition} {bt : ℕ}
    → FieldsFitAt incoming v scope index stride plan n at target vt bt → FitEnd → Type 0
FitsFields A q = GivesIs (types_of A.scoped.fields A.selectors.trees) A.selectors.end (fields_of A.columns.columns) A.columns.end q
