-- A selector that gives a type of the target, under any name.
use Rattle.std.specs.Prelude.{ℕ, ◌≡◌, List}
use Rattle.layout.specs.Bytes.{Bytes}
use Rattle.layout.specs.Tree.{DataType, dtype_of}
use Rattle.layout.specs.declared.cursor.Cursor.{Cursor}
use Rattle.layout.specs.declared.edition.Edition.{Edition}
use Rattle.direct.specs.declared.fit.FitEnd.{FitEnd}
use Rattle.plan.specs.Result.{Result, gives}
use Rattle.plan.specs.Check.{Column, column, type_of}
use Rattle.direct.specs.declared.scope.Scope.{Scope}
use Rattle.direct.specs.code.Fits.{FitAt}

-- the result r is a column of the type t; the selector ends at x and the type at y
pub record TypedTo (r : Result Column) (e : ℕ) (t : DataType) (f : ℕ) (x y : Cursor) : Type 0 where
  pub name : Bytes
  pub typed : r ≡ gives (column name t)
  pub ends : (x.at ≡ e) × (y.at ≡ f)

abbrev pub TypedParts : Result Column → ℕ → DataType → ℕ → FitEnd → Type 0
TypedParts r e t f (FitEnd.At x y) = TypedTo r e t f x y
TypedParts r e t f FitEnd.Unknown = Unit {0}

pub record TypedIs (r : Result Column) (e : ℕ) (t : DataType) (f : ℕ) (q : FitEnd) : Type 0 where
  pub parts : TypedParts r e t f q

abbrev pub FitsType : {incoming : Bytes} {v : Edition} {scope : Scope} {index : List ℕ} {stride : ℕ} {plan : Bytes} {at : ℕ} {target : Bytes}
    {vt : Edition} {bt : ℕ}
    → FitAt incoming v scope index stride plan at target vt bt → FitEnd → Type 0
FitsType A q = TypedIs (type_of A.scoped.fields A.selector.tree) A.selector.end (dtype_of A.type.tree) A.type.end q
