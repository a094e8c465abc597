-- The columns that positions take from, and the column that a position takes, where they stand in the incoming layout.
use Rattle.std.specs.Prelude.{ℕ, ◌<◌, ◌≡◌, List}
use Rattle.layout.specs.Bytes.{Bytes}
use Rattle.layout.specs.Tree.{Fields, dtype_of, fields_of}
use Rattle.layout.specs.Layout.{deepest}
use Rattle.layout.specs.code.Stands.{TypeAt, ColumnsAt}
use Rattle.layout.specs.code.Answers.{span_at, SpanIn}
use Rattle.layout.specs.declared.bytes.Span.{Span}
use Rattle.layout.specs.declared.cursor.Cursor.{Cursor}
use Rattle.layout.specs.declared.find.Found.{Found}
use Rattle.layout.specs.declared.edition.Edition.{Edition}
use Rattle.plan.specs.Result.{Result, gives}
use Rattle.plan.specs.Check.{Column, column, element_of}
use Rattle.index.specs.code.Indexed.{Indexed}
use Rattle.direct.specs.declared.scope.Scope.{Scope}
use Rattle.direct.specs.declared.scope.Source.{Source}
use Rattle.direct.specs.declared.scope.Taken.{Taken}

-- ---- scopes

-- n columns Γ at an offset, with an index
pub record ColumnsAre (s : Bytes) (v : Edition) (n at : ℕ) (index : List ℕ) (stride : ℕ) (Γ : Fields) : Type 0 where
  pub columns : ColumnsAt v deepest s n at
  pub are : fields_of columns.columns ≡ Γ
  pub indexed : Indexed v s n at stride index
  pub strides : 0 < stride

-- the type of an element, at an offset
pub record ElementIs (s : Bytes) (v : Edition) (at : ℕ) (Γ : Fields) : Type 0 where
  pub type : TypeAt v deepest s at
  pub are : element_of (dtype_of type.tree) ≡ Γ

abbrev pub ScopeParts : Bytes → Edition → Scope → List ℕ → ℕ → Fields → Type 0
ScopeParts s v (Scope.Columns n c) index stride Γ = ColumnsAre s v n c.at index stride Γ
ScopeParts s v (Scope.Element c) index stride Γ = ElementIs s v c.at Γ

-- what positions take from
pub record ScopeAt (s : Bytes) (v : Edition) (scope : Scope) (index : List ℕ) (stride : ℕ) : Type 0 where
  pub fields : Fields
  pub parts : ScopeParts s v scope index stride fields

abbrev pub SourceAt : Bytes → Source → List ℕ → Type 0
SourceAt s source index = ScopeAt s source.edition source.scope index source.stride

-- ---- the column at a position

abbrev pub taken_from : Found → Taken
taken_from (Found.At k l c) = Taken.At l.name c
taken_from Found.Absent = Taken.Absent

-- the result r is a column whose name is n and whose type stands at an offset
pub record TakenAt (s : Bytes) (v : Edition) (r : Result Column) (n : Span) (at : ℕ) : Type 0 where
  pub within : SpanIn s n
  pub type : TypeAt v deepest s at
  pub is : r ≡ gives (column (span_at s n) (dtype_of type.tree))

-- an absent column says nothing
abbrev pub TakenParts : Bytes → Edition → Result Column → Taken → Type 0
TakenParts s v r (Taken.At n c) = TakenAt s v r n c.at
TakenParts s v r Taken.Absent = Unit {0}

pub record TakenIs (s : Bytes) (v : Edition) (r : Result Column) (q : Taken) : Type 0 where
  pub parts : TakenParts s v r q
