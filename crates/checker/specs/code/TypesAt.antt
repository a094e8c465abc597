-- What the functions of the check ask and speak of: where types and names stand.
use Rattle.std.specs.Prelude.{ℕ, ◌<◌, ◌≤◌, ◌≡◌, List, []}
use Rattle.layout.specs.Bytes.{Bytes}
use Rattle.layout.specs.Tree.{DataType, leaf, struct, list, array, Fields, fnil, fields_of}
use Rattle.layout.specs.Layout.{deepest, Head, a_leaf, a_struct, a_list, an_array}
use Rattle.layout.specs.code.Stands.{ColumnsAt}
use Rattle.layout.specs.code.Answers.{span_at, SpanIn, leaf_at}
use Rattle.layout.specs.declared.columns.Position.{Position}
use Rattle.layout.specs.declared.edition.Edition.{Edition}
use Rattle.layout.specs.declared.edition.Edition.TheVariants.{One}
use Rattle.forms.specs.code.Heads.{head_of}
use Rattle.plan.specs.Result.{gives}
use Rattle.plan.specs.Selector.{Selector, struct_mapping, list_mapping, array_mapping, Selectors}
use Rattle.plan.specs.Check.{Column, column_at, element_of, type_of, types_of}
use Rattle.walk.specs.code.State.{Frame, fields, State, state}
use Rattle.walk.specs.code.Moves.{Stopped, Input}
use Rattle.walk.specs.code.Types.{ScopeOf, Along, Gives}
use Rattle.walk.specs.code.Walks.{WalkAt, rank}
use Rattle.walk.specs.declared.walk.Walk.{Walk}
use Rattle.nodes.specs.code.Typed.{TypeIs}
use Rattle.direct.specs.code.Places.{bytes_of, NameAt}
use Rattle.checker.specs.code.Shallow.{Shallow}
use Rattle.direct.specs.declared.place.Place.{Place}
use Rattle.direct.specs.declared.place.Name.{Name}
use Rattle.checker.specs.declared.place.TypeHead.{TypeHead}
use Rattle.checker.specs.declared.resolve.Source.{Source}
use Rattle.checker.specs.declared.resolve.Resolved.{Resolved}
use Rattle.checker.specs.declared.resolve.Stop.{Stop}
use Rattle.checker.specs.declared.name.OwnName.{OwnName}
use Rattle.checker.specs.declared.name.PartName.{PartName}

-- what an answer for a type's head stands for
abbrev pub head_kind : Bytes → Bytes → TypeHead → Head
head_kind incoming plan (TypeHead.Leaf p l) = a_leaf (leaf_at (bytes_of incoming plan p) l)
head_kind incoming plan (TypeHead.Struct n) = a_struct n
head_kind incoming plan TypeHead.List = a_list
head_kind incoming plan (TypeHead.Array w) = an_array w

abbrev pub HeadInside : Bytes → Bytes → TypeHead → Type 0
HeadInside incoming plan (TypeHead.Leaf p l) = SpanIn (bytes_of incoming plan p) l.zone
HeadInside incoming plan (TypeHead.Struct n) = Unit {0}
HeadInside incoming plan TypeHead.List = Unit {0}
HeadInside incoming plan (TypeHead.Array w) = Unit {0}

-- h is what the type t begins with
pub record TypeHeadIs (incoming plan : Bytes) (t : DataType) (h : TypeHead) : Type 0 where
  pub kind : head_kind incoming plan h ≡ head_of t
  pub inside : HeadInside incoming plan h

-- ---- types

-- the columns that positions take inside a mapping of this type
unfoldable pub parts_of : DataType → Fields
parts_of (leaf l) = fnil
parts_of (struct fs) = fs
parts_of (list t) = element_of t
parts_of (array w t) = element_of t

-- part k of the type t is the column a
pub record PartOf (t : DataType) (k : ℕ) (a : Column) : Type 0 where
  pub found : column_at (parts_of t) k ≡ gives a

-- column k of n is a
pub record ColumnOf (incoming : Bytes) (v : Edition) (n : ℕ) (k : Position) (a : Column) : Type 0 where
  pub columns : ColumnsAt v deepest incoming n 7
  pub found : column_at (fields_of columns.columns) k.0 ≡ gives a

-- from the type of the column k of n the path p leads to the type t
pub record ColumnAlong (incoming : Bytes) (v : Edition) (n : ℕ) (k : Position) (p : List ℕ) (t : DataType) : Type 0 where
  pub columns : ColumnsAt v deepest incoming n 7
  pub column : Column
  pub found : column_at (fields_of columns.columns) k.0 ≡ gives column
  pub along : Along column.type p t

-- over the n columns of an incoming layout, the walk w stands at the type t
pub record TypedAt (incoming : Bytes) (v : Edition) (n : ℕ) (plan : Bytes) (w : Walk) (t : DataType) : Type 0 where
  pub columns : ColumnsAt v deepest incoming n 7
  pub place : State
  pub standing : WalkAt plan w place
  pub shallow : Shallow place
  pub typed : Gives (fields_of columns.columns) place t

-- at the end of its path, at a selector that gives the column c
pub record NamedAt (incoming : Bytes) (v : Edition) (n : ℕ) (plan : Bytes) (w : Walk) (c : Column) : Type 0 where
  pub columns : ColumnsAt v deepest incoming n 7
  pub selector : Selector
  pub frames : List Frame
  pub standing : WalkAt plan w (state selector frames [])
  pub shallow : Shallow (state selector frames [])
  pub scope : Fields
  pub scoped : ScopeOf (fields_of columns.columns) frames scope
  pub passes : type_of scope selector ≡ gives c

-- a mapping whose input and parts have passed makes the type t, which its limits have no say in
pub data Made (Γ : Fields) : State → DataType → Type 0 where
  made_struct : {E : List Frame} {Δ : Fields} {s : Selector} {ss : Selectors} {a : Column} {fs gs : Fields} → ScopeOf Γ E Δ → type_of Δ s ≡ gives a →
      a.type ≡ struct fs
      → types_of fs ss ≡ gives gs → Made Γ (state (struct_mapping s ss) E []) (struct gs)
  made_list : {E : List Frame} {Δ : Fields} {s e : Selector} {a d : Column} {t : DataType} → ScopeOf Γ E Δ → type_of Δ s ≡ gives a → a.type ≡ list t
      → type_of (element_of t) e ≡ gives d → Made Γ (state (list_mapping s e) E []) (list d.type)
  made_array : {E : List Frame} {Δ : Fields} {s e : Selector} {a d : Column} {w : ℕ} {t : DataType} → ScopeOf Γ E Δ → type_of Δ s ≡ gives a → a.type ≡ array w t
      → type_of (element_of t) e ≡ gives d → Made Γ (state (array_mapping s e) E []) (array w d.type)

pub record MappedAt (incoming : Bytes) (v : Edition) (n : ℕ) (plan : Bytes) (w : Walk) (t : DataType) : Type 0 where
  pub columns : ColumnsAt v deepest incoming n 7
  pub place : State
  pub standing : WalkAt plan w place
  pub shallow : Shallow place
  pub made : Made (fields_of columns.columns) place t

-- the type t stands where r says
abbrev pub SourceAt : Bytes → Edition → ℕ → Bytes → Source → ℕ → Walk → DataType → Type 0
SourceAt incoming v n plan Source.Incoming at w t = TypeIs v incoming at t
SourceAt incoming v n plan Source.Plan at w t = TypeIs One plan at t
SourceAt incoming v n plan Source.Mapped at w t = MappedAt incoming v n plan w t

pub record ResolvedAt (incoming : Bytes) (v : Edition) (n : ℕ) (plan : Bytes) (r : Resolved) (t : DataType) : Type 0 where
  pub stands : SourceAt incoming v n plan r.source r.at.at r.walk t

pub record Resolves (incoming : Bytes) (v : Edition) (n : ℕ) (plan : Bytes) (w : Walk) (t : DataType) (r : Resolved) : Type 0 where
  pub resolved : ResolvedAt incoming v n plan r t
  pub falls : rank r.walk ≤ rank w

-- ---- where a walk stops

pub record StoppedAt (incoming : Bytes) (v : Edition) (n : ℕ) (plan : Bytes) (w : Walk) (t : DataType) : Type 0 where
  pub typed : TypedAt incoming v n plan w t
  pub stopped : Stopped typed.place

-- at the input of the rename where w stands is the type t
pub record RenameStop (incoming : Bytes) (v : Edition) (n : ℕ) (plan : Bytes) (w : Walk) (t : DataType) : Type 0 where
  pub columns : ColumnsAt v deepest incoming n 7
  pub place : State
  pub standing : WalkAt plan w place
  pub input : Selector
  pub renamed : Input place.selector input
  pub shallow : Shallow (state input place.frames place.path)
  pub typed : Gives (fields_of columns.columns) (state input place.frames place.path) t

abbrev pub StopAnswer : Bytes → Edition → ℕ → Bytes → Walk → DataType → Stop → Type 0
StopAnswer incoming v n plan w t (Stop.Incoming c) = TypeIs v incoming c.at t
StopAnswer incoming v n plan w t (Stop.Plan c) = TypeIs One plan c.at t
StopAnswer incoming v n plan w t Stop.Rename = RenameStop incoming v n plan w t
StopAnswer incoming v n plan w t Stop.Mapping = MappedAt incoming v n plan w t

pub record StopIs (incoming : Bytes) (v : Edition) (n : ℕ) (plan : Bytes) (w : Walk) (t : DataType) (r : Stop) : Type 0 where
  pub answer : StopAnswer incoming v n plan w t r

-- ---- inside a mapping

-- over the n columns of an incoming layout, positions where w stands take from the columns Δ
pub record ScopedAt (incoming : Bytes) (v : Edition) (n : ℕ) (plan : Bytes) (w : Walk) (Δ : Fields) : Type 0 where
  pub columns : ColumnsAt v deepest incoming n 7
  pub place : State
  pub standing : WalkAt plan w place
  pub shallow : Shallow place
  pub scoped : ScopeOf (fields_of columns.columns) place.frames Δ

-- they are the parts of the type where r says
pub record EnclosingIs (incoming : Bytes) (v : Edition) (n : ℕ) (plan : Bytes) (w : Walk) (Δ : Fields) (r : Resolved) : Type 0 where
  pub type : DataType
  pub parts : parts_of type ≡ Δ
  pub resolved : ResolvedAt incoming v n plan r type
  pub falls : rank r.walk < rank w

-- ---- names

-- the input of the transform where w stands gives a column of the same name as a
pub record InputNamed (incoming : Bytes) (v : Edition) (n : ℕ) (plan : Bytes) (w : Walk) (a : Column) : Type 0 where
  pub named : NamedAt incoming v n plan w a
  pub input : Selector
  pub takes : Input named.selector input
  pub shallow : Shallow (state input named.frames [])
  pub column : Column
  pub passes : type_of named.scope input ≡ gives column
  pub same : column.name ≡ a.name

pub record PositionNamed (incoming : Bytes) (v : Edition) (n : ℕ) (plan : Bytes) (w : Walk) (k : Position) (a : Column) : Type 0 where
  pub scope : Fields
  pub scoped : ScopedAt incoming v n plan w scope
  pub found : column_at scope k.0 ≡ gives a

abbrev pub OwnNameAnswer : Bytes → Edition → ℕ → Bytes → Walk → Column → OwnName → Type 0
OwnNameAnswer incoming v n plan w a (OwnName.Is m) = NameAt incoming plan m a.name
OwnNameAnswer incoming v n plan w a OwnName.Input = InputNamed incoming v n plan w a
OwnNameAnswer incoming v n plan w a (OwnName.Position k) = PositionNamed incoming v n plan w k a

pub record OwnNameIs (incoming : Bytes) (v : Edition) (n : ℕ) (plan : Bytes) (w : Walk) (a : Column) (r : OwnName) : Type 0 where
  pub answer : OwnNameAnswer incoming v n plan w a r

-- the mapping where w stands makes a struct whose field k is a
pub record FieldOf (incoming : Bytes) (v : Edition) (n : ℕ) (plan : Bytes) (w : Walk) (k : ℕ) (a : Column) : Type 0 where
  pub fields : Fields
  pub mapped : MappedAt incoming v n plan w (struct fields)
  pub found : column_at fields k ≡ gives a

abbrev pub MappedNameAnswer : Bytes → Edition → ℕ → Bytes → Walk → ℕ → Column → PartName → Type 0
MappedNameAnswer incoming v n plan w k a (PartName.Is m) = NameAt incoming plan m a.name
MappedNameAnswer incoming v n plan w k a PartName.Child = FieldOf incoming v n plan w k a

pub record MappedNameIs (incoming : Bytes) (v : Edition) (n : ℕ) (plan : Bytes) (w : Walk) (k : ℕ) (a : Column) (r : PartName) : Type 0 where
  pub answer : MappedNameAnswer incoming v n plan w k a r
