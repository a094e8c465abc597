-- The name of the column that a selector gives, where it stands.
use Rattle.std.specs.Prelude.{ℕ, ◌+◌, ◌≡◌}
use Rattle.layout.specs.Bytes.{Bytes}
use Rattle.layout.specs.Tree.{Fields}
use Rattle.forms.specs.code.Readable.{ShortText}
use Rattle.plan.specs.Result.{Result, gives}
use Rattle.plan.specs.Check.{Column, type_of}
use Rattle.walk.specs.code.Stands.{SelectorAt}
use Rattle.direct.specs.code.Places.{NameAt}
use Rattle.direct.specs.declared.place.Name.{Name}
use Rattle.infer.specs.declared.name.Named.{Named}

-- whatever column the result r is, its name stands where n says
pub record NamedTo (s plan : Bytes) (r : Result Column) (n : Name) : Type 0 where
  pub name : Bytes
  pub named : NameAt s plan n name
  pub short : ShortText name
  pub is : (c : Column) → r ≡ gives c → c.name ≡ name

-- an absent name says nothing
abbrev pub NamedParts : Bytes → Bytes → Result Column → Named → Type 0
NamedParts s plan r (Named.Is n) = NamedTo s plan r n
NamedParts s plan r (Named.Input c) = Unit {0}
NamedParts s plan r Named.Absent = Unit {0}

pub record NamedIs (s plan : Bytes) (r : Result Column) (q : Named) : Type 0 where
  pub parts : NamedParts s plan r q

-- ---- one step

-- the name of the column that P gives is that of its input at m
pub record NamedBy (s plan : Bytes) (Γ : Fields) (at : ℕ) (P : SelectorAt plan at) (m : ℕ) : Type 0 where
  pub input : SelectorAt plan m
  pub same : (c : Column) → type_of Γ P.tree ≡ gives c → (d : Column) × (type_of Γ input.tree ≡ gives d) × (c.name ≡ d.name)
  pub starts : m ≡ at + 1

abbrev pub StepParts : (s plan : Bytes) (Γ : Fields) (at : ℕ) (P : SelectorAt plan at) → Named → Type 0
StepParts s plan Γ at P (Named.Is n) = NamedTo s plan (type_of Γ P.tree) n
StepParts s plan Γ at P (Named.Input c) = NamedBy s plan Γ at P c.at
StepParts s plan Γ at P Named.Absent = Unit {0}

pub record NameStep (s plan : Bytes) (Γ : Fields) (at : ℕ) (P : SelectorAt plan at) (q : Named) : Type 0 where
  pub parts : StepParts s plan Γ at P q
