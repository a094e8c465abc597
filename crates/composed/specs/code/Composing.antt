-- What a selector gives, written out: its type in version 1 form at the start of one buffer, its value at the start of
-- another.
use Rattle.std.specs.Prelude.{◌≡◌}
use Rattle.layout.specs.Bytes.{Bytes}
use Rattle.layout.specs.Tree.{Fields, dtype_of}
use Rattle.layout.specs.declared.edition.Edition.TheVariants.{One}
use Rattle.values.specs.Value.{Values}
use Rattle.plan.specs.Result.{gives}
use Rattle.plan.specs.Selector.{Selector}
use Rattle.plan.specs.Check.{column, type_of}
use Rattle.plan.specs.Run.{eval}
use Rattle.nodes.specs.code.Raw.{RawAt}
use Rattle.composed.specs.declared.compose.Composition.{Composition}

-- over the columns Γ and their values ρ
pub record Composed (Γ : Fields) (ρ : Values) (s : Selector) (form value : Bytes) : Type 0 where
  pub raw : RawAt One form 0 value 0
  pub is : raw.value.tree ≡ eval ρ s
  pub name : Bytes
  pub typed : type_of Γ s ≡ gives (column name (dtype_of raw.type.tree))

-- ---- src/compose.rt

abbrev pub CompositionAnswer : Fields → Values → Selector → Bytes → Bytes → Bytes → Bytes → Composition → Type 0
CompositionAnswer Γ ρ s form value form' value' Composition.First = Composed Γ ρ s form value
CompositionAnswer Γ ρ s form value form' value' Composition.Second = Composed Γ ρ s form' value'
CompositionAnswer Γ ρ s form value form' value' Composition.Unknown = Unit {0}

pub record CompositionIs (Γ : Fields) (ρ : Values) (s : Selector) (form value form' value' : Bytes) (r : Composition) : Type 0 where
  pub answer : CompositionAnswer Γ ρ s form value form' value' r
