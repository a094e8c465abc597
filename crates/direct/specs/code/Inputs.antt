-- The input of a transform, in the tree and where it stands.
use Rattle.std.specs.Prelude.{ℕ, ◌+◌, ◌≡◌, true}
use Rattle.layout.specs.Bytes.{Bytes}
use Rattle.layout.specs.Tree.{DataType, Fields}
use Rattle.plan.specs.Result.{gives}
use Rattle.plan.specs.Selector.{Selector, position, constant, cast, rename, struct_mapping, list_mapping, array_mapping}
use Rattle.plan.specs.Check.{column, within_limits, type_of}
use Rattle.walk.specs.code.Stands.{SelectorAt}
use Rattle.direct.specs.declared.input.Input.{Input}

-- what a transform begins with; a position and a constant have no input
unfoldable pub input_of : Selector → Selector
input_of (position k) = position k
input_of (constant n t v) = constant n t v
input_of (cast s t o) = s
input_of (rename s n) = s
input_of (struct_mapping s ss) = s
input_of (list_mapping s e) = s
input_of (array_mapping s e) = s

-- the input of the selector P stands at m
pub record InputAt (s : Bytes) (at : ℕ) (P : SelectorAt s at) (m : ℕ) : Type 0 where
  pub input : SelectorAt s m
  pub is : input.tree ≡ input_of P.tree
  pub starts : m ≡ at + 1

-- no input says nothing
abbrev pub InputParts : (s : Bytes) (at : ℕ) (P : SelectorAt s at) → Input → Type 0
InputParts s at P (Input.At c) = InputAt s at P c.at
InputParts s at P Input.None = Unit {0}

pub record InputIs (s : Bytes) (at : ℕ) (P : SelectorAt s at) (r : Input) : Type 0 where
  pub parts : InputParts s at P r

-- the selector at m has the type of the selector P around it, whatever its name
pub record Unrenamed (s : Bytes) (at : ℕ) (P : SelectorAt s at) (m : ℕ) : Type 0 where
  pub inner : SelectorAt s m
  pub typed : (Γ : Fields) {n : Bytes} {t : DataType} → type_of Γ inner.tree ≡ gives (column n t) → within_limits t ≡ true → (b : Bytes) ×
      (type_of Γ P.tree ≡ gives (column b t))
