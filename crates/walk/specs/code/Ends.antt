-- A table of the ends of selectors that stand in a plan.
use Rattle.std.specs.Prelude.{ℕ, ◌+◌, ◌≡◌, length, get_or}
use Rattle.layout.specs.Bytes.{Bytes}
use Rattle.walk.specs.code.Stands.{SelectorAt}
use Rattle.walk.specs.declared.inputs.InputEnds.{InputEnds}

-- every end that is known is right
pub record EndsAt (plan : Bytes) (e : InputEnds) : Type 0 where
  pub room : length e.ends ≡ 64
  pub right : (i : ℕ) (P : SelectorAt plan (e.first + i)) → (get_or e.ends i 0 ≡ 0 → ⊥) → get_or e.ends i 0 ≡ P.end
