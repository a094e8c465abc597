-- Where a walk through a plan stands, over trees. A node of what a selector gives is named by its path, of field and
-- element numbers; the path is translated through the plan, so that nothing between the record and the output is built,
-- and what a mapping drops is not visited.
use Rattle.std.specs.Prelude.{ℕ, List}
use Rattle.plan.specs.Selector.{Selector}

-- a mapping that was entered: its input, and of a list or array mapping the number of the element
pub data Frame : Type 0 where
  fields : Selector → Frame
  element : Selector → ℕ → Frame

-- its input
abbrev pub input_of : Frame → Selector
input_of (fields s) = s
input_of (element s i) = s

-- a selector, inside the entered mappings, innermost first, and what is left of the path into what it gives
pub record State : Type 0 where
  pub selector : Selector
  pub frames : List Frame
  pub path : List ℕ

abbrev pub state : Selector → List Frame → List ℕ → State
state s E p = record { selector = s; frames = E; path = p }
