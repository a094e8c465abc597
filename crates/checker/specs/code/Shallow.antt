-- Document 01, 30, "selectors nested over 64 (a top one is 1, its input and field selectors one more)", where a walk
-- stands: each mapping that was entered is a level, so there is room for as many.
use Rattle.std.specs.Prelude.{◌+◌, ◌≤◌, ◌<◌, List, [], ◌∷◌, length}
use Rattle.plan.specs.Selector.{nesting}
use Rattle.plan.specs.Read.{deepest_selector}
use Rattle.walk.specs.code.State.{Frame, State, input_of}

abbrev pub ShallowFrames : List Frame → Type 0
ShallowFrames [] = Unit {0}
ShallowFrames (f ∷ E) = (nesting (input_of f) + length E < deepest_selector) × ShallowFrames E

pub record Shallow (x : State) : Type 0 where
  pub here : nesting x.selector + length x.frames ≤ deepest_selector
  pub frames : ShallowFrames x.frames
