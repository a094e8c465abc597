-- What stands at an offset of a plan that was read before: what the functions that walk over its selectors ask and
-- speak of.
use Rattle.std.specs.Prelude.{ℕ, ◌≡◌}
use Rattle.layout.specs.Bytes.{Bytes}
use Rattle.layout.specs.Parser.{ok}
use Rattle.plan.specs.Selector.{Selector, Selectors}
use Rattle.plan.specs.Read.{selector, selectors as selectorsOf, deepest_selector}

-- a selector; one inside another has fewer levels left, and reads the same with all of them
pub record SelectorAt (s : Bytes) (at : ℕ) : Type 0 where
  pub tree : Selector
  pub end : ℕ
  pub reads : selector deepest_selector s at ≡ ok tree end

-- n selectors
pub record SelectorsAt (s : Bytes) (n at : ℕ) : Type 0 where
  pub trees : Selectors
  pub end : ℕ
  pub reads : selectorsOf (selector deepest_selector) n s at ≡ ok trees end
