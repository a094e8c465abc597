-- What the code of conversions asks of a format.
use Rattle.std.specs.Prelude.{ℕ, ◌≤◌}

-- what the code asks of a format: its patterns fit 64 bits
pub record Fitting (p emax : ℕ) : Type 0 where
  pub two : 2 ≤ p
  pub digits : p ≤ 53
  pub reach : emax ≤ 1023
