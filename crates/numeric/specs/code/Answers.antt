-- What the answers of the code stand for.
use Rattle.std.specs.Prelude.{◌≡◌}
use Rattle.numeric.specs.declared.floats.Format.{Format}
use Rattle.numeric.specs.declared.round.Binary.{Binary}
use Rattle.numeric.specs.Floats.{precision_of, emax_of}

-- b has the precision and the largest exponent of f
pub record IsBinaryOf (f : Format) (b : Binary) : Type 0 where
  pub precision : b.precision ≡ precision_of f
  pub max_exponent : b.max_exponent ≡ emax_of f
