-- `direct::scope::index_fields` meets its contract. Assumes nothing.
use mathlib.Core.Path.{refl}
use native.Mathlib.Omega.{arith}
use Rattle.index.proofs.Empty.{indexed-none}
use Rattle.direct.proofs.scope.index_fields.Goals as goal

pub returns-then-m-le8 : goal.returns-then-m-le8
returns-then-m-le8 c =
    record { upper_bound = omega arith; indexed = indexed-none refl }
