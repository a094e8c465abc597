-- `transfer::row::index_fields` meets its contract: a table with no entry tells nothing. Assumes nothing.
use native.Mathlib.Omega.{arith}
use mathlib.Core.Path.{refl}
use Rattle.index.proofs.Empty.{row-indexed-none}
use Rattle.transfer.proofs.row.index_fields.Goals as goal

pub returns-then-count-le8 : goal.returns-then-count-le8
returns-then-count-le8 c =
    record { upper_bound = omega arith; upper_bound_2 = omega arith; indexed_in = row-indexed-none refl }
