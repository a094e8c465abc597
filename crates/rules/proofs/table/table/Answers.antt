-- `rules::table::table` meets its contract: antt computes the rules of the whole table, and the chain at every pair,
-- with policy and parameters left variable.
use mathlib.Core.Path.{refl}
use Rattle.rules.specs.Chain.{chain}
use Rattle.rules.proofs.Agree.{agrees}
use Rattle.rules.proofs.table.table.Goals as goal

pub returns : goal.returns
returns c =
    unfold chain in agrees (λ p z d e. refl)
