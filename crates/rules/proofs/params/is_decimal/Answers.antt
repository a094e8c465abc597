-- `rules::params::is_decimal` meets its contract: the kind's number is compared. Assumes nothing.
use Rattle.rules.proofs.params.is_decimal.Goals as goal

pub returns : goal.returns
returns c =
    rw c.kind.ensures
