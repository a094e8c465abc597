-- `index::columns::start_of` meets its contract. Assumes nothing.
use mathlib.Core.Path.{refl}
use Rattle.index.proofs.Passing.{before-first, before-entry}
use Rattle.index.proofs.columns.start_of.Goals as goal

pub returns-then-j-index : goal.returns-then-j-index
returns-then-j-index c =
    λ v s n I P. before-entry P _ I c.wide-j.ensures c.if-j-index.true c.wide.ensures refl

pub returns-else-j-index : goal.returns-else-j-index
returns-else-j-index c =
    λ v s n I P. before-first P _
