-- `nullness::column::element_mark` meets its contract: by the number. Assumes nothing.
use Rattle.nullness.proofs.Marking.{first-element, later-element}
use Rattle.nullness.proofs.column.element_mark.Goals as goal

pub returns-then-k-eq0 : goal.returns-then-k-eq0
returns-then-k-eq0 c =
    first-element _ _ _ c.if-k-eq0.true

pub returns-else-k-eq0 : goal.returns-else-k-eq0
returns-else-k-eq0 c =
    later-element _ _ _ c.if-k-eq0.false
