use Rattle.transfer.proofs.Rows.{element-here, element-none}
use Rattle.transfer.proofs.row.element_node.Goals as goal

pub returns-then-p-eq0 : goal.returns-then-p-eq0
returns-then-p-eq0 c =
    λ v lay rec X. element-here X _ c.if-p-eq0.true

pub returns : goal.returns
returns c =
    λ v lay rec X. element-none X _ c.if-p-eq0.false
