-- `nodes::types::type_at` meets its contract: the loop keeps `Leading`. Assumes nothing.
use Rattle.nodes.proofs.Leading.{leading_start, leading_end, leading_more}
use Rattle.nodes.proofs.types.type_at.Goals as goal

pub loop-i-init : goal.loop-i-init
loop-i-init c =
    leading_start c.requires.from_le_len.0

pub type_part-d-requires : goal.type_part-d-requires
type_part-d-requires c =
    (c.loop-i.invariant.leads _ c.requires.leads_at.1).type

pub loop-i-preserved : goal.loop-i-preserved
loop-i-preserved c =
    leading_more c.loop-i.invariant c.loop-i-test.true c.requires.from_le_len.1 c.type_part-d.ensures

pub returns : goal.returns
returns c =
    leading_end c.loop-i.invariant c.loop-i-test.false
