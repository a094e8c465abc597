use Rattle.transfer.proofs.Origins.{inward_start, inward_end, inward_more, inward_falls}
use Rattle.walk.proofs.View.{same-selector}
use Rattle.transfer.proofs.origin.taken_position.Goals as goal

pub loop-k-init : goal.loop-k-init
loop-k-init c =
    inward_start c.requires same-selector

pub returns-in-Position : goal.returns-in-Position
returns-in-Position c =
    inward_end c.loop-k.invariant c.taken_at.ensures c.in-Position.is

pub loop-k-smaller : goal.loop-k-smaller
loop-k-smaller c =
    inward_falls c.loop-k.invariant c.taken_at.ensures c.in-Input.is

pub loop-k-preserved : goal.loop-k-preserved
loop-k-preserved c =
    inward_more c.loop-k.invariant c.taken_at.ensures c.in-Input.is
