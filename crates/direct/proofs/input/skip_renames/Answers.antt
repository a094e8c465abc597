use Rattle.direct.proofs.Inputs.{inside-start, inside-end, inside-more, inside-falls}
use Rattle.walk.proofs.Heads.{is-rename}
use Rattle.direct.proofs.input.skip_renames.Goals as goal

pub loop-input-init : goal.loop-input-init
loop-input-init c =
    inside-start c.requires

pub loop-input-smaller : goal.loop-input-smaller
loop-input-smaller c =
    inside-falls c.loop-input.invariant (is-rename (c.head.ensures c.loop-input.invariant.here) c.in-Rename.is)

pub loop-input-preserved : goal.loop-input-preserved
loop-input-preserved c =
    inside-more c.loop-input.invariant (is-rename (c.head.ensures c.loop-input.invariant.here) c.in-Rename.is)

pub returns-in_default : goal.returns-in_default
returns-in_default c =
    inside-end c.loop-input.invariant
