use Rattle.composed.proofs.Chains.{cast-falls, rename-falls}
use Rattle.walk.proofs.Heads.{is-cast, is-rename}
use Rattle.composed.proofs.top.is_chain.Goals as goal

pub loop-input-init : goal.loop-input-init
loop-input-init c =
    c.requires

pub loop-input-smaller-in-Cast : goal.loop-input-smaller-in-Cast
loop-input-smaller-in-Cast c =
    cast-falls c.loop-input.invariant (is-cast (c.head.ensures c.loop-input.invariant) c.in-Cast.is)

pub loop-input-preserved-in-Cast : goal.loop-input-preserved-in-Cast
loop-input-preserved-in-Cast c =
    (is-cast (c.head.ensures c.loop-input.invariant) c.in-Cast.is).input

pub loop-input-smaller : goal.loop-input-smaller
loop-input-smaller c =
    rename-falls c.loop-input.invariant (is-rename (c.head.ensures c.loop-input.invariant) c.in-Rename.is)

pub loop-input-preserved : goal.loop-input-preserved
loop-input-preserved c =
    (is-rename (c.head.ensures c.loop-input.invariant) c.in-Rename.is).input
