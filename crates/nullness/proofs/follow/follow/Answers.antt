-- `nullness::follow::follow` meets its contract: the loop keeps `Followings`. Assumes nothing.
use Rattle.nullness.proofs.Following.{following_start, following_located, input-starts, following_passes, following_fails, following_input}
use native.Mathlib.Omega.{arith}
use Rattle.nullness.proofs.follow.follow.Goals as goal

pub loop-x-init : goal.loop-x-init
loop-x-init c =
    following_start _ _ _ _ (λ i. omega (arith, c.type_inv.plan i))

pub locate-x-requires : goal.locate-x-requires
locate-x-requires c =
    let F = c.loop-x.invariant c.requires.follows.0 c.requires.follows.1 in record { skips = c.requires.skips; walk_at = (F.state, F.standing) }

pub at_stop-requires : goal.at_stop-requires
at_stop-requires c =
    let L = following_located (c.loop-x.invariant c.requires.follows.0 c.requires.follows.1) c.locate-x.ensures in record { columns_in = c.requires.follows.0; index_at = c.requires.index_at; walk_at = (L.state, L.standing) }

pub returns-in-Passes : goal.returns-in-Passes
returns-in-Passes c =
    λ P F. following_passes (c.loop-x.invariant P F) c.locate-x.ensures (c.at_stop.ensures P) c.in-Passes.is

pub returns-in-Fails : goal.returns-in-Fails
returns-in-Fails c =
    λ P F. following_fails (c.loop-x.invariant P F) c.locate-x.ensures (c.at_stop.ensures P) c.in-Fails.is

pub to_input-x-requires : goal.to_input-x-requires
to_input-x-requires c =
    input-starts (c.loop-x.invariant c.requires.follows.0 c.requires.follows.1) c.locate-x.ensures

pub loop-x-smaller : goal.loop-x-smaller
loop-x-smaller c =
    (following_input (c.loop-x.invariant c.requires.follows.0 c.requires.follows.1) c.locate-x.ensures (c.at_stop.ensures c.requires.follows.0)
    c.in-Input.is c.to_input-x.ensures).1

pub loop-x-preserved : goal.loop-x-preserved
loop-x-preserved c =
    λ P F. (following_input (c.loop-x.invariant P F) c.locate-x.ensures (c.at_stop.ensures P) c.in-Input.is c.to_input-x.ensures).0
