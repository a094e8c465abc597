-- `walk::walk::Walk::locate` meets its contract: each move leaves less, and none is left at the end. Assumes nothing.
use Rattle.walk.proofs.Moving.{walking_none, walking_input, walking_enter, walking_leave, walking_done, input_asks, enter_asks, leave_asks}
use Rattle.walk.proofs.walk.Walk.locate.Goals as goal

pub loop-w-init : goal.loop-w-init
loop-w-init c =
    (λ x M. walking_none M, c.no_ends-ends.ensures.0 c.args.plan.now)

pub ends_ahead-ends-requires : goal.ends_ahead-ends-requires
ends_ahead-ends-requires c =
    let N = c.loop-w.invariant.0 c.requires.walk_at.0 c.requires.walk_at.1 in record { skips = c.requires.skips; walk_at = (N.state, N.standing); ends_at = c.loop-w.invariant.1 }

pub next_move-requires : goal.next_move-requires
next_move-requires c =
    let N = c.loop-w.invariant.0 c.requires.walk_at.0 c.requires.walk_at.1 in record { skips = c.requires.skips; walk_at = (N.state, N.standing); ends_at = c.ends_ahead-ends.ensures }

pub to_input-w-requires : goal.to_input-w-requires
to_input-w-requires c =
    let N = c.loop-w.invariant.0 c.requires.walk_at.0 c.requires.walk_at.1 in input_asks N (c.next_move.ensures N.state N.standing)

pub loop-w-smaller-in-Input : goal.loop-w-smaller-in-Input
loop-w-smaller-in-Input c =
    let N = c.loop-w.invariant.0 c.requires.walk_at.0 c.requires.walk_at.1 in (walking_input N (c.next_move.ensures N.state N.standing)
    c.in-Input.is c.to_input-w.ensures).1

pub loop-w-preserved-in-Input : goal.loop-w-preserved-in-Input
loop-w-preserved-in-Input c = (
  λ x M. let N = c.loop-w.invariant.0 x M in (walking_input N (c.next_move.ensures N.state N.standing) c.in-Input.is
      c.to_input-w.ensures).0,
  c.ends_ahead-ends.ensures,
)

pub enter-w-requires : goal.enter-w-requires
enter-w-requires c =
    let N = c.loop-w.invariant.0 c.requires.walk_at.0 c.requires.walk_at.1 in enter_asks N (c.next_move.ensures N.state N.standing) c.in-Enter.is

pub loop-w-smaller-in-Enter : goal.loop-w-smaller-in-Enter
loop-w-smaller-in-Enter c =
    let N = c.loop-w.invariant.0 c.requires.walk_at.0 c.requires.walk_at.1 in (walking_enter N (c.next_move.ensures N.state N.standing) c.in-Enter.is
    c.enter-w.ensures).1

pub loop-w-preserved-in-Enter : goal.loop-w-preserved-in-Enter
loop-w-preserved-in-Enter c = (
  λ x M. let N = c.loop-w.invariant.0 x M in (walking_enter N (c.next_move.ensures N.state N.standing) c.in-Enter.is
      c.enter-w.ensures).0,
  c.ends_ahead-ends.ensures,
)

pub leave-w-requires : goal.leave-w-requires
leave-w-requires c =
    let N = c.loop-w.invariant.0 c.requires.walk_at.0 c.requires.walk_at.1 in leave_asks N (c.next_move.ensures N.state N.standing) c.in-Leave.is

pub loop-w-smaller : goal.loop-w-smaller
loop-w-smaller c =
    let N = c.loop-w.invariant.0 c.requires.walk_at.0 c.requires.walk_at.1 in (walking_leave N (c.next_move.ensures N.state N.standing) c.in-Leave.is
    c.leave-w.ensures).1

pub loop-w-preserved : goal.loop-w-preserved
loop-w-preserved c = (
  λ x M. let N = c.loop-w.invariant.0 x M in (walking_leave N (c.next_move.ensures N.state N.standing) c.in-Leave.is
      c.leave-w.ensures).0,
  c.ends_ahead-ends.ensures,
)

pub returns : goal.returns
returns c =
    λ x M. let N = c.loop-w.invariant.0 x M in walking_done N (c.next_move.ensures N.state N.standing) c.in-Stop.is
