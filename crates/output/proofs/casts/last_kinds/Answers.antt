use Rattle.output.proofs.Passing.{is-ends, is-goes, is-casts}
use Rattle.output.proofs.Passing.{ahead_all, ahead_ends, keeping_none, keeping_all, keeping_goes, keeping_casts}
use mathlib.Core.Path.{refl}
use Rattle.output.proofs.casts.last_kinds.Goals as goal

pub loop-left-init : goal.loop-left-init
loop-left-init c =
    let L = c.locate-at.ensures c.requires.walk_at.0 c.requires.walk_at.1 in
    (c.no_ends-ends.ensures.0 _, (L.state, L.standing, L.stopped), λ x z ks W S A. keeping_none refl W S A)

pub ends_ahead-ends-requires : goal.ends_ahead-ends-requires
ends_ahead-ends-requires c =
    let (E, (y, W, S), f) = c.loop-left.invariant in record { skips = c.requires.skips; walk_at = (y, W); ends_at = E }

pub returns-in-Ends : goal.returns-in-Ends
returns-in-Ends c =
    λ x z ks W p h.
    let L = c.locate-at.ensures x W in
    let Q = c.loop-left.invariant.2 L.state z ks L.standing L.stopped (ahead_all L.moves p h) in
    let e = is-ends (c.next_pass.ensures _ Q.standing Q.stopped) c.in-Ends.is in
    ahead_ends Q.ahead c.loop-left-test.true e

pub onward-at-requires : goal.onward-at-requires
onward-at-requires c =
    let (y, W, S) = c.loop-left.invariant.1 in let G = is-goes (c.next_pass.ensures y W S) c.in-Goes.is in record { skips = c.requires.skips; walk_at = (y, G.input, W, G.is) }

pub loop-left-smaller-in-Goes : goal.loop-left-smaller-in-Goes
loop-left-smaller-in-Goes c =
    let (y, W, S) = c.loop-left.invariant.1 in
    let G = is-goes (c.next_pass.ensures y W S) c.in-Goes.is in
    (c.onward-at.ensures y G.input W G.is).falls

pub loop-left-preserved-in-Goes : goal.loop-left-preserved-in-Goes
loop-left-preserved-in-Goes c =
    let (y, W, S) = c.loop-left.invariant.1 in
    let G = is-goes (c.next_pass.ensures y W S) c.in-Goes.is in
    let O = c.onward-at.ensures y G.input W G.is in (
      c.ends_ahead-ends.ensures,
      (O.state, O.standing, O.stopped),
      λ x z ks W S A.
          let Q = c.loop-left.invariant.2 x z ks W S A in
          let H = is-goes (c.next_pass.ensures _ Q.standing Q.stopped) c.in-Goes.is in
          keeping_goes Q c.loop-left-test.true H (c.onward-at.ensures Q.state H.input Q.standing H.is),
    )

pub onward-at-requires-in-Casts : goal.onward-at-requires-in-Casts
onward-at-requires-in-Casts c =
    let (y, W, S) = c.loop-left.invariant.1 in let G = is-casts (c.next_pass.ensures y W S) c.in-Casts.is in record { skips = c.requires.skips; walk_at = (y, G.input, W, G.is) }

pub loop-left-smaller : goal.loop-left-smaller
loop-left-smaller c =
    let (y, W, S) = c.loop-left.invariant.1 in
    let G = is-casts (c.next_pass.ensures y W S) c.in-Casts.is in
    (c.onward-at-in-Casts.ensures y G.input W G.is).falls

pub loop-left-preserved : goal.loop-left-preserved
loop-left-preserved c =
    let (y, W, S) = c.loop-left.invariant.1 in
    let G = is-casts (c.next_pass.ensures y W S) c.in-Casts.is in
    let O = c.onward-at-in-Casts.ensures y G.input W G.is in (
      c.ends_ahead-ends.ensures,
      (O.state, O.standing, O.stopped),
      λ x z ks W S A.
          let Q = c.loop-left.invariant.2 x z ks W S A in
          let H = is-casts (c.next_pass.ensures _ Q.standing Q.stopped) c.in-Casts.is in
          let O = c.onward-at-in-Casts.ensures Q.state H.input Q.standing H.is in
          keeping_casts Q c.loop-left-test.true H O,
    )

pub returns : goal.returns
returns c =
    λ x z ks W p h.
    let L = c.locate-at.ensures x W in
    keeping_all (c.loop-left.invariant.2 L.state z ks L.standing L.stopped (ahead_all L.moves p h)) c.loop-left-test.false
