use Rattle.output.proofs.Passing.{passing_none, passing_goes, passing_casts, passing_small, passing_origin, is-ends, is-goes, is-casts}
use native.Mathlib.Omega.{arith}
use Rattle.output.proofs.casts.find_origin.Goals as goal

pub loop-at-init : goal.loop-at-init
loop-at-init c =
    let L = c.locate-at.ensures c.requires.walk_at.0 c.requires.walk_at.1 in
    (c.no_ends-ends.ensures.0 _, (L.state, L.standing, L.stopped), λ x W S. passing_none W S)

pub ends_ahead-ends-requires : goal.ends_ahead-ends-requires
ends_ahead-ends-requires c =
    let (E, (x, W, S), f) = c.loop-at.invariant in let P = f x W S in record { skips = c.requires.skips; walk_at = (P.state, P.standing); ends_at = E }

pub onward-at-requires : goal.onward-at-requires
onward-at-requires c =
    let (E, (x, W, S), f) = c.loop-at.invariant in let P = f x W S in let G = is-goes (c.next_pass.ensures _ P.standing P.stopped) c.in-Goes.is in record { skips = c.requires.skips; walk_at = (P.state, G.input, P.standing, G.is) }

pub loop-at-smaller-in-Goes : goal.loop-at-smaller-in-Goes
loop-at-smaller-in-Goes c =
    let (E, (x, W, S), f) = c.loop-at.invariant in
    let P = f x W S in
    let G = is-goes (c.next_pass.ensures _ P.standing P.stopped) c.in-Goes.is in
    (c.onward-at.ensures P.state G.input P.standing G.is).falls

pub loop-at-preserved-in-Goes : goal.loop-at-preserved-in-Goes
loop-at-preserved-in-Goes c =
    let (E, w, f) = c.loop-at.invariant in (
      c.ends_ahead-ends.ensures,
      w,
      λ x W S.
          let P = f x W S in
          let G = is-goes (c.next_pass.ensures _ P.standing P.stopped) c.in-Goes.is in
          passing_goes P G (c.onward-at.ensures P.state G.input P.standing G.is),
    )

pub onward-at-requires-in-Casts : goal.onward-at-requires-in-Casts
onward-at-requires-in-Casts c =
    let (E, (x, W, S), f) = c.loop-at.invariant in let P = f x W S in let G = is-casts (c.next_pass.ensures _ P.standing P.stopped) c.in-Casts.is in record { skips = c.requires.skips; walk_at = (P.state, G.input, P.standing, G.is) }

pub overflow_add-casts : goal.overflow_add-casts
overflow_add-casts c =
    let (E, (x, W, S), f) = c.loop-at.invariant in
    omega (arith, passing_small (f x W S) W)

pub loop-at-smaller : goal.loop-at-smaller
loop-at-smaller c =
    let (E, (x, W, S), f) = c.loop-at.invariant in
    let P = f x W S in
    let G = is-casts (c.next_pass.ensures _ P.standing P.stopped) c.in-Casts.is in
    (c.onward-at-in-Casts.ensures P.state G.input P.standing G.is).falls

pub loop-at-preserved : goal.loop-at-preserved
loop-at-preserved c =
    let (E, w, f) = c.loop-at.invariant in (
      c.ends_ahead-ends.ensures,
      w,
      λ x W S.
          let P = f x W S in
          let G = is-casts (c.next_pass.ensures _ P.standing P.stopped) c.in-Casts.is in
          passing_casts P G (c.onward-at-in-Casts.ensures P.state G.input P.standing G.is),
    )

pub returns : goal.returns
returns c =
    λ x W.
    let L = c.locate-at.ensures x W in
    let P = c.loop-at.invariant.2 L.state L.standing L.stopped in
    passing_origin L P (is-ends (c.next_pass.ensures _ P.standing P.stopped) c.in-Ends.is)
