use Rattle.output.proofs.Asking.{asking_answer, asking_input, asking_outward, is-answer, is-input, is-outward}
use Rattle.walk.proofs.Walks.{walk_starts, outward_asks, frames-deep}
use mathlib.Core.Path.{refl}
use native.Mathlib.Omega.{arith}
use Rattle.output.proofs.parts.ask.Goals as goal

pub loop-p-init : goal.loop-p-init
loop-p-init c =
    (c.requires.row_at, c.requires.walk_at, λ X x W. record { state = x; standing = W; same = refl })

pub find_origin-o-requires : goal.find_origin-o-requires
find_origin-o-requires c =
    record { skips = c.requires.skips; walk_at = c.loop-p.invariant.1 }

pub ask_step-requires : goal.ask_step-requires
ask_step-requires c =
    let (R, (x, W), f) = c.loop-p.invariant in let O = c.find_origin-o.ensures x W in record { skips = c.requires.skips; ends = c.requires.ends; row_at = R; walk_at = (O.state, O.standing, O.ended) }

pub returns-in-Answer : goal.returns-in-Answer
returns-in-Answer c =
    λ X x W.
    let A = c.loop-p.invariant.2 X x W in
    let O = c.find_origin-o.ensures _ A.standing in
    asking_answer A O (is-answer (c.ask_step.ensures X _ O.standing O.ended) c.in-Answer.is)

pub to_input-at-requires : goal.to_input-at-requires
to_input-at-requires c =
    let (R, (x, W), f) = c.loop-p.invariant in
    walk_starts (c.find_origin-o.ensures x W).standing

pub loop-p-smaller-in-Input : goal.loop-p-smaller-in-Input
loop-p-smaller-in-Input c =
    let (R, (x, W), f) = c.loop-p.invariant in
    let O = c.find_origin-o.ensures x W in
    let I = is-input (c.ask_step.ensures R _ O.standing O.ended) c.in-Input.is in
    omega (arith, (c.to_input-at.ensures _ _ I.input O.standing I.is).falls, O.falls)

pub loop-p-preserved-in-Input : goal.loop-p-preserved-in-Input
loop-p-preserved-in-Input c =
    let (R, (x, W), f) = c.loop-p.invariant in
    let O = c.find_origin-o.ensures x W in
    let I = is-input (c.ask_step.ensures R _ O.standing O.ended) c.in-Input.is in
    let T = c.to_input-at.ensures _ _ I.input O.standing I.is in (
      R,
      (_, T.standing),
      λ X x W.
          let A = f X x W in
          let O = c.find_origin-o.ensures _ A.standing in
          let I = is-input (c.ask_step.ensures X _ O.standing O.ended) c.in-Input.is in
          asking_input A O I (c.to_input-at.ensures _ _ I.input O.standing I.is),
    )

pub outward-at-requires : goal.outward-at-requires
outward-at-requires c =
    let (R, (x, W), f) = c.loop-p.invariant in
    let O = c.find_origin-o.ensures x W in
    let I = is-outward (c.ask_step.ensures R _ O.standing O.ended) c.in-Outward.is in
    outward_asks O.standing (frames-deep O.standing I.is)

pub loop-p-smaller : goal.loop-p-smaller
loop-p-smaller c =
    let (R, (x, W), f) = c.loop-p.invariant in
    let O = c.find_origin-o.ensures x W in
    let I = is-outward (c.ask_step.ensures R _ O.standing O.ended) c.in-Outward.is in
    omega (arith, (c.outward-at.ensures.steps_to _ _ _ _ O.standing I.is).falls, O.falls)

pub loop-p-preserved : goal.loop-p-preserved
loop-p-preserved c =
    let (R, (x, W), f) = c.loop-p.invariant in
    let O = c.find_origin-o.ensures x W in
    let I = is-outward (c.ask_step.ensures R _ O.standing O.ended) c.in-Outward.is in
    let T = c.outward-at.ensures.steps_to _ _ _ _ O.standing I.is in (
      R,
      (_, T.standing),
      λ X x W.
          let A = f X x W in
          let O = c.find_origin-o.ensures _ A.standing in
          let I = is-outward (c.ask_step.ensures X _ O.standing O.ended) c.in-Outward.is in
          asking_outward A O I (c.outward-at.ensures.steps_to _ _ _ _ O.standing I.is),
    )
