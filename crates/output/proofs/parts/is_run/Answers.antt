use Rattle.output.proofs.Asking.{run-top, run_none, run-some}
use Rattle.walk.proofs.Walks.{top-frames, some-inner, outward_asks}
use native.Mathlib.Omega.{arith}
use Rattle.output.proofs.parts.is_run.Goals as goal

pub returns-then-w-eq0 : goal.returns-then-w-eq0
returns-then-w-eq0 c =
    λ X x u W. run-top _ x u (top-frames W c.if-w-eq0.true)

pub least_of-least-requires : goal.least_of-least-requires
least_of-least-requires c =
    (c.requires.walk_at, omega (arith, c.if-w-eq0.false))

pub outward-requires : goal.outward-requires
outward-requires c =
    outward_asks c.requires.walk_at.1 c.if-w-eq0.false

pub ask-requires : goal.ask-requires
ask-requires c =
    let (x, W) = c.requires.walk_at in let (f, F, e) = some-inner c.if-w-eq0.false W.entries in record { skips = c.requires.skips; ends = c.requires.ends; row_at = c.requires.row_at; walk_at = (_, (c.outward.ensures.steps_to _ x f F W e).standing) }

pub returns-in-None : goal.returns-in-None
returns-in-None c =
    λ X x u W.
    let (f, F, e) = some-inner c.if-w-eq0.false W.entries in
    run_none _ x u e (c.least_of-least.ensures x f F W e) (c.ask.ensures X _ (c.outward.ensures.steps_to _ x f F W e).standing) c.in-None.is

pub returns-in-Some : goal.returns-in-Some
returns-in-Some c =
    λ X x u W.
    let (f, F, e) = some-inner c.if-w-eq0.false W.entries in
    run-some _ x u e (c.least_of-least.ensures x f F W e) (c.ask.ensures X _ (c.outward.ensures.steps_to _ x f F W e).standing) c.in-Some.is
