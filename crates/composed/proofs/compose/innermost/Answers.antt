use Rattle.composed.proofs.Composing.{input_by}
use Rattle.walk.proofs.View.{starts-inside}
use native.Mathlib.Omega.{arith}
use Rattle.composed.proofs.compose.innermost.Goals as goal

pub loop-d-init : goal.loop-d-init
loop-d-init c =
    c.requires

pub returns-in-None : goal.returns-in-None
returns-in-None c =
    c.loop-d.invariant

pub loop-d-smaller : goal.loop-d-smaller
loop-d-smaller c =
    let I = input_by (c.input_of.ensures c.loop-d.invariant) c.in-At.is in omega (arith, I.starts, starts-inside c.loop-d.invariant)

pub loop-d-preserved : goal.loop-d-preserved
loop-d-preserved c =
    (input_by (c.input_of.ensures c.loop-d.invariant) c.in-At.is).input
