use Rattle.output.proofs.Asking.{constant-none, constant-top, constant-inside}
use Rattle.walk.proofs.Walks.{top-frames, some-inner}
use native.Mathlib.Omega.{arith}
use Rattle.output.proofs.parts.ask_constant.Goals as goal

pub returns-then-w-eq0 : goal.returns-then-w-eq0
returns-then-w-eq0 c =
    λ ρ x u least own W e h. constant-top ρ x u least own e
    c.in-Some.is h (top-frames W c.if-w-eq0.true)

pub least_of-requires : goal.least_of-requires
least_of-requires c =
    (c.requires, omega (arith, c.if-w-eq0.false))

pub returns-in-None : goal.returns-in-None
returns-in-None c =
    λ ρ x u least own W e h. constant-none ρ x u least own e c.in-None.is h

pub returns-else-w-eq0 : goal.returns-else-w-eq0
returns-else-w-eq0 c =
    λ ρ x u least own W e h. let (f, F, g) = some-inner c.if-w-eq0.false W.entries in constant-inside ρ x u least own e
    c.in-Some.is h g (c.least_of.ensures x f F W g)
