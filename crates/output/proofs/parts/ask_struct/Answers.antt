use Rattle.output.proofs.Asking.{struct-none, struct-some}
use Rattle.output.proofs.parts.ask_struct.Goals as goal

pub returns-in-None : goal.returns-in-None
returns-in-None c =
    λ ρ x n least own S h. struct-none ρ x least own S
    c.in-None.is h

pub returns-in-Some : goal.returns-in-Some
returns-in-Some c =
    λ ρ x n least own S h. struct-some ρ x least own S c.in-Some.is h
