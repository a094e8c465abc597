use Rattle.output.proofs.Emitting.{constant-null, constant-within}
use Rattle.output.proofs.parts.is_constant_run.Goals as goal

pub returns-then-is_null : goal.returns-then-is_null
returns-then-is_null c =
    λ X x t W C. constant-null _ C (c.is_null.ensures _ C.node.raw.value c.if-is_null.true)

pub returns : goal.returns
returns c =
    λ X x t W C. constant-within _ C c.is_run.result (λ u. c.is_run.ensures X x u W)
