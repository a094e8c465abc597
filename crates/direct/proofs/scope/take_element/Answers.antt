-- `direct::scope::take_element` meets its contract. Assumes nothing.
use Rattle.direct.proofs.Scoping.{element-taken, nothing-taken}
use Rattle.direct.proofs.scope.take_element.Goals as goal

pub returns-then-k-eq0 : goal.returns-then-k-eq0
returns-then-k-eq0 c =
    λ T. element-taken T c.args.k c.if-k-eq0.true

pub returns-else-k-eq0 : goal.returns-else-k-eq0
returns-else-k-eq0 c =
    λ T. nothing-taken
