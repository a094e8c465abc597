-- `checker::selector::check_position` meets its contract. Assumes nothing.
use Rattle.checker.proofs.Checks.{position-there, position_past}
use mathlib.Core.Path.{sym}
use Rattle.checker.proofs.selector.check_position.Goals as goal

pub returns-then-k-scope : goal.returns-then-k-scope
returns-then-k-scope c =
    λ Δ e. position-there Δ _ (sym e) c.if-k-scope.true

pub returns-else-k-scope : goal.returns-else-k-scope
returns-else-k-scope c =
    λ Δ e. position_past Δ _ (sym e) c.if-k-scope.false
