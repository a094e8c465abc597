-- `checker::limits::size_fit` meets its contract. Assumes nothing.
use Rattle.checker.proofs.Fitting.{fit_deep, fit_long, fit_within}
use Rattle.checker.proofs.limits.size_fit.Goals as goal

pub returns-then-levels-deep : goal.returns-then-levels-deep
returns-then-levels-deep c =
    fit_deep _ _ _ _ c.if-levels-deep.true

pub returns-then-room-size : goal.returns-then-room-size
returns-then-room-size c =
    fit_long _ _ _ _ c.if-room-size.true

pub returns : goal.returns
returns c =
    fit_within _ _ _ _ c.if-levels-deep.false c.if-room-size.false
