-- `infer::target::fit_top` meets its contract. Assumes nothing.
use Rattle.infer.proofs.Targets.{given_as}
use Rattle.infer.proofs.target.fit_top.Goals as goal

pub returns-in-At : goal.returns-in-At
returns-in-At c =
    λ A. given_as (c.fit_column.ensures A) c.in-At.is
