-- `checker::limits::raw_fit` meets its contract. Assumes nothing.
use Rattle.checker.proofs.Fitting.{raw-is}
use Rattle.checker.proofs.limits.raw_fit.Goals as goal

pub form_size-z-requires : goal.form_size-z-requires
form_size-z-requires c =
    let (t, T) = c.requires in T.type

pub returns : goal.returns
returns c =
    λ t T. raw-is T
    (c.form_size-z.ensures T.type) _ _ c.size_fit.ensures
