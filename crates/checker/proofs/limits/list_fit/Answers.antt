-- `checker::limits::list_fit` meets its contract. Assumes nothing.
use native.Mathlib.Omega.{arith}
use mathlib.Core.Path.{ap, ◌∙◌}
use Rattle.checker.specs.code.Limits.{around_of}
use Rattle.checker.proofs.Fitting.{fit_bounded, fit_around}
use Rattle.checker.proofs.limits.list_fit.Goals as goal

pub overflow_sub-head : goal.overflow_sub-head
overflow_sub-head c =
    omega (arith, c.requires.head_bound)

pub sized_fit-f-requires : goal.sized_fit-f-requires
sized_fit-f-requires c =
    record { tables = c.requires.tables; typed_at = c.requires.typed_at }

pub around-requires : goal.around-requires
around-requires c =
    let (b, t, X, e) = c.requires.typed_at in λ s d q. let B = fit_bounded _ _ _ _ (c.sized_fit-f.ensures b t X e) s d q in (
      omega
          (arith, B.1, c.requires.head_bound),
      omega (arith, B.0),
    )

pub returns : goal.returns
returns c =
    λ b t X e. c.around.ensures ∙ ap (around_of c.args.head)
    (c.sized_fit-f.ensures b t X e) ∙ fit_around
    c.args.head _ _ 16 16384 (omega arith) (omega (arith, c.requires.head_bound))
