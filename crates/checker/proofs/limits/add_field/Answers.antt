-- `checker::limits::add_field` meets its contract. Assumes nothing.
use native.Mathlib.Omega.{arith}
use mathlib.Core.Path.{sym, ap, ◌∙◌}
use Rattle.checker.specs.code.Limits.{added_of, joined_of}
use Rattle.checker.proofs.Fitting.{fit_bounded}
use Rattle.checker.proofs.limits.add_field.Goals as goal

pub overflow_sub-before : goal.overflow_sub-before
overflow_sub-before c =
    omega (arith, (c.requires.bounded _ _ c.in-Within.is).1)

pub column_fit-f-requires : goal.column_fit-f-requires
column_fit-f-requires c =
    record { tables = c.requires.tables; named_at = c.requires.named_at }

pub joined-requires : goal.joined-requires
joined-requires c =
    let (b, a, N, e) = c.requires.named_at in λ s d q. omega (
      arith,
      (fit_bounded _ _ _ _
          (c.column_fit-f.ensures b a N e) s d q).1,
      (c.requires.bounded _ _ c.in-Within.is).1,
    )

pub returns-in-Within : goal.returns-in-Within
returns-in-Within c =
    λ b a N e. c.joined.ensures ∙ ap (joined_of _ _) (c.column_fit-f.ensures b a N e) ∙ sym (ap (λ f. added_of 15 16381 f a)
    c.in-Within.is)

pub returns-in-Over : goal.returns-in-Over
returns-in-Over c =
    λ b a N e. sym (ap (λ f. added_of 15 16381 f a) c.in-Over.is)
