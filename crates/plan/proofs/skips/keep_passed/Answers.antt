-- `plan::skips::keep_passed` meets its contract: entries more that are true. Assumes nothing.
use native.Mathlib.Omega.{arith}
use mathlib.Core.Path.{refl}
use Rattle.plan.proofs.Skipping.{pass-none, pass-one, pass-more}
use Rattle.plan.proofs.skips.keep_passed.Goals as goal

pub returns-then-is_long : goal.returns-then-is_long
returns-then-is_long c =
    let (T, P, h) = c.requires.skips in record { skips_2 = (c.keep_skip.ensures.0 _ T (pass-one h), pass-none _); count_bound_2 = (omega arith, c.keep_skip.ensures.1) }

pub returns-then-is_long-2 : goal.returns-then-is_long-2
returns-then-is_long-2 c =
    let (T, P, h) = c.requires.skips in record { skips_2 = (c.keep_skip-then-is_long-2.ensures.0 _ T (pass-more P h), pass-none _); count_bound_2 = (omega arith, c.keep_skip-then-is_long-2.ensures.1) }

pub returns : goal.returns
returns c =
    let (T, P, h) = c.requires.skips in record { skips_2 = (T, pass-more P h); count_bound_2 = (omega arith, refl) }
