-- `plan::skips::keep_skip` meets its contract: one entry more that is true. Assumes nothing.
use native.Mathlib.Omega.{arith}
use mathlib.Core.Path.{◌∙◌}
use Rattle.plan.proofs.Skipping.{told, pass-deeper}
use mathlib.Core.Path.{ap}
use mathlib.Core.Bool.{not}
use Rattle.plan.proofs.skips.keep_skip.Goals as goal

pub returns-then-i-gt766 : goal.returns-then-i-gt766
returns-then-i-gt766 c =
    ((λ s T P. c.take_number-i.ensures.0 s T), c.take_number-i.ensures.1)

pub put_entry-requires : goal.put_entry-requires
put_entry-requires c = (
  omega (arith, c.if-i-gt766.false),
  omega (arith, c.is_long.ensures (told _ (ap not c.if-not-is_long.false))),
  omega arith,
  omega (arith, c.take_number-i.ensures.1),
)

pub link-requires : goal.link-requires
link-requires c = (
  omega (arith, c.if-i-gt766.false),
  omega (arith, c.is_long.ensures (told _ (ap not c.if-not-is_long.false))),
  omega (
    arith,
    c.put_entry.ensures.1,
    c.take_number-i.ensures.1,
  ),
)

pub returns : goal.returns
returns c =
    ((λ s T P. c.link.ensures.0 s (c.put_entry.ensures.0 s (c.take_number-i.ensures.0 s T) (pass-deeper (omega arith) P))), c.link.ensures.1 ∙ c.put_entry.ensures.1 ∙ c.take_number-i.ensures.1)
