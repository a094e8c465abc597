use Rattle.plan.proofs.Skipping.{skips-none}
use Rattle.plan.proofs.Moves.{plan_uncounted, plan_broken, plan-longer, plan_whole}
use Rattle.plan.proofs.read.read_counted.Goals as goal

pub read_selectors-requires : goal.read_selectors-requires
read_selectors-requires c =
    skips-none 1

pub returns-then-e-s : goal.returns-then-e-s
returns-then-e-s c =
    plan_whole _ c.short.ensures c.in-Is.is c.read_selectors.ensures.value c.in-To.is c.if-e-s.true

pub returns-else-e-s : goal.returns-else-e-s
returns-else-e-s c =
    plan-longer _ c.short.ensures c.in-Is.is c.read_selectors.ensures.value c.in-To.is c.if-e-s.false

pub returns-in-Refused-read_selectors : goal.returns-in-Refused-read_selectors
returns-in-Refused-read_selectors c =
    plan_broken _ c.short.ensures c.in-Is.is c.read_selectors.ensures.value c.in-Refused-read_selectors.is

pub returns-in-Refused : goal.returns-in-Refused
returns-in-Refused c =
    plan_uncounted _ c.short.ensures c.in-Refused.is
