use Rattle.plan.proofs.Skipping.{skip-none}
use Rattle.plan.proofs.skips.known_skip.Goals as goal

pub returns-then-at-ge-LONGEST_PLAN : goal.returns-then-at-ge-LONGEST_PLAN
returns-then-at-ge-LONGEST_PLAN c =
    λ s T. skip-none c.none_known.ensures

pub returns-then-i-eq0 : goal.returns-then-i-eq0
returns-then-i-eq0 c =
    λ s T. skip-none c.none_known-then-i-eq0.ensures

pub returns : goal.returns
returns c =
    λ s T. skip-none c.none_known-2.ensures
