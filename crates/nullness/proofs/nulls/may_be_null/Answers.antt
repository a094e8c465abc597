-- `nullness::nulls::may_be_null` meets its contract: the loop keeps `Looking`. Assumes nothing.
use Rattle.plan.proofs.Skipping.{told}
use Rattle.layout.proofs.Ways.{clash}
use Rattle.nullness.proofs.Looking.{looking_start, looking_more, looking_clean}
use mathlib.Core.Path.{ap}
use mathlib.Core.Bool.{not}
use Rattle.nullness.proofs.nulls.may_be_null.Goals as goal

pub returns-then-not-is_known : goal.returns-then-not-is_known
returns-then-not-is_known c =
    λ e. clash (cc)

pub loop-i-init : goal.loop-i-init
loop-i-init c =
    looking_start c.requires.from_le_len.0

pub returns-in-None : goal.returns-in-None
returns-in-None c =
    λ e. clash (cc)

pub loop-i-preserved : goal.loop-i-preserved
loop-i-preserved c =
    looking_more c.loop-i.invariant c.loop-i-test.true c.requires.from_le_len.1 c.part_start.ensures c.in-At.is

pub returns : goal.returns
returns c =
    λ e. looking_clean c.loop-i.invariant c.requires.nulls (c.is_known.ensures (told _ (ap not c.if-not-is_known.false))) c.loop-i-test.false (c.is_null.ensures e)
