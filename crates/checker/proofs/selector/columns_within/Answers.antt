-- `checker::selector::columns_within` meets its contract. Assumes nothing.
use mathlib.Core.Bool.{true≢false}
use mathlib.Core.Path.{sym}
use Rattle.checker.proofs.Within.{scope-limited}
use Rattle.checker.proofs.selector.columns_within.Goals as goal

pub returns-then-w-ne0 : goal.returns-then-w-ne0
returns-then-w-ne0 c =
    λ e. absurd (true≢false (sym e))

pub returns-then-incoming-gt-LONGEST : goal.returns-then-incoming-gt-LONGEST
returns-then-incoming-gt-LONGEST c =
    λ e. absurd (true≢false (sym e))

pub returns : goal.returns
returns c =
    λ e v n plan Δ S. scope-limited S c.if-w-ne0.false c.if-incoming-gt-LONGEST.false
