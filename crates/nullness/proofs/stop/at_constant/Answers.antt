-- `nullness::stop::at_constant` meets its contract: by the table, or by the scan of the constant. Assumes nothing.
use mathlib.Core.Path.{refl, sym}
use Rattle.nullness.proofs.Placing.{untold}
use Rattle.nullness.proofs.Stopping.{constant-null, constant-filled}
use mathlib.Core.Path.{ap}
use mathlib.Core.Bool.{not}
use Rattle.nullness.proofs.stop.at_constant.Goals as goal

pub returns-then-not-may_be_null : goal.returns-then-not-may_be_null
returns-then-not-may_be_null c =
    λ X x M. constant-filled M _ (sym (c.may_be_null.ensures (untold _ (ap not c.if-not-may_be_null.true)) X))
    refl

pub returns-then-in_constant : goal.returns-then-in_constant
returns-then-in_constant c =
    λ X x M. constant-null M _ (c.in_constant.ensures X) c.if-in_constant.true

pub returns-else-in_constant : goal.returns-else-in_constant
returns-else-in_constant c =
    λ X x M. constant-filled M _ (c.in_constant.ensures X) c.if-in_constant.false
