-- `builder::conditions::needs_rename` meets its contract. Assumes nothing.
use mathlib.Core.Path.{ap}
use mathlib.Core.Bool.{not}
use Rattle.builder.proofs.conditions.needs_rename.Goals as goal

pub returns-in-ByNumber : goal.returns-in-ByNumber
returns-in-ByNumber c =
    rw c.in-ByNumber.is (ap not c.same_text.ensures)
