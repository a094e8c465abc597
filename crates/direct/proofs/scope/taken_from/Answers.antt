-- `direct::scope::taken_from` meets its contract. Assumes nothing.
use Rattle.direct.specs.code.Scopes.{taken_from}
use mathlib.Core.Path.{sym, ap}
use Rattle.direct.proofs.scope.taken_from.Goals as goal

pub returns-in-At : goal.returns-in-At
returns-in-At c =
    ap taken_from (sym c.in-At.is)

pub returns-in-Absent : goal.returns-in-Absent
returns-in-Absent c =
    ap taken_from (sym c.in-Absent.is)
