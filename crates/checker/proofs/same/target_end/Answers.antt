-- `checker::same::target_end` meets its contract. Assumes nothing.
use mathlib.Core.Path.{sym, ap}
use Rattle.checker.specs.code.Same.{ends_from}
use Rattle.checker.proofs.same.target_end.Goals as goal

pub returns-in-To : goal.returns-in-To
returns-in-To c =
    ap ends_from (sym c.in-To.is)
