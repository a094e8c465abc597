-- `checker::selector::check_selector` meets its contract. Assumes nothing.
use mathlib.Core.Path.{ap, ◌∙◌}
use Rattle.plan.specs.Check.{type_of}
use Rattle.checker.specs.code.Checking.{dropped_of}
use Rattle.checker.proofs.Selecting.{checking-scope, scope-is}
use Rattle.checker.proofs.Checks.{dropped-is}
use Rattle.checker.proofs.selector.check_selector.Goals as goal

pub scope_count-count-requires : goal.scope_count-count-requires
scope_count-count-requires c =
    let (s, Δ, C) = c.requires.checking_at in record { tables = c.requires.tables; scoped_at = (Δ, checking-scope C) }

pub check_scoped-requires : goal.check_scoped-requires
check_scoped-requires c =
    let (s, Δ, C) = c.requires.checking_at in record { tables = c.requires.tables; checking_at = (s, Δ, C, scope-is C c.scope_count-count.ensures c.columns_within-within.ensures) }

pub returns : goal.returns
returns c =
    λ s Δ C.
    let A = c.check_scoped.ensures s Δ C (scope-is C c.scope_count-count.ensures c.columns_within-within.ensures)
    in
    c.dropped.ensures ∙ ap dropped_of A.is ∙ dropped-is A.known (type_of Δ s)
