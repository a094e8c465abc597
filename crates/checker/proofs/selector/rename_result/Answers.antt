-- `checker::selector::rename_result` meets its contract. Assumes nothing.
use mathlib.Core.Path.{ap, ◌∙◌}
use mathlib.Core.Bool.{true}
use Rattle.checker.specs.code.Checking.{fitting_of}
use Rattle.checker.proofs.Resolving.{named-typed}
use Rattle.checker.proofs.Checks.{result_is, result_kept}
use Rattle.checker.specs.declared.selector.Measured.{Measured}
use Rattle.checker.proofs.selector.rename_result.Goals as goal

pub returns-then-within : goal.returns-then-within
returns-then-within c =
    λ b a name N e l. record { known = b; is = ap Measured.Passed e ∙ result_kept b name a.type (l c.if-within.true) }

pub sized_fit-requires : goal.sized_fit-requires
sized_fit-requires c =
    let (b, a, N, e) = c.requires.named_at in record { tables = c.requires.tables; typed_at = (b, a.type, named-typed N, e) }

pub returns : goal.returns
returns c =
    λ b a name N e l. record {
      known = true;
      is = c.fitting.ensures ∙ ap fitting_of (c.sized_fit.ensures b a.type (named-typed N) e) ∙ result_is name a.type;
    }
