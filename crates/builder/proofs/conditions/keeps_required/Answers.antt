-- `builder::conditions::keeps_required` meets its contract. Assumes nothing.
use Rattle.layout.specs.code.Answers.{label_at}
use Rattle.builder.proofs.Whole.{keeps-optional, keeps_unmarked, keeps_typed}
use mathlib.Core.Path.{ap}
use mathlib.Core.Bool.{not}
use Rattle.builder.proofs.conditions.keeps_required.Goals as goal

pub returns-then-not-required : goal.returns-then-not-required
returns-then-not-required c =
    λ v d P l e. keeps-optional (label_at c.args.incoming.now c.args.column.label) l P.tree e (ap not c.if-not-required.true)

pub returns-then-not-l : goal.returns-then-not-l
returns-then-not-l c =
    λ v d P l e. keeps_unmarked (label_at c.args.incoming.now c.args.column.label) l P.tree e (ap not c.if-not-required.false) c.if-not-l.true

pub returns : goal.returns
returns c =
    λ v d P l e. keeps_typed (label_at c.args.incoming.now c.args.column.label) l P.tree e (ap not c.if-not-required.false) c.if-not-l.false (c.is_null_type.ensures v d P)
