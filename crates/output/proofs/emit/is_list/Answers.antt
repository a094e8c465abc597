use Rattle.output.proofs.Emitting.{walk_listed, walk_unlisted}
use Rattle.output.proofs.emit.is_list.Goals as goal

pub returns-then-plan-at-eq5 : goal.returns-then-plan-at-eq5
returns-then-plan-at-eq5 c =
    λ x W. walk_listed W c.if-plan-at-eq5.true

pub returns : goal.returns
returns c =
    λ x W. walk_unlisted W c.if-plan-at-eq5.false
