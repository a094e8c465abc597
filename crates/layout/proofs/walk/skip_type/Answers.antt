use Rattle.layout.proofs.View.{type-ends, never_stuck}
use Rattle.layout.proofs.walk.skip_type.Goals as goal

pub returns-in-To : goal.returns-in-To
returns-in-To c =
    λ P. type-ends P c.pass_type.ensures c.in-To.is

pub returns-in-Refused : goal.returns-in-Refused
returns-in-Refused c =
    never_stuck c.requires c.pass_type.ensures c.in-Refused.is
