-- `plan::read::is_position` meets its contract: three bytes are left, and the first is the code. Assumes nothing.
use Rattle.plan.proofs.Moves.{position_untold, position-told}
use Rattle.plan.proofs.read.is_position.Goals as goal

pub returns-then-depth-eq0 : goal.returns-then-depth-eq0
returns-then-depth-eq0 c =
    λ h. position_untold h

pub returns-then-s-lt3 : goal.returns-then-s-lt3
returns-then-s-lt3 c =
    λ h. position_untold h

pub returns-then-s-at : goal.returns-then-s-at
returns-then-s-at c =
    λ h. position_untold h

pub returns : goal.returns
returns c =
    λ h. position-told c.args.s.now c.args.c.at c.if-depth-eq0.false c.if-s-lt3.false c.if-s-at.false h
