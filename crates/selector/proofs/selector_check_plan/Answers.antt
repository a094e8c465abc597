use Rattle.plan.specs.Calls.{check_plan_of}
use Rattle.selector.proofs.Answers.{check-answered}
use Rattle.selector.proofs.selector_check_plan.Goals as goal

pub returns : goal.returns
returns c =
    check-answered (check_plan_of c.args.incoming.now
    c.args.target.now c.args.plan.now)
    c.check_plan.ensures c.checked.ensures
