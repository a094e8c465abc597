-- `walk::inputs::input_ends` meets its contract: from the innermost input outwards. Assumes nothing.
use Rattle.walk.proofs.Ending.{ending, ending_more}
use Rattle.walk.proofs.inputs.input_ends.Goals as goal

pub loop-i-init : goal.loop-i-init
loop-i-init c =
    ending c.no_ends.ensures.1 c.chained-i.ensures c.skip_by-d.ensures (c.no_ends.ensures.0 c.args.plan.now)
    c.knowing-ends.ensures

pub loop-i-preserved : goal.loop-i-preserved
loop-i-preserved c =
    ending_more c.loop-i.invariant c.loop-i-test.true c.end_behind-d.ensures c.knowing-ends-in-loop-i.ensures
