use lib.ListN.{length}
use Rattle.plan.specs.Calls.{run_plan}
use Rattle.selector.proofs.Answers.{written-answered}
use Rattle.selector.proofs.selector_run.Goals as goal

pub returns : goal.returns
returns c =
    record {
      value = written-answered (run_plan c.args.incoming.now
          c.args.target.now
          c.args.plan.now
          c.args.rec.now
          (length c.args.output.now))
          c.run_plan.ensures.value c.written.ensures;
      output_after = c.run_plan.ensures.output_after;
    }
