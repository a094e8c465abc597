use lib.ListN.{length}
use Rattle.layout.proofs.Whole.{layout-at, layout-refused}
use Rattle.checker.proofs.Topping.{plan-at, plan-refused}
use Rattle.run.proofs.Running.{ran-refused, ran_as, read_at, run-first, run-second, run-third, run-checked}
use borrow.Author.Rules.{rules}
use Rattle.run.proofs.run.run_plan.Goals as goal

pub run_read-requires : goal.run_read-requires
run_read-requires c =
    let L = (layout-at c.args.incoming.now c.read_layout.ensures c.in-Read.is).0 in
    let M = (layout-at c.args.target.now c.read_layout-in-Read.ensures c.in-Read-read_layout.is).0 in
    let P = plan-at c.args.plan.now (λ i. (c.type_inv.plan i).fits) c.read_plan.ensures c.in-Read-read_plan.is in
    read_at L M P

pub returns-in-Read-read_plan : goal.returns-in-Read-read_plan
returns-in-Read-read_plan c =
    let L = (layout-at c.args.incoming.now c.read_layout.ensures c.in-Read.is).0 in let M = (layout-at c.args.target.now c.read_layout-in-Read.ensures c.in-Read-read_layout.is).0 in let P = plan-at c.args.plan.now (λ i. (c.type_inv.plan i).fits) c.read_plan.ensures c.in-Read-read_plan.is in let R = ran_as (run-checked c.args.incoming.now c.args.target.now c.args.plan.now c.args.rec.now (length c.args.output.now) L M P.reads) (c.run_read.ensures (read_at L M P)) in record { value = R.answer; output_after = R.buffer }

pub returns-in-Refused-read_plan : goal.returns-in-Refused-read_plan
returns-in-Refused-read_plan c =
    let L = (layout-at c.args.incoming.now c.read_layout.ensures c.in-Read.is).0 in let M = (layout-at c.args.target.now c.read_layout-in-Read.ensures c.in-Read-read_layout.is).0 in let R = ran-refused (run-third c.args.incoming.now c.args.target.now c.args.plan.now c.args.rec.now (length c.args.output.now) L M
    (plan-refused c.args.plan.now c.read_plan.ensures c.in-Refused-read_plan.is)) in record { value = R.answer; output_after = R.buffer }

pub returns-in-Refused-read_layout : goal.returns-in-Refused-read_layout
returns-in-Refused-read_layout c =
    let L = (layout-at c.args.incoming.now c.read_layout.ensures c.in-Read.is).0 in let R = ran-refused (run-second c.args.incoming.now c.args.target.now c.args.plan.now c.args.rec.now (length c.args.output.now) L
    (layout-refused c.args.target.now c.read_layout-in-Read.ensures c.in-Refused-read_layout.is)) in record { value = R.answer; output_after = R.buffer }

pub returns-in-Refused : goal.returns-in-Refused
returns-in-Refused c =
    let R = ran-refused (run-first c.args.incoming.now c.args.target.now c.args.plan.now c.args.rec.now (length c.args.output.now)
    (layout-refused c.args.incoming.now c.read_layout.ensures c.in-Refused.is)) in record { value = R.answer; output_after = R.buffer }
