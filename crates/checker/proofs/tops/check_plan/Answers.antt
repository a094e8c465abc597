-- `checker::tops::check_plan` meets its contract. Assumes nothing.
use Rattle.checker.proofs.Topping.{plan-at, plan-refused, plan-tops, refused-first, refused-second, refused-third, all_read}
use Rattle.layout.proofs.Whole.{layout-at, layout-refused}
use Rattle.checker.proofs.tops.check_plan.Goals as goal

pub check_read-requires : goal.check_read-requires
check_read-requires c =
    let L = (layout-at c.args.incoming.now c.read_layout.ensures c.in-Read.is).0 in let M = (layout-at c.args.target.now c.read_layout-in-Read.ensures
    c.in-Read-read_layout.is).0 in let P = plan-at c.args.plan.now (λ i. (c.type_inv.plan i).fits) c.read_plan.ensures
    c.in-Read-read_plan.is in record { tops_at = (L.columns, _, plan-tops L P); columns_at = M.columns }

pub returns-in-Read-read_plan : goal.returns-in-Read-read_plan
returns-in-Read-read_plan c =
    let L = (layout-at c.args.incoming.now c.read_layout.ensures c.in-Read.is).0 in
    let M = (layout-at c.args.target.now c.read_layout-in-Read.ensures
    c.in-Read-read_layout.is).0 in
    let P = plan-at c.args.plan.now (λ i. (c.type_inv.plan i).fits) c.read_plan.ensures
    c.in-Read-read_plan.is in
    all_read _ _ _ L M P (c.check_read.ensures L.columns _ M.columns (plan-tops L P))

pub returns-in-Refused-read_plan : goal.returns-in-Refused-read_plan
returns-in-Refused-read_plan c =
    let L = (layout-at c.args.incoming.now c.read_layout.ensures c.in-Read.is).0 in
    let M = (layout-at c.args.target.now c.read_layout-in-Read.ensures
    c.in-Read-read_layout.is).0 in
    refused-third _ _ _ L M (plan-refused c.args.plan.now c.read_plan.ensures c.in-Refused-read_plan.is)

pub returns-in-Refused-read_layout : goal.returns-in-Refused-read_layout
returns-in-Refused-read_layout c =
    let L = (layout-at c.args.incoming.now c.read_layout.ensures c.in-Read.is).0 in
    refused-second _ _ _ L (layout-refused c.args.target.now c.read_layout-in-Read.ensures c.in-Refused-read_layout.is)

pub returns-in-Refused : goal.returns-in-Refused
returns-in-Refused c =
    refused-first _ _ _ (layout-refused c.args.incoming.now c.read_layout.ensures c.in-Refused.is)
