use Rattle.layout.proofs.Whole.{layout-at}
use Rattle.checker.proofs.Topping.{plan-at}
use Rattle.cases.proofs.single_pass.checks.Goals as goal

pub fits_target-requires : goal.fits_target-requires
fits_target-requires c =
    let L = (layout-at c.args.incoming.now c.read_layout.ensures c.in-Read.is).0 in let M = (layout-at c.args.target.now c.read_layout-in-Read.ensures c.in-Read-read_layout.is).0 in let P = plan-at c.args.plan.now (λ i. (c.type_inv.plan i).fits) c.read_plan.ensures c.in-Read-read_plan.is in record { columns_at = L.columns; selectors_at = P.selectors; columns_at_2 = M.columns }
