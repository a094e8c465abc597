use native.Mathlib.Omega.{arith}
use Rattle.values.proofs.Inside.{record_at, record_fitting, record_unfilled}
use Rattle.layout.proofs.Whole.{layout-at}
use Rattle.checker.proofs.Topping.{plan-at}
use Rattle.ends.proofs.Entries.{ends-none}
use mathlib.Core.Path.{refl}
use Rattle.cases.proofs.single_pass.writes.Goals as goal

pub read_record-requires : goal.read_record-requires
read_record-requires c =
    record { columns_at = (layout-at c.args.incoming.now c.read_layout.ensures c.in-Read.is).0.columns; ends = ends-none refl }

pub write_single_pass-requires : goal.write_single_pass-requires
write_single_pass-requires c =
    let L = (layout-at c.args.incoming.now
    c.read_layout.ensures
    c.in-Read.is).0 in let P = plan-at c.args.plan.now (λ i.
    (c.type_inv.plan i).fits)
    c.read_plan.ensures
    c.in-Read-read_plan.is in let F = record_unfilled (record_fitting L.columns.columns c.args.rec.now (c.read_record.ensures L.columns)
    c.in-Fits.is) in record { ends = ends-none refl; row_at = record { columns = L.columns; values = (record_at F).inner }; selectors_at = P.selectors; rec_len_bound = (omega (arith, (record_at F).short), P.small); longest_value = c.scratch-aside.ensures }
