use Rattle.run.proofs.Running.{ran-refused, run-overflowing, run-finished, row_of, record_reads, plan_of}
use Rattle.run.proofs.Topping.{tops-to}
use Rattle.output.proofs.Whole.{aside_inside}
use Rattle.values.proofs.Inside.{record_at, record_unfilled}
use mathlib.Core.Path.{sym}
use lib.Seq.{length-take-le}
use lib.ListN.{length}
use borrow.Author.Rules.{rules}
use Rattle.run.proofs.run.run_general.Goals as goal

pub index_row-m-requires : goal.index_row-m-requires
index_row-m-requires c =
    let (P, F) = c.requires.filled_at in record { row_in = row_of P F; ends = c.requires.ends }

pub slice_bounds-write_tops-end : goal.slice_bounds-write_tops-end
slice_bounds-write_tops-end c =
    sym (length-take-le _ _ c.index_row-m.ensures.upper_bound)

pub slice_bounds-write_tops-end-2 : goal.slice_bounds-write_tops-end-2
slice_bounds-write_tops-end-2 c =
    sym (length-take-le _ _ c.index_row-m.ensures.upper_bound_2)

pub write_tops-requires : goal.write_tops-requires
write_tops-requires c =
    let (P, F) = c.requires.filled_at in record { ends = c.requires.ends; indexed_row = (c.index_row-m.ensures.indexed_in, c.stride_of-stride.ensures.result_nonzero); plan_at = (row_of P F, P.targets, plan_of P); rec_len_bound = ((record_at (record_unfilled F)).short, c.requires.longest_value) }

pub hand_over-requires : goal.hand_over-requires
hand_over-requires c =
    λ l.
    let (P, F) = c.requires.filled_at in
    let (x, E) = tops-to (c.write_tops.ensures (row_of P F) P.targets (plan_of P)) c.in-To.is in
    aside_inside (row_of P F).values.values P.selectors.trees x c.requires.longest_value E l

pub returns-in-To : goal.returns-in-To
returns-in-To c =
    λ P F.
    let (x, E) = tops-to (c.write_tops.ensures (row_of P F) P.targets (plan_of P)) c.in-To.is in
    let (w, b) = c.hand_over.ensures (row_of P F).values.values P.selectors.trees c.args.aside.now x c.requires.longest_value E in
    run-finished P.columns.columns P.selectors.trees c.args.rec.now (length c.args.output.now) (record_reads P F) x w c.finish.ensures b

pub returns-in-Overflows : goal.returns-in-Overflows
returns-in-Overflows c =
    λ P F.
    ran-refused (run-overflowing P.columns.columns P.selectors.trees c.args.rec.now (length c.args.output.now) (record_reads P F)
    (tops-to (c.write_tops.ensures (row_of P F) P.targets (plan_of P)) c.in-Overflows.is))
