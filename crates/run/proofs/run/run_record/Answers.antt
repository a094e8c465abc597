use Rattle.run.proofs.Running.{ran-refused, record_refused, run-finished, single_pass_settled, single_pass_unknown, same-buffer, row_of, row_seven}
use Rattle.run.proofs.Running.{record_reads}
use Rattle.values.proofs.Inside.{record_at, record_fitting, record_unfilled}
use mathlib.Core.Path.{sym, ◌∙◌}
use lib.ListN.{length}
use borrow.Author.Rules.{rules}
use Rattle.run.proofs.run.run_record.Goals as goal

pub read_record-requires : goal.read_record-requires
read_record-requires c =
    record { columns_at = c.requires.passed_at.columns; ends = c.requires.ends }

pub write_single_pass-requires : goal.write_single_pass-requires
write_single_pass-requires c =
    let F = record_fitting c.requires.passed_at.columns.columns c.args.rec.now (c.read_record.ensures c.requires.passed_at.columns) c.in-Fits.is in record { ends = c.requires.ends; row_at = row_seven c.requires.passed_at F; selectors_at = c.requires.passed_at.selectors; rec_len_bound = ((record_at (record_unfilled F)).short, c.requires.passed_at.small); longest_value = c.scratch-aside.ensures }

pub run_unsettled-requires : goal.run_unsettled-requires
run_unsettled-requires c =
    let F = record_fitting c.requires.passed_at.columns.columns c.args.rec.now (c.read_record.ensures c.requires.passed_at.columns) c.in-Fits.is in record { ends = c.requires.ends; filled_at = (c.requires.passed_at, F); longest_value = c.scratch-aside.ensures ∙ sym c.write_single_pass.auto.aside }

pub returns-in-Is : goal.returns-in-Is
returns-in-Is c =
    λ P.
    let F = record_fitting P.columns.columns c.args.rec.now (c.read_record.ensures P.columns) c.in-Fits.is in
    let D = single_pass_settled (c.write_single_pass.ensures (row_seven P F) P.selectors) c.in-Is.is in
    run-finished P.columns.columns P.selectors.trees c.args.rec.now (length c.args.output.now) (record_reads P F) D.clean D.answer
    c.finish.ensures D.buffer

pub returns-in-Unknown : goal.returns-in-Unknown
returns-in-Unknown c =
    λ P.
    let F = record_fitting P.columns.columns c.args.rec.now (c.read_record.ensures P.columns) c.in-Fits.is in
    same-buffer P.columns.columns P.selectors.trees c.args.rec.now
    (single_pass_unknown (c.write_single_pass.ensures (row_seven P F) P.selectors) c.in-Unknown.is) (c.run_unsettled.ensures P F)

pub returns-in-Refused : goal.returns-in-Refused
returns-in-Refused c =
    λ P.
    ran-refused (record_refused P.columns.columns P.selectors.trees c.args.rec.now (length c.args.output.now)
    (c.read_record.ensures P.columns) c.in-Refused.is)
