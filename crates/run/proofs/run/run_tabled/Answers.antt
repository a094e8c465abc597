-- `run::run::run_tabled` meets its contract: a table of zeros is true, and so is one that is filled. Assumes nothing.
use Rattle.ends.proofs.Entries.{clear_zeros, ends-clear}
use borrow.Author.Rules.{rules}
use Rattle.run.proofs.run.run_tabled.Goals as goal

pub fill_columns-requires : goal.fill_columns-requires
fill_columns-requires c =
    record { columns_at = c.requires.columns; ends = ends-clear (clear_zeros 4098) }

pub slice_bounds-run_record-end : goal.slice_bounds-run_record-end
slice_bounds-run_record-end c =
    search (rules, c.fill_columns.ensures.ends_len_unchanged)
