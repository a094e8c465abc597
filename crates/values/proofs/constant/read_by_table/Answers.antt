use Rattle.ends.proofs.Entries.{clear_zeros}
use borrow.Author.Rules.{rules}
use Rattle.values.proofs.constant.read_by_table.Goals as goal

pub fill_local-requires : goal.fill_local-requires
fill_local-requires c =
    record { type_at = c.requires; clear = clear_zeros 4098 }

pub slice_bounds-read_value-end : goal.slice_bounds-read_value-end
slice_bounds-read_value-end c =
    search (rules, c.fill_local.ensures.ends_len_unchanged)
