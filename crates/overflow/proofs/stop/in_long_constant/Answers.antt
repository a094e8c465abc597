-- `overflow::stop::in_long_constant` meets its contract: the table is true. Assumes nothing.
use Rattle.ends.proofs.Entries.{clear_zeros}
use borrow.Author.Rules.{rules}
use Rattle.overflow.proofs.stop.in_long_constant.Goals as goal

pub fill_local-requires : goal.fill_local-requires
fill_local-requires c =
    record { type_at = c.requires.raw_at.type; clear = clear_zeros 4098 }

pub slice_bounds-some_at-end : goal.slice_bounds-some_at-end
slice_bounds-some_at-end c =
    search (rules, c.fill_local.ensures.ends_len_unchanged)

pub some_at-requires : goal.some_at-requires
some_at-requires c =
    record { ends = c.fill_local.ensures.ends; raw_at = c.requires.raw_at; small_search = c.requires.small_search }

pub returns : goal.returns
returns c =
    λ X. c.some_at.ensures X
