-- `output::source::long_constant_node` meets its contract: the table is true. Assumes nothing.
use Rattle.ends.proofs.Entries.{clear_zeros}
use borrow.Author.Rules.{rules}
use Rattle.output.proofs.source.long_constant_node.Goals as goal

pub fill_local-requires : goal.fill_local-requires
fill_local-requires c =
    record { type_at = c.requires.raw_at.type; clear = clear_zeros 4098 }

pub slice_bounds-value_at-end : goal.slice_bounds-value_at-end
slice_bounds-value_at-end c =
    search (rules, c.fill_local.ensures.ends_len_unchanged)

pub value_at-requires : goal.value_at-requires
value_at-requires c =
    record { raw_at = c.requires.raw_at; from_le_len = c.requires.deep_le_len; ends = c.fill_local.ensures.ends }

pub returns : goal.returns
returns c =
    λ X. c.value_at.ensures X
