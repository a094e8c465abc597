-- `ends::local::fill_local` meets its contract: a table that is true is filled. Assumes nothing.
use mathlib.Core.Path.{◌∙◌}
use Rattle.ends.proofs.local.fill_local.Goals as goal

pub fill_type-requires : goal.fill_type-requires
fill_type-requires c =
    record { type_at = c.requires.type_at; ends = c.start_table.ensures.ends _ _ }

pub returns : goal.returns
returns c =
    record { ends = c.fill_type.ensures.ends_2; ends_len_unchanged = c.fill_type.ensures.ends_len_unchanged ∙ c.start_table.ensures.ends_len_unchanged }
