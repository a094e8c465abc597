use Rattle.composed.proofs.Composing.{raw-is}
use Rattle.ends.proofs.Entries.{clear_zeros}
use mathlib.Core.Path.{refl}
use borrow.Author.Rules.{rules}
use Rattle.composed.proofs.compose.over_by_table.Goals as goal

pub fill_local-requires : goal.fill_local-requires
fill_local-requires c =
    record { type_at = c.requires.raw_at.type; clear = clear_zeros 4098 }

pub slice_bounds-transfer_over-end : goal.slice_bounds-transfer_over-end
slice_bounds-transfer_over-end c =
    search (rules, c.fill_local.ensures.ends_len_unchanged)

pub transfer_over-requires : goal.transfer_over-requires
transfer_over-requires c =
    record { ends = c.fill_local.ensures.ends; node_in = (_, raw-is refl refl c.requires.raw_at refl); selector_at = c.requires.selector_at; rec_len_bound = c.requires.rec_len_bound }

pub returns : goal.returns
returns c =
    λ ρ X P e. c.transfer_over.ensures ρ P (raw-is refl refl X e)
