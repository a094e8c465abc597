use Rattle.composed.proofs.Composing.{raw-is}
use Rattle.ends.proofs.Entries.{ends-none}
use mathlib.Core.Path.{refl}
use Rattle.composed.proofs.compose.over_written.Goals as goal

pub transfer_over-requires : goal.transfer_over-requires
transfer_over-requires c =
    record { ends = ends-none refl; node_in = (_, raw-is refl refl c.requires.raw_at refl); selector_at = c.requires.selector_at; rec_len_bound = c.requires.rec_len_bound }

pub returns : goal.returns
returns c =
    λ ρ X P e. c.transfer_over.ensures ρ P (raw-is refl refl X e)
