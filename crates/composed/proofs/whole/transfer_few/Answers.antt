use native.Mathlib.Omega.{arith}
use mathlib.Core.Path.{refl}
use Rattle.index.proofs.Empty.{row-indexed-none}
use Rattle.composed.proofs.whole.transfer_few.Goals as goal

pub transfer_tops-requires : goal.transfer_tops-requires
transfer_tops-requires c =
    record { ends = c.requires.ends; row_in = c.requires.row_at; indexed_in = (row-indexed-none refl, omega arith); selectors_in = c.requires.selectors_at; rec_len_bound = (c.requires.rec_len_bound.0, c.requires.rec_len_bound.1, omega arith) }
