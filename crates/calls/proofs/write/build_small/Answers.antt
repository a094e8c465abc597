-- `calls::write::build_small` meets its contract. Assumes nothing.
use native.Mathlib.Omega.{arith}
use Rattle.calls.proofs.write.build_small.Goals as goal

pub build_in-requires : goal.build_in-requires
build_in-requires c =
    record { both_in = c.requires.both_in; indexed_table_at = c.requires.indexed_table_at; target_len_bound = c.requires.target_len_bound; room_len_bound = omega arith }
